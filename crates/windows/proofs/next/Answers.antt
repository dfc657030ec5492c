-- `windows::next` meets its contract, rule by rule: with a bound there is no window to go on from. Assumes nothing.
use mathlib.Core.Logic.{inl, inr}
use mathlib.Core.Path.{◌∙◌}
use native.Mathlib.Omega.{arith}
use Rattle.model.specs.Windows.{beat, window_count}
use Rattle.windows.proofs.Rules.{some_frames, beat_count_lem, beat_at}
use Rattle.windows.proofs.next.Goals as goal

pub next_beat-requires : goal.next_beat-requires
unfolding beat
next_beat-requires c =
    let q = c.args.query.now in
    let e = c.in-Every.is in (
      some_frames q _ _ e c.requires.0,
      c.requires.1,
      c.requires.2 ∙ beat_count_lem q _ _ e,
      omega (arith, rw (beat_at q _ _ e c.args.i) at c.requires.3),
    )

pub returns-in-Rows : goal.returns-in-Rows
unfolding window_count
returns-in-Rows c =
    absurd (elim c.in-Rows.is [
      | inl p ↦ omega (arith, c.requires.1, rw p.1 at c.requires.2)
      | inr p ↦ omega (arith, c.requires.1, rw p.1 at c.requires.2)
    ])

pub returns-in-Every : goal.returns-in-Every
returns-in-Every c =
    let q = c.args.query.now in
    let e = c.in-Every.is in
    let r = c.next_beat.ensures in
    record {
      more = r.more;
      within = r.within;
      begun = λ k lt before. rw (beat_at q _ _ e c.args.i, beat_at q _ _ e k) (r.begun k lt before);
      ended = λ k lt before. rw (beat_at q _ _ e k) (r.ended k lt before);
    }
