-- What a rule that is known says of a query's windows. Assumes nothing.
use Prim.Native.Nat.{ℕ, ◌≤◌, ◌<◌}
use mathlib.Core.Bool.{true, ◌&&◌, false≢true}
use mathlib.Core.List.{List, []}
use mathlib.Core.Path.{◌≡◌, refl}
use native.Mathlib.Omega.{arith}
use lib.Dec.{leb}
use borrow.Author.Tests.{ltb-true, leb-true}
use Rattle.std.specs.Prelude.{Option, Some, None, is_some}
use Rattle.model.specs.Common.{every, option_of, list_from, joined}
use Rattle.model.specs.Spans.{Span, group_count}
use Rattle.model.specs.Windows.{bound_in, beat, scene, beat_count, window_count, window_at, windows, group_rows, span_rows}
use Rattle.model.specs.Questions.{ask, scene_known, most_scenes, scenes_known, rule_question}
use Rattle.model.specs.declared.Bound.{Bound}
use Rattle.model.specs.declared.Rule.{Rule}
use Rattle.model.specs.declared.Rule.TheVariants.{Rows, Share, Every, Scenes}
use Rattle.model.specs.declared.RuledQuery.{RuledQuery}
use Rattle.theory.proofs.Tests as tests
use Rattle.theory.proofs.Tests.{none≢some}
use Rattle.theory.proofs.Every.{every_at}
use Rattle.windows.specs.Listed.{Known}
use Rattle.windows.proofs.Beats.{beat_forward}

module _ (q : RuledQuery) (length start : ℕ) (rule : q.rule ≡ Every length start) where
  pub some_frames : Known q → 0 < length
  unfolding rule_question ask
  some_frames known = ltb-true 0 length (rw (rule, rule_question) at known)

  pub beat_count_lem : window_count q.rule ≡ beat_count length start
  unfolding window_count
  beat_count_lem = rw rule

  pub beat_at : (i : ℕ) → window_at q i ≡ beat length start i
  unfolding window_at
  beat_at i = rw (rule, window_at)

module _ (q : RuledQuery) (count : ℕ) (rule : q.rule ≡ Scenes count) where
  -- so many scenes, and each as it must be
  scenes_pass : Known q
      → (leb 1 count && leb count most_scenes ≡ true) × (every (scene_known q.firsts q.lasts) 0 count ≡ true)
  unfolding rule_question ask scenes_known
  scenes_pass known = tests.and-true _ _ (rw (rule, rule_question) at known)

  pub few_scenes : Known q → count ≤ 16
  unfolding most_scenes
  few_scenes known = leb-true count 16 (tests.and-true (leb 1 count) (leb count most_scenes) (scenes_pass known).0).1

  pub scene_count : window_count q.rule ≡ count
  unfolding window_count
  scene_count = rw rule

  pub scene_at : (i : ℕ) → window_at q i ≡ scene q.firsts q.lasts i
  unfolding window_at
  scene_at i = rw (rule, window_at)

  pub scene_forward : Known q → (i : ℕ) → i < count → (scene q.firsts q.lasts i).first ≤ (scene q.firsts q.lasts i).last
  unfolding scene scene_known
  scene_forward known i lt =
      let one = every_at (scene_known q.firsts q.lasts) 0 count (scenes_pass known).1 i (omega arith) (omega arith) in
      leb-true _ _ (tests.and-true _ _ (tests.and-true _ _ one).0).0

-- a query's windows are each from a first frame to a last one
pub forward : (q : RuledQuery) → Known q → (i : ℕ) → i < window_count q.rule → (window_at q i).first ≤ (window_at q i).last
unfolding window_count
forward q known i lt = by q.rule refl
  where
    by : (r : Rule) → q.rule ≡ r → (window_at q i).first ≤ (window_at q i).last
    by (Rows c) e = absurd (omega (arith, rw e at lt))
    by (Share p) e = absurd (omega (arith, rw e at lt))
    by (Every length start) e =
        rw (beat_at q length start e i)
        (beat_forward length start (some_frames q length start e known) i (rw (beat_count_lem q length start e) at lt))
    by (Scenes count) e = rw (scene_at q count e i) (scene_forward q count e known i (rw (scene_count q count e) at lt))

-- a bound has no windows, and so no rows by windows
pub no_windows : (q : RuledQuery) (bound : Option Bound) → option_of bound ≡ bound_in q.rule → is_some bound ≡ true → (kind : ℕ)
    (rs : List (Span ℕ)) → span_rows kind rs (windows q) ≡ []
unfolding windows window_count bound_in option_of span_rows group_rows group_count joined list_from
no_windows q None same bounded kind rs = absurd (false≢true bounded)
no_windows q (Some bound) same bounded kind rs = by q.rule refl
  where
    by : (r : Rule) → q.rule ≡ r → span_rows kind rs (windows q) ≡ []
    by (Rows c) e = rw e
    by (Share p) e = rw e
    by (Every length start) e = absurd (none≢some (rw e at same) refl)
    by (Scenes count) e = absurd (none≢some (rw e at same) refl)
