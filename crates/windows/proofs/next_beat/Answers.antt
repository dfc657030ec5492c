-- `windows::next_beat` meets its contract: the windows ahead of the one that holds the frame after `stop` end before it. Assumes
-- nothing.
use native.Mathlib.Omega.{arith}
use Rattle.windows.proofs.Beats.{next_within, next_ended, later_begun, all_ended}
use Rattle.windows.proofs.next_beat.Goals as goal

pub returns-then-stop-eq65535 : goal.returns-then-stop-eq65535
returns-then-stop-eq65535 c =
    record {
      more = c.requires.1;
      within = omega arith;
      begun = λ k lt before. later_begun c.args.length c.args.start c.requires.0 c.args.i k lt;
      ended = λ k lt before. rw c.if-stop-eq65535.true (all_ended c.args.length c.args.start c.requires.0 k);
    }

pub returns : goal.returns
returns c =
    let a = c.args in
    let within = next_within a.length a.start c.requires.0 a.stop c.requires.3 (omega arith) in
    let later = rw (c.from.ensures, c.from-2.ensures, c.from-3.ensures) at c.max.ensures in
    rw later
    (record {
      more = omega arith;
      within = omega (arith, within, c.requires.2);
      begun = λ k lt before. later_begun a.length a.start c.requires.0 a.i k lt;
      ended = λ k lt before. next_ended a.length a.start c.requires.0 a.stop c.requires.3 k (omega arith);
    })
