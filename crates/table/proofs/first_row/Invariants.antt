-- The places before i hold the errors of one row over so many segments. Assumes nothing.
use Prim.Native.Nat.{ℕ, ◌+◌, ◌≤◌, ◌<◌}
use mathlib.Core.Path.{◌≡◌}
use lib.ListN.{length, get_or}
use Rattle.model.specs.Split.{least}
use Rattle.triangle.specs.Places.{error_at, gap_at}
use Rattle.choice.specs.Errors.{Stands}
use Rattle.table.proofs.first_row.Given as goal

abbrev pub invariant-loop-i : goal.invariant-loop-i
invariant-loop-i l = record {
  few : l.n ≤ 255;
  to : l.i ≤ l.n + 1;
  size : length l.row ≡ 256;
  filled : (x : ℕ) → x < l.i → Stands (get_or l.row x 0) (least (error_at l.errors) (gap_at l.gaps) 1 x);
}
