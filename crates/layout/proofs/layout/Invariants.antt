-- `layout::layout` meets its contract. The invariant: header and the first `i` rows are in place. Assumes nothing.
use mathlib.Core.Path.{◌≡◌}
use Rattle.layout.proofs.Placed.{so_far}
use Rattle.layout.proofs.layout.Given as goal

abbrev pub invariant-loop-i : goal.invariant-loop-i
invariant-loop-i l = l.slot ≡ so_far l.mark l.kind l.error l.count l.rows l.i
