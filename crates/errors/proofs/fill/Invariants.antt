-- `fill` meets its contract. The invariant: the places of the blocks that end with one of the first `i` segments hold their errors.
-- Assumes nothing.
use Rattle.model.specs.Calls.{kind_number}
use Rattle.errors.proofs.Filling.{Rows}
use Rattle.errors.proofs.fill.Given as goal

abbrev pub invariant-loop-i : goal.invariant-loop-i
invariant-loop-i l = Rows (kind_number l.kind) l.segments l.gaps l.initial.errors l.segments.count l.i l.start l.errors
