-- `compare::with_segments` meets its contract. The invariant is that of the walk; the measure is the number of rows and segments that are
-- left. Assumes nothing.
use Prim.Native.Nat.{◌+◌, ◌-◌}
use Rattle.model.specs.Slot.{slot_row}
use Rattle.compare.proofs.Walking.{Walk}
use Rattle.model.specs.Arrays.{segment_in}
use Rattle.compare.proofs.with_segments.Given as goal

abbrev pub invariant-loop-i : goal.invariant-loop-i
invariant-loop-i l =
    Walk (slot_row l.slot) (segment_in l.segments) l.count l.segments.count l.i l.j l.from l.reaches l.error

abbrev pub decreases-loop-i : goal.decreases-loop-i
decreases-loop-i l = l.count - l.i + (l.segments.count - l.j)
