-- `fill` meets its contract. Between rows the table is filled to row `k`; between cells, from cell `i` on; between candidates, what is
-- left of the scan is the cell. Assumes nothing.
use Prim.Native.Nat.{◌-◌}
use mathlib.Core.Path.{◌≡◌}
use Rattle.triangle.specs.Places.{row_start, error_at, gap_at}
use Rattle.table.proofs.Steps.{Scanning, Cells, Filled}
use Rattle.table.proofs.fill.Given as goal

abbrev pub invariant-scan : goal.invariant-scan
invariant-scan l =
    Scanning (error_at l.errors) (gap_at l.gaps) l.task.segments l.task.runs l.k l.row l.i l.low l.at l.best × (l.start ≡ row_start l.i)

abbrev pub decreases-scan : goal.decreases-scan
decreases-scan l =
    l.at

abbrev pub invariant-loop-i : goal.invariant-loop-i
invariant-loop-i l =
    Cells (error_at l.errors) (gap_at l.gaps) l.task.segments l.task.runs l.k l.row l.table l.weighed l.i

abbrev pub invariant-loop-row : goal.invariant-loop-row
invariant-loop-row l =
    Filled (error_at l.errors) (gap_at l.gaps) l.task l.last l.row l.column l.table l.weighed l.k

abbrev pub decreases-loop-row : goal.decreases-loop-row
decreases-loop-row l =
    l.last - l.k
