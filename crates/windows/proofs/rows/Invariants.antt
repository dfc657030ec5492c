-- Both loops' invariant: the rows listed, and then those left of this group's windows and of the groups behind it, are all rows.
-- Assumes nothing.
use Prim.Native.Nat.{◌-◌, ◌≤◌}
use Rattle.model.specs.Common.{list_from}
use Rattle.model.specs.Calls.{kind_number}
use Rattle.model.specs.Windows.{window_at, span_rows}
use Rattle.model.specs.Arrays.{records_in}
use Rattle.windows.proofs.Listings.{Made}
use Rattle.windows.proofs.Meeting.{rows_from, rows_left}
use Rattle.windows.proofs.rows.Given as goal

abbrev pub invariant-loop-i : goal.invariant-loop-i
invariant-loop-i l =
    (l.i ≤ l.n)
    × Made l.rows l.made (rows_left (kind_number l.kind) (records_in l.records) (window_at l.query) l.n l.group l.i)
    (span_rows (kind_number l.kind) (records_in l.records) (list_from 0 l.n (window_at l.query)))

abbrev pub decreases-loop-i : goal.decreases-loop-i
decreases-loop-i l = l.n - l.i

abbrev pub invariant-loop-group : goal.invariant-loop-group
invariant-loop-group l =
    Made l.rows l.made (rows_from (kind_number l.kind) (records_in l.records) (window_at l.query) l.n l.group)
    (span_rows (kind_number l.kind) (records_in l.records) (list_from 0 l.n (window_at l.query)))
