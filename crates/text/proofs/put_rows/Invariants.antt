-- The loop's invariant: the lines that are left complete those of all rows. Assumes nothing.
use lib.ListN.{drop}
use mathlib.Core.List.{map}
use Rattle.model.specs.Calls.{row_span}
use Rattle.text.specs.Text.{rows_text}
use Rattle.text.proofs.Putting.{Left}
use Rattle.text.proofs.put_rows.Given as goal

abbrev pub invariant-loop-row : goal.invariant-loop-row
invariant-loop-row l =
    Left l.initial.out l.initial.next (rows_text (map row_span l.rows)) l.out l.next (rows_text (map row_span (drop l.row-index l.rows)))
