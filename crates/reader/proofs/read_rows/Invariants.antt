-- `reader::read_rows` meets its contract. The invariant: the array holds the first `i` rows. Assumes nothing.
use mathlib.Core.Path.{◌≡◌}
use Rattle.model.specs.Common.{list_from}
use Rattle.model.specs.Slot.{slot_row}
use Rattle.model.specs.Arrays.{row_array}
use Rattle.reader.proofs.read_rows.Given as goal

abbrev pub invariant-loop-i : goal.invariant-loop-i
invariant-loop-i l = l.rows ≡ row_array (list_from 0 l.i (slot_row l.slot))
