-- `slot::row` meets its contract: each field is the number that stands at its place. Assumes nothing.
use Rattle.model.specs.Slot.{slot_row}
use Rattle.model.specs.Calls.{row_of_span}
use Rattle.slot.proofs.row.Goals as goal

pub returns : goal.returns
unfolding slot_row row_of_span
returns c = rw (c.four.ensures, c.two-2.ensures, c.two.ensures, c.place-at.ensures)
