-- `reader::header_of` meets its contract. Assumes nothing.
use Rattle.model.specs.Slot.{slot_mark, slot_kind, slot_error}
use Rattle.model.specs.Calls.{header_in}
use Rattle.reader.proofs.header_of.Goals as goal

pub returns : goal.returns
unfolding header_in slot_mark slot_kind slot_error
returns c = rw (c.eight.ensures, c.count.ensures)
