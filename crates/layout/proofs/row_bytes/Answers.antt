-- `layout::row_bytes` meets its contract: the library's bytes of a number are its digits to the base 256. Assumes nothing.
use Rattle.model.specs.Slot.{row_bytes}
use Rattle.model.specs.Calls.{row_span}
use Rattle.theory.proofs.Numbers.{two_bytes, four_bytes}
use Rattle.layout.proofs.row_bytes.Goals as goal

pub returns : goal.returns
unfolding row_bytes row_span
returns c =
    simp (two_bytes, four_bytes, c.to_le_bytes-first.ensures, c.to_le_bytes-last.ensures, c.to_le_bytes-value.ensures)
