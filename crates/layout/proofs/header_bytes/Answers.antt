-- `layout::header_bytes` meets its contract: the library's bytes of a number are its digits to the base 256. Assumes nothing.
use Rattle.theory.proofs.Numbers.{eight_bytes}
use Rattle.layout.proofs.header_bytes.Goals as goal

pub returns : goal.returns
returns c = simp (eight_bytes, c.to_le_bytes-error.ensures)
