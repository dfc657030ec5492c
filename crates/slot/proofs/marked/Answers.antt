-- `slot::marked` meets its contract: each byte is below 256, so one number tells both. Assumes nothing.
use native.Mathlib.Omega.{arith}
use Rattle.slot.proofs.Compared.{marked_number}
use Rattle.slot.proofs.marked.Goals as goal

pub returns : goal.returns
returns c =
    let a = c.args in
    rw (c.two.ensures, c.from_le_bytes.ensures)
    (marked_number a.bytes.now a.at a.a a.b (omega (arith, c.type_inv.bytes a.at)) (omega arith))
