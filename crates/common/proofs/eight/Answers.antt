-- `common::eight` meets its contract: the number in 8 bytes is made of two in half as many. Assumes nothing.
use native.Mathlib.Omega.{arith}
use Rattle.theory.proofs.Numbers.{number_add}
use Rattle.common.proofs.eight.Goals as goal

pub returns : goal.returns
returns c =
    let a = c.args in
    omega (arith, number_add 4 4 a.bytes.now a.at)
