-- `common::four` meets its contract: the number in 4 bytes is made of two in half as many. Assumes nothing.
use native.Mathlib.Omega.{arith}
use Rattle.theory.proofs.Numbers.{number_add}
use Rattle.common.proofs.four.Goals as goal

pub returns : goal.returns
returns c =
    let a = c.args in
    omega (arith, number_add 2 2 a.bytes.now a.at)
