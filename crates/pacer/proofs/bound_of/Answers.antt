-- `bound_of` meets its contract: the letter names the bound. Assumes nothing.
use borrow.Author.Tests.{ne_eqb}
use native.Mathlib.Omega.{arith}
use Rattle.model.specs.Common.{option_of}
use Rattle.model.specs.Calls.{bound_of}
use Rattle.pacer.proofs.bound_of.Goals as goal

pub returns-in-82 : goal.returns-in-82
unfolding option_of bound_of
returns-in-82 c = rw c.in-82.is

pub returns-in-69 : goal.returns-in-69
unfolding option_of bound_of
returns-in-69 c = rw c.in-69.is

pub returns-in_default : goal.returns-in_default
unfolding option_of bound_of
returns-in_default c =
    let a = c.args in
    simp (ne_eqb a.letter 0x52 (grind arith), ne_eqb a.letter 0x45 (grind arith))
