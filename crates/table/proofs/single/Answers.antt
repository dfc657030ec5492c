-- `single` meets its contract. Assumes nothing.
use native.Mathlib.Omega.{arith}
use borrow.Author.Tests.{eq-eqb, ne_eqb}
use Rattle.choice.proofs.Errors.{none_in, some_in}
use Rattle.table.proofs.single.Goals as goal

pub returns-then-gap-eq0 : goal.returns-then-gap-eq0
returns-then-gap-eq0 c =
    let small = c.requires c.if-gap-eq0.true in
    rw (eq-eqb _ _ c.if-gap-eq0.true) (record { is = some_in _ (omega arith); le = omega arith })

pub returns-else-gap-eq0 : goal.returns-else-gap-eq0
returns-else-gap-eq0 c = rw (ne_eqb _ _ c.if-gap-eq0.false) (record { is = none_in _ (omega arith); le = omega arith })
