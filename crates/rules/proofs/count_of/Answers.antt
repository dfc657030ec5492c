-- `count_of` meets its contract. Assumes nothing.
use borrow.Author.Tests.{eq-eqb, ne_eqb}
use Rattle.rules.proofs.count_of.Goals as goal

pub returns-then-firsts-lasts : goal.returns-then-firsts-lasts
returns-then-firsts-lasts c = rw (eq-eqb _ _ c.if-firsts-lasts.true)

pub returns-else-firsts-lasts : goal.returns-else-firsts-lasts
returns-else-firsts-lasts c = rw (ne_eqb _ _ c.if-firsts-lasts.false)
