-- `goes_on` meets its contract. Assumes nothing.
use borrow.Author.Tests.{lt-ltb, le-ltb}
use Rattle.choice.proofs.goes_on.Goals as goal

pub returns-then-k-last : goal.returns-then-k-last
returns-then-k-last c = rw (lt-ltb _ _ c.if-k-last.true) (rw c.met.ensures)

pub returns-else-k-last : goal.returns-else-k-last
returns-else-k-last c = rw (le-ltb _ _ c.if-k-last.false)
