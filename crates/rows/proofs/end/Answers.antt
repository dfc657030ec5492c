-- `end` meets its contract. Assumes nothing.
use borrow.Author.Tests.{lt-ltb, le-ltb}
use Rattle.rows.specs.Between.{end_before}
use Rattle.rows.proofs.end.Goals as goal

pub returns-then-next-count : goal.returns-then-next-count
unfolding end_before
returns-then-next-count c = rw (lt-ltb _ _ c.if-next-count.true) c.from.ensures

pub returns-else-next-count : goal.returns-else-next-count
unfolding end_before
returns-else-next-count c = rw (le-ltb _ _ c.if-next-count.false)
