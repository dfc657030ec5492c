-- `tally::Own::stop` meets its contract, by its two tests. Assumes nothing.
use borrow.Author.Tests.{lt-ltb, le-ltb, le-leb, lt-leb}
use Rattle.tally.specs.Tally.{stop_of}
use Rattle.tally.proofs.Own.stop.Goals as goal

pub returns-then-a-self : goal.returns-then-a-self
unfolding stop_of
returns-then-a-self c = simp (lt-ltb _ _ c.if-a-self.true)

pub returns-then-a-self-2 : goal.returns-then-a-self-2
unfolding stop_of
returns-then-a-self-2 c = simp (le-ltb _ _ c.if-a-self.false, le-leb _ _ c.if-a-self-2.true)

pub returns : goal.returns
unfolding stop_of
returns c = simp (le-ltb _ _ c.if-a-self.false, lt-leb _ _ c.if-a-self-2.false)
