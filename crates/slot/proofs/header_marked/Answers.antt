-- `slot::header_marked` meets its contract: the mark is compared with each of the two. Assumes nothing.
use Rattle.model.specs.Questions.{header_marked}
use Rattle.slot.proofs.header_marked.Goals as goal

pub returns : goal.returns
unfolding header_marked
returns c = rw (c.marked.ensures, c.marked-2.ensures)
