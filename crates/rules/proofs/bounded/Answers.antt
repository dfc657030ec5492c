-- `bounded` meets its contract. Assumes nothing.
use Rattle.model.specs.Calls.{bounded_query}
use Rattle.rules.proofs.bounded.Goals as goal

pub returns : goal.returns
unfolding bounded_query
returns c = rw (c.into.ensures, c.no_frames.ensures, c.no_frames-2.ensures)
