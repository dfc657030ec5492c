-- `slot::place_of` meets its contract. Assumes nothing.
use Rattle.slot.specs.Places.{place_of}
use Rattle.slot.proofs.place_of.Goals as goal

pub returns : goal.returns
unfolding place_of
returns c = rw (c.from.ensures, c.from-2.ensures)
