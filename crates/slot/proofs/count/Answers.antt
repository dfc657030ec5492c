-- `slot::count` meets its contract. Assumes nothing.
use Rattle.model.specs.Slot.{slot_count}
use Rattle.slot.proofs.count.Goals as goal

pub returns : goal.returns
unfolding slot_count
returns c = c.from.ensures
