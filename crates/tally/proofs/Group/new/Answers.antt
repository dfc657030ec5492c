-- `tally::Group::new` meets its contract. Assumes nothing.
use mathlib.Core.Path.{refl}
use Rattle.model.specs.Common.{list_from}
use Rattle.tally.proofs.Group.new.Goals as goal

pub returns : goal.returns
unfolding list_from
returns c = refl
