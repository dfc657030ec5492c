-- `tally::mean` meets its contract. Assumes nothing.
use mathlib.Core.Path.{refl}
use Rattle.tally.proofs.mean.Goals as goal

pub returns : goal.returns
returns c = refl
