-- `common::place` meets its contract. Assumes nothing.
use mathlib.Core.Path.{refl}
use Rattle.model.specs.Slot.{row_place}
use Rattle.common.proofs.place.Goals as goal

pub returns : goal.returns
unfolding row_place
returns c = refl
