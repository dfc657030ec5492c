-- `slot::row_known` meets its contract. Assumes nothing.
use mathlib.Core.Path.{refl}
use Rattle.model.specs.Questions.{group_known, row_known}
use Rattle.model.specs.Calls.{row_span}
use Rattle.slot.proofs.row_known.Goals as goal

pub returns : goal.returns
unfolding row_known group_known row_span
returns c = refl
