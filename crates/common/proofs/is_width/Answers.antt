-- `common::is_width` meets its contract. Assumes nothing.
use mathlib.Core.Path.{refl}
use Rattle.model.specs.Questions.{width_known}
use Rattle.common.proofs.is_width.Goals as goal

pub returns : goal.returns
unfolding width_known
returns c = refl
