-- `reader::holds` meets its contract. Assumes nothing.
use mathlib.Core.Path.{refl}
use Rattle.model.specs.Spans.{meets, holds}
use Rattle.model.specs.Calls.{row_span}
use Rattle.reader.proofs.holds.Goals as goal

pub returns : goal.returns
unfolding holds meets row_span
returns c = refl
