-- `Segments::at` meets its contract. Assumes nothing.
use mathlib.Core.Path.{refl}
use Rattle.model.specs.Calls.{segment_of}
use Rattle.model.specs.Arrays.{span_in}
use Rattle.model.proofs.Segments.at.Goals as goal

pub returns : goal.returns
unfolding segment_of span_in
returns c = refl
