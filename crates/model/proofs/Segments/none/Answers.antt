-- `Segments::none` meets its contract: with no spans a column is zeros. Assumes nothing.
use mathlib.Core.Path.{refl}
use Rattle.model.specs.Arrays.{column, segment_arrays}
use Rattle.model.proofs.Segments.none.Goals as goal

pub returns : goal.returns
unfolding segment_arrays column
returns c = refl
