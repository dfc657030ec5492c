-- `Records::none` meets its contract: with no spans a column is zeros. Assumes nothing.
use mathlib.Core.Path.{refl}
use Rattle.model.specs.Arrays.{column, record_arrays}
use Rattle.model.proofs.Records.none.Goals as goal

pub returns : goal.returns
unfolding record_arrays column
returns c = refl
