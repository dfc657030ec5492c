-- `common::no_rows` meets its contract. Assumes nothing.
use mathlib.Core.Path.{refl}
use Rattle.model.specs.Spans.{nowhere}
use Rattle.model.specs.Calls.{row_of_span}
use Rattle.model.specs.Arrays.{row_array}
use Rattle.common.proofs.no_rows.Goals as goal

pub returns : goal.returns
unfolding row_array row_of_span nowhere
returns c = refl
