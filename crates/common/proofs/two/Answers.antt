-- `common::two` meets its contract. Assumes nothing.
use mathlib.Core.Path.{◌∙◌}
use native.Mathlib.Omega.{arith}
use native.Mathlib.Numerals.{add-one}
use Rattle.model.specs.Common.{number_at}
use Rattle.common.proofs.two.Goals as goal

pub returns : goal.returns
unfolding number_at
returns c = c.from_le_bytes.ensures ∙ rw add-one (omega arith)
