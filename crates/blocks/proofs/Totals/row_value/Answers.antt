-- `Totals::row_value` meets its contract. Assumes nothing.
use mathlib.Core.Path.{◌∙◌}
use Rattle.model.specs.Calls.{kind_number}
use Rattle.theory.proofs.RowValues.{of_greatest, of_others}
use Rattle.blocks.specs.Meaning.{totals_in}
use Rattle.blocks.proofs.Bounds.{other_kind}
use Rattle.blocks.proofs.Totals.row_value.Goals as goal

pub returns-in-Greatest : goal.returns-in-Greatest
unfolding totals_in kind_number
returns-in-Greatest c = of_greatest _ _ (rw c.in-Greatest.is)

pub returns-in_default : goal.returns-in_default
unfolding totals_in
returns-in_default c = c.nearest_mean.ensures ∙ of_others _ _ (other_kind _ c.in_default.not-Greatest)
