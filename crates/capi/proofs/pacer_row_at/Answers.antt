-- `pacer_row_at` meets its contract: the fields of the step, and the number that comes next. Assumes nothing.
use mathlib.Core.Path.{◌∙◌}
use Rattle.answers.specs.Fields.{step_fields}
use Rattle.capi.proofs.pacer_row_at.Goals as goal

pub returns : goal.returns
returns c =
    let e = c.row_at.ensures in
    c.into.ensures ∙ (λ i. step_fields (e.0 i) (e.1 i))
