-- `pacer_without_twins` meets its contract: the fields of the answer of the call for logs on file, and the buffer as it leaves it.
-- Assumes nothing.
use mathlib.Core.Path.{ap, ◌∙◌}
use Rattle.answers.specs.Fields.{log_fields}
use Rattle.capi.proofs.pacer_without_twins.Goals as goal

pub returns : goal.returns
returns c =
    let e = c.without_twins.ensures in
    record {
      says = c.into.ensures ∙ ap log_fields e.says;
      holds = e.holds;
      promise = (_, c.into.ensures, e.promise);
    }
