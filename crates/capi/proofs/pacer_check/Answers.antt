-- `pacer_check` meets its contract: the fields of what the check says. Assumes nothing.
use mathlib.Core.Path.{ap, ◌∙◌}
use Rattle.answers.specs.Fields.{asked_fields}
use Rattle.capi.proofs.pacer_check.Goals as goal

pub returns : goal.returns
returns c =
    let e = c.check.ensures in
    record {
      says = c.into.ensures ∙ ap asked_fields e.says;
      promise = (_, c.into.ensures, e.promise);
    }
