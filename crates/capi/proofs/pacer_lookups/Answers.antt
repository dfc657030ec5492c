-- `pacer_lookups` meets its contract: the fields of what the many lookups say, and both lists as they leave them. Assumes nothing.
use mathlib.Core.Path.{ap, ◌∙◌}
use Rattle.answers.specs.Fields.{asked_fields}
use Rattle.capi.proofs.pacer_lookups.Goals as goal

pub returns : goal.returns
returns c =
    let e = c.look_up.ensures in
    record {
      says = c.into.ensures ∙ ap asked_fields e.says;
      found = e.found;
      flagged = e.flagged;
      promise = (_, c.into.ensures, e.promise);
    }
