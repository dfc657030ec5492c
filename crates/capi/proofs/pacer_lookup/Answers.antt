-- `pacer_lookup` meets its contract: the fields of the lookup's answer. Assumes nothing.
use mathlib.Core.Path.{ap, ◌∙◌}
use Rattle.answers.specs.Fields.{lookup_fields}
use Rattle.capi.proofs.pacer_lookup.Goals as goal

pub returns : goal.returns
returns c = c.into.ensures ∙ ap lookup_fields c.lookup.ensures
