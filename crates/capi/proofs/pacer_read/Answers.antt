-- `pacer_read` meets its contract: the fields of the reader's answer. Assumes nothing.
use mathlib.Core.Path.{ap, ◌∙◌}
use Rattle.answers.specs.Fields.{read_fields}
use Rattle.capi.proofs.pacer_read.Goals as goal

pub returns : goal.returns
returns c = c.into.ensures ∙ ap read_fields c.read_header.ensures
