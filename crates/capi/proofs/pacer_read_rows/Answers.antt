-- `pacer_read_rows` meets its contract: the fields of the reader's answer, and the list as it leaves it. Assumes nothing.
use mathlib.Core.Path.{ap, ◌∙◌}
use Rattle.answers.specs.Fields.{read_fields}
use Rattle.capi.proofs.pacer_read_rows.Goals as goal

pub returns : goal.returns
returns c =
    let e = c.read_into.ensures in
    (c.into.ensures ∙ ap read_fields e.says, e.holds)
