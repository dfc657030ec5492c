-- `pacer_segments` meets its contract: the fields of what the segment call says, and the list as it leaves it. Assumes nothing.
use mathlib.Core.Path.{ap, ◌∙◌}
use Rattle.answers.specs.Fields.{segments_fields}
use Rattle.capi.proofs.pacer_segments.Goals as goal

pub returns : goal.returns
returns c =
    let e = c.segments.ensures in
    (c.into.ensures ∙ ap segments_fields e.says, e.holds, (_, c.into.ensures, e.promise))
