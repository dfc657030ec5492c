-- `pacer_query_beats` meets its contract: the fields of the answer to a query every so many frames, and the slot as it leaves it. Assumes nothing.
use mathlib.Core.Path.{ap, ◌∙◌}
use Rattle.answers.specs.Fields.{query_fields}
use Rattle.capi.proofs.pacer_query_beats.Goals as goal

pub returns : goal.returns
returns c =
    let e = c.query_by_beats.ensures in
    record {
      says = c.into.ensures ∙ ap query_fields e.says;
      holds = e.holds;
      promise = (_, c.into.ensures, e.promise);
    }
