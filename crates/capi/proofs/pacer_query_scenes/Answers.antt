-- `pacer_query_scenes` meets its contract: the fields of the answer to a query by scenes, and the slot as it leaves it. Assumes nothing.
use mathlib.Core.Path.{ap, ◌∙◌}
use Rattle.answers.specs.Fields.{query_fields}
use Rattle.capi.proofs.pacer_query_scenes.Goals as goal

pub returns : goal.returns
returns c =
    let e = c.query_by_scenes.ensures in
    record {
      says = c.into.ensures ∙ ap query_fields e.says;
      holds = e.holds;
      promise = (_, c.into.ensures, e.promise);
    }
