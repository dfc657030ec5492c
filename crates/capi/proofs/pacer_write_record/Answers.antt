-- `pacer_write_record` meets its contract: the fields of the writer's answer, and the buffer as it leaves it. Assumes nothing.
use mathlib.Core.Path.{ap, ◌∙◌}
use Rattle.model.specs.Calls.{record_span}
use Rattle.answers.specs.Fields.{asked_fields}
use Rattle.capi.specs.Promises.{span_of}
use Rattle.capi.proofs.pacer_write_record.Goals as goal

pub returns : goal.returns
unfolding span_of record_span
returns c =
    let e = c.write_record.ensures in
    record {
      says = c.into.ensures ∙ ap asked_fields e.says;
      holds = e.holds;
    }
