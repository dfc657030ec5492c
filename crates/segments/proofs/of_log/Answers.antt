-- `segments::of_log` meets its contract: the records remembered have at width 1 the segments that the log has at the width. Assumes
-- nothing.
use mathlib.Core.Path.{ap, ◌∙◌}
use Rattle.model.specs.Arrays.{segment_arrays}
use Rattle.model.specs.Calls.{kind_number}
use Rattle.load_log.proofs.Asking.{few_records}
use Rattle.memory.proofs.Moving.{same_segments}
use Rattle.segments.proofs.of_log.Goals as goal

pub records-records-requires : goal.records-records-requires
records-records-requires c = record {
  few_records = few_records c.args.log.now c.requires.log_passes;
  some_frames = c.requires.some_frames;
}

pub find-requires : goal.find-requires
find-requires c =
    record {
      few = c.records-records.ensures.few;
      none_made = c.requires.none_made;
    }

pub returns : goal.returns
returns c =
    let a = c.args in
    c.find.ensures ∙ ap segment_arrays (same_segments a.width a.log.now c.records-records.result c.records-records.ensures (kind_number a.kind))
