-- Records that stand for a log's with a memory.
use Rattle.std.specs.Prelude.{ℕ, ◌≤◌, List, ◌≡◌}
use Rattle.model.specs.Log.{records, value}
use Rattle.model.specs.Questions.{most_records}
use Rattle.model.specs.Arrays.{records_in}
use Rattle.model.specs.declared.Records.{Records}

-- at width 1 the records in these arrays have the values that the log's have at the width, and so the same segments
pub record Remembers (width : ℕ) (log : List ℕ) (arrays : Records) : Type 0 where
  pub few : arrays.count ≤ most_records
  pub same : (kind : ℕ) → value kind 1 (records_in arrays) ≡ value kind width (records log)
