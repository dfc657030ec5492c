-- `twins::key` meets its contract: the number in the eight bytes behind a record's first. Assumes nothing.
use Rattle.model.specs.Log.{record_length}
use Rattle.twins.specs.Keys.{key_of}
use Rattle.twins.proofs.key.Goals as goal

pub returns : goal.returns
unfolding key_of record_length
returns c = c.eight.ensures
