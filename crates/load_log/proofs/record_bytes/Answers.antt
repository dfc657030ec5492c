-- `load_log::record_bytes` meets its contract: each byte is a digit of its number to the base 256. Assumes nothing.
use Rattle.model.specs.Log.{record_bytes}
use Rattle.model.specs.Calls.{record_span}
use Rattle.theory.proofs.Numbers.{two_bytes}
use Rattle.load_log.proofs.record_bytes.Goals as goal

pub returns : goal.returns
unfolding record_bytes record_span
returns c = simp (two_bytes, c.to_le_bytes-first.ensures, c.to_le_bytes-last.ensures, c.to_le_bytes-load.ensures)
