-- `beats` meets its contract. Assumes nothing.
use Rattle.model.specs.Calls.{beat_query}
use Rattle.rules.proofs.beats.Goals as goal

pub returns : goal.returns
unfolding beat_query
returns c = rw (c.no_frames.ensures, c.no_frames-2.ensures)
