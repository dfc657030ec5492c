-- `windows::count_beats` meets its contract. Assumes nothing.
use Rattle.model.specs.Spans.{frame_count}
use Rattle.model.specs.Windows.{beat_count}
use Rattle.windows.proofs.count_beats.Goals as goal

pub returns : goal.returns
unfolding beat_count frame_count
returns c = rw (c.from.ensures, c.from-2.ensures, c.from-3.ensures)
