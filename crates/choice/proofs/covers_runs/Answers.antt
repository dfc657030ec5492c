-- `covers_runs` meets its contract. Assumes nothing.
use Rattle.choice.specs.Bounds.{covers_runs}
use Rattle.choice.proofs.covers_runs.Goals as goal

pub returns-in-Rows : goal.returns-in-Rows
unfolding covers_runs
returns-in-Rows c = rw (c.in-Rows.is, c.from.ensures)

pub returns-in-Share : goal.returns-in-Share
unfolding covers_runs
returns-in-Share c = rw c.in-Share.is
