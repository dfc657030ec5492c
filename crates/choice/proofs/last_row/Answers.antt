-- `last_row` meets its contract. Assumes nothing.
use Rattle.model.specs.Split.{most_rows}
use Rattle.choice.specs.Bounds.{last_row}
use Rattle.choice.proofs.last_row.Goals as goal

pub returns-in-Rows : goal.returns-in-Rows
unfolding last_row most_rows
returns-in-Rows c = rw (c.in-Rows.is, c.min.ensures, c.from.ensures)

pub returns-in-Share : goal.returns-in-Share
unfolding last_row most_rows
returns-in-Share c = rw (c.in-Share.is, c.min-in-Share.ensures)
