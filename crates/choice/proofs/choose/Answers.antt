-- `choose` meets its contract. Assumes nothing.
use Rattle.choice.specs.Bounds.{choice_in}
use Rattle.choice.proofs.choose.Goals as goal

pub returns-in-Rows : goal.returns-in-Rows
unfolding choice_in
returns-in-Rows c = rw (c.in-Rows.is, c.least_rows.ensures)

pub returns-in-Share : goal.returns-in-Share
unfolding choice_in
returns-in-Share c = rw (c.then_some.ensures, c.met.ensures, c.in-Share.is)
