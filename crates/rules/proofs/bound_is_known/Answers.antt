-- `rules::bound_is_known` meets its contract: a limit, or a share. Assumes nothing.
use Rattle.model.specs.Split.{most_rows}
use Rattle.model.specs.Questions.{bound_known}
use Rattle.rules.proofs.bound_is_known.Goals as goal

pub returns-in-Rows : goal.returns-in-Rows
unfolding bound_known most_rows
returns-in-Rows c = rw (c.in-Rows.is, c.from.ensures)

pub returns-in-Share : goal.returns-in-Share
unfolding bound_known
returns-in-Share c = rw c.in-Share.is
