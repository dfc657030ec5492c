-- `lay_out` meets its contract. Assumes nothing.
use Rattle.preparing.specs.Prepared.{with_rows}
use Rattle.preparing.proofs.lay_out.Goals as goal

pub returns : goal.returns
unfolding with_rows
returns c = rw (c.layout.ensures, c.from.ensures)
