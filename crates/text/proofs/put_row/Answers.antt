-- `put_row` meets its contract: the line of a row's numbers. Assumes nothing.
use Rattle.model.specs.Calls.{row_span}
use Rattle.text.specs.Text.{row_text}
use Rattle.text.proofs.put_row.Goals as goal

pub put_line-requires : goal.put_line-requires
unfolding row_text row_span
put_line-requires c = rw (c.from.ensures, c.from-2.ensures, c.from-3.ensures, c.from-4.ensures) c.requires

pub returns : goal.returns
unfolding row_text row_span
returns c = rw (c.from.ensures, c.from-2.ensures, c.from-3.ensures, c.from-4.ensures) at c.put_line.ensures
