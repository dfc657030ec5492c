-- `put_rows` meets its contract: each turn puts the first of the lines that are left. Assumes nothing.
use Rattle.text.proofs.Putting.{left_less, left_none, room_first}
use Rattle.text.proofs.Lines.{rows_more, rows_none}
use Rattle.text.proofs.put_rows.Goals as goal

pub put_row-next-requires : goal.put_row-next-requires
put_row-next-requires c =
    room_first _ (rows_more c.args.rows.now c.loop-row.row-index _ c.loop-row-test.true) c.loop-row.invariant.room

pub loop-row-preserved : goal.loop-row-preserved
loop-row-preserved c =
    left_less c.loop-row.invariant c.put_row-next.ensures (rows_more c.args.rows.now c.loop-row.row-index _ c.loop-row-test.true)

pub returns : goal.returns
returns c = left_none (rows_none c.args.rows.now c.loop-row.row-index c.loop-row-test.false) c.loop-row.invariant
