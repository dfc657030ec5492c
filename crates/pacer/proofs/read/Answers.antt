-- `read` meets its contract: the reader's rows, or rows of zeros. Assumes nothing.
use Rattle.pacer.proofs.Answering.{rows_read}
use Rattle.pacer.proofs.read.Goals as goal

pub returns : goal.returns
returns c =
    let e = c.read.ensures in
    record { header = e.says; rows = rows_read c.args.slot.now c.read.result e.says e.rows }
