-- `rows_of` meets its contract, case by case. Assumes nothing.
use Rattle.pacer.specs.Promises.{rows_given}
use Rattle.report.proofs.rows_of.Goals as goal

pub returns-in-Ok : goal.returns-in-Ok
unfolding rows_given
returns-in-Ok c = rw c.in-Ok.is

pub returns-in-Err : goal.returns-in-Err
unfolding rows_given
returns-in-Err c = rw c.in-Err.is c.no_rows.ensures
