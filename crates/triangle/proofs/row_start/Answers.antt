-- `row_start` meets its contract. Assumes nothing.
use native.Mathlib.Omega.{arith}
use Rattle.triangle.proofs.Starts.{start_by_division}
use Rattle.triangle.proofs.row_start.Goals as goal

pub returns : goal.returns
returns c = start_by_division c.args.i (omega arith)
