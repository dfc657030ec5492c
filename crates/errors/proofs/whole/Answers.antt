-- `whole` meets its contract. Assumes nothing.
use mathlib.Core.Path.{sym, subst}
use native.Mathlib.Omega.{arith}
use Rattle.model.specs.Room.{Block}
use Rattle.errors.proofs.Filling.{block_error_lem}
use Rattle.errors.proofs.whole.Goals as goal

pub block_totals-requires : goal.block_totals-requires
block_totals-requires c = (omega arith, c.requires)

pub error-requires : goal.error-requires
error-requires c = subst Block (sym c.block_totals.ensures) (c.requires.blocks 0 c.args.segments.now.count (omega arith) (omega arith))

pub returns : goal.returns
returns c = block_error_lem _ _ _ _ c.block_totals.ensures c.error.ensures
