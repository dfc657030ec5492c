-- `compare::squared` meets its contract. Assumes nothing.
use mathlib.Core.Path.{sym}
use Rattle.compare.proofs.Costs.{squared_apart}
use Rattle.compare.proofs.squared.Goals as goal

pub returns : goal.returns
returns c = rw (c.from-difference.ensures, c.abs_diff.ensures) (sym (squared_apart _ _))
