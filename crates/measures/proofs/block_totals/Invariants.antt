-- `block_totals` meets its contract. The invariant: `block` has the totals of the segments from `at` up to `i`. Assumes nothing.
use Prim.Native.Nat.{◌≤◌}
use mathlib.Core.Path.{◌≡◌}
use Rattle.model.specs.Blocks as model
use Rattle.blocks.specs.Meaning.{totals_in}
use Rattle.measures.specs.Held.{block_in}
use Rattle.measures.proofs.block_totals.Given as goal

abbrev pub invariant-loop-at : goal.invariant-loop-at
invariant-loop-at l = (l.j ≤ l.at) × (totals_in l.block ≡ model.totals (block_in l.segments l.at l.i))
