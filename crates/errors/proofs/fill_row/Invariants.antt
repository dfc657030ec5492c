-- `fill_row` meets its contract. The invariant: `block` has the totals of the segments from `at` up to `i`, and the places of the blocks
-- from `at` on hold their errors. Assumes nothing.
use Prim.Native.Nat.{◌≤◌}
use mathlib.Core.Path.{◌≡◌}
use Rattle.model.specs.Blocks as model
use Rattle.model.specs.Calls.{kind_number}
use Rattle.blocks.specs.Meaning.{totals_in}
use Rattle.measures.specs.Held.{block_in}
use Rattle.errors.specs.Filled.{EndingAt}
use Rattle.errors.proofs.fill_row.Given as goal

abbrev pub invariant-loop-at : goal.invariant-loop-at
invariant-loop-at l = (l.low ≤ l.at) × (totals_in l.block ≡ model.totals (block_in l.segments l.at l.i)) × EndingAt (kind_number l.kind) l.segments l.at l.i l.start l.initial.errors l.errors
