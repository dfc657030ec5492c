-- `fill_row` meets its contract. The invariant: `block` has the totals of the segments from `at` up to `i`, and the places of the blocks
-- from `at` on hold their errors. Assumes nothing.
use Prim.Native.Nat.{◌-◌}
use mathlib.Core.Path.{◌≡◌, sym, ◌∙◌, subst}
use native.Mathlib.Omega.{arith}
use Rattle.model.specs.Arrays.{span_in}
use Rattle.model.specs.Blocks as model
use Rattle.model.specs.Room.{Block}
use Rattle.theory.proofs.Blocks.{block_empty}
use Rattle.blocks.specs.Meaning.{totals_in}
use Rattle.measures.specs.Held.{block_in}
use Rattle.measures.proofs.Growing.{grown, growing}
use Rattle.errors.proofs.Filling.{block_error_lem, row_begins, row_next}
use Rattle.errors.proofs.fill_row.Goals as goal
use Rattle.errors.proofs.fill_row.Goals.{After-with_segment-wider}

pub loop-at-init : goal.loop-at-init
unfolding model.totals model.empty totals_in
loop-at-init c = (c.requires.low_in_block, rw (block_empty (span_in _ _ _ _) c.args.i), row_begins _ _ _ _ _)

-- the block with the segment before `at`
wider : (c : After-with_segment-wider)
    → totals_in c.with_segment-wider.result ≡ model.totals (block_in c.args.segments.now (c.loop-at.at - 1) c.args.i)
wider c =
    c.with_segment-wider.ensures
    ∙ grown c.requires.measurable c.loop-at.at c.args.i _ (omega arith) (omega arith) (omega arith) c.loop-at.invariant.1

pub with_segment-wider-requires : goal.with_segment-wider-requires
with_segment-wider-requires c =
    growing c.requires.measurable c.loop-at.at c.args.i _ (omega arith) (omega arith) (omega arith) c.loop-at.invariant.1

-- stated before what `error` asks for, so that a wrong error is refused as such
pub loop-at-preserved : goal.loop-at-preserved
loop-at-preserved c =
    let is = wider (goal.at.loop-at-preserved c).After-with_segment-wider in (
      omega arith,
      is,
      row_next _ _ _ _ _ c.loop-at.invariant.2 (omega arith) (omega arith) (omega arith) (block_error_lem _ _ _ _ is c.error.ensures),
    )

pub error-requires : goal.error-requires
error-requires c = subst Block (sym (wider c)) (c.requires.measurable.blocks _ _ (omega arith) (omega arith))

pub returns : goal.returns
returns c =
    let here : c.loop-at.at ≡ c.args.low = omega arith in
    rw here at c.loop-at.invariant.2
