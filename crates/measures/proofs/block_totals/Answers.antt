-- `block_totals` meets its contract. The invariant: `block` has the totals of the segments from `at` up to `i`. Assumes nothing.
use mathlib.Core.Path.{◌≡◌, ◌∙◌}
use native.Mathlib.Omega.{arith}
use Rattle.model.specs.Arrays.{span_in}
use Rattle.model.specs.Blocks as model
use Rattle.theory.proofs.Blocks.{block_empty}
use Rattle.blocks.specs.Meaning.{totals_in}
use Rattle.measures.proofs.Growing.{grown, growing}
use Rattle.measures.proofs.block_totals.Goals as goal

pub loop-at-init : goal.loop-at-init
unfolding model.totals model.empty totals_in
loop-at-init c = (c.requires.0, rw (block_empty (span_in _ _ _ _) c.args.i))

pub with_segment-block-requires : goal.with_segment-block-requires
with_segment-block-requires c =
    growing c.requires.1 c.loop-at.at c.args.i _ (omega arith) (omega arith) (omega arith) c.loop-at.invariant.1

pub loop-at-preserved : goal.loop-at-preserved
loop-at-preserved c =
    (omega arith, c.with_segment-block.ensures ∙ grown c.requires.1 c.loop-at.at c.args.i _ (omega arith) (omega arith) (omega arith) c.loop-at.invariant.1)

pub returns : goal.returns
returns c =
    let here : c.loop-at.at ≡ c.args.j = omega arith in
    rw here at c.loop-at.invariant.1
