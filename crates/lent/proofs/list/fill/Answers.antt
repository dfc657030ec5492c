-- `list::fill` meets its contract: each turn copies one place more. Assumes nothing.
use Rattle.std.proofs.Common.{◌≡◌, sym, ◌∙◌, arith}
use native.Mathlib.Numerals.{add-one}
use Rattle.model.specs.Questions.{most_segments}
use Rattle.model.specs.Calls.{segment_of}
use Rattle.model.specs.Arrays.{segment_in, segments_in}
use Rattle.theory.proofs.Copying.{copied_none, copied_more, copied_map}
use Rattle.lent.proofs.list.fill.Goals as goal

pub loop-index-init : goal.loop-index-init
loop-index-init c = sym (copied_none _ _)

pub at-requires : goal.at-requires
unfolding most_segments
at-requires c = omega arith

pub loop-index-preserved : goal.loop-index-preserved
loop-index-preserved c =
    let s = c.args.segments.now in
    rw (c.loop-index.invariant, c.at.ensures, add-one c.loop-index.index)
    (copied_more (λ i. segment_of (segment_in s i)) c.args.list.now c.loop-index.index (omega arith))

pub returns : goal.returns
unfolding segments_in
returns c =
    let s = c.args.segments.now in
    let end : c.loop-index.index ≡ s.count = omega arith in
    c.loop-index.invariant ∙ rw end (copied_map segment_of (segment_in s) c.args.list.now s.count)
