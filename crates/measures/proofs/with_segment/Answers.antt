-- `with_segment` meets its contract. Assumes nothing.
use mathlib.Core.Path.{◌≡◌, ◌∙◌}
use native.Mathlib.Numerals.{add-one}
use Rattle.model.specs.Spans.{span_length}
use Rattle.model.specs.Arrays.{span_in}
use Rattle.blocks.specs.Meaning.{totals_in}
use Rattle.measures.specs.Held.{segment_totals}
use Rattle.measures.proofs.with_segment.Goals as goal
use Rattle.measures.proofs.with_segment.Goals.{After-make}

-- the totals of the segment
made : (c : After-make) → totals_in c.make.result ≡ segment_totals c.args.segments.now c.args.i
unfolding segment_totals span_length span_in
made c = c.make.ensures ∙ rw (c.from.ensures, c.from-2.ensures, c.from-3.ensures, add-one)

pub add-requires : goal.add-requires
add-requires c = rw (made c) c.requires.room

pub returns : goal.returns
returns c = c.add.ensures ∙ rw (made (goal.at.returns c).After-make)
