-- `segments::joins` meets its contract. Assumes nothing.
use native.Mathlib.Numerals.{add-one}
use Rattle.model.specs.Spans.{adjacent}
use Rattle.model.specs.Calls.{segment_span}
use Rattle.segments.specs.Steps.{joins}
use Rattle.segments.proofs.joins.Goals as goal

pub returns : goal.returns
unfolding joins adjacent segment_span
returns c = simp (c.from.ensures, c.from-2.ensures, add-one)
