-- `front_of` meets its contract. Assumes nothing.
use mathlib.Core.Path.{◌≡◌}
use native.Mathlib.Omega.{arith}
use borrow.Author.Tests.{eq-eqb, ne_eqb}
use Rattle.std.proofs.Common.{rules}
use Rattle.model.specs.Calls.{row_span, segment_span}
use Rattle.slot.specs.Places.{place_of}
use Rattle.compare.specs.Fronts.{first_place, last_place, end_place, front_of}
use Rattle.compare.proofs.front_of.Goals as goal
use Rattle.compare.proofs.front_of.Goals.{After-max-row_first, After-min-end}

-- where the two begin
begin : (c : After-max-row_first)
    → (c.max-row_first.result ≡ first_place c.args.from (row_span c.args.row))
    × (c.max-first.result ≡ first_place c.args.from (segment_span c.args.segment))
unfolding row_span segment_span
begin c = (search rules, search rules)

pub returns-then-row_first-first : goal.returns-then-row_first-first
unfolding front_of
returns-then-row_first-first c =
    let (row, segment) = begin (goal.at.returns-then-row_first-first c).After-max-row_first in
    rw (← row, ← segment, ne_eqb c.max-row_first.result c.max-first.result (λ same. omega (arith, c.if-row_first-first.true)))

-- where they end
stop : (c : After-min-end)
    → (c.place_of-row_last.result ≡ last_place (row_span c.args.row))
    × (c.place_of-last.result ≡ last_place (segment_span c.args.segment))
    × (c.min-end.result ≡ end_place (row_span c.args.row) (segment_span c.args.segment))
unfolding row_span segment_span
stop c = (search rules, search rules, search rules)

pub overflow_add-result : goal.overflow_add-result
unfolding place_of row_span segment_span
overflow_add-result c =
    omega (arith, (stop (goal.at.overflow_add-result c).After-min-end).2)

pub returns : goal.returns
unfolding front_of
returns c =
    let (row, segment) = begin (goal.at.returns c).After-max-row_first in
    let (row_last, last, end) = stop (goal.at.returns c).After-min-end in
    rw (eq-eqb _ _ (rw (row, segment) at c.if-row_first-first.false), row_last, last, end, segment)
