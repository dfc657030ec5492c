-- `reader::find` meets its contract. The invariant: the value found from row `next` on is that found from the first. Assumes nothing.
use Prim.Native.Nat.{◌+◌, ◌-◌}
use mathlib.Core.Bool.{cond}
use mathlib.Core.Option.{some}
use mathlib.Core.Path.{◌≡◌, sym, ◌∙◌}
use native.Mathlib.Omega.{arith}
use Rattle.model.specs.Common.{list_from, option_of}
use Rattle.model.specs.Slot.{slot_row, value_in}
use Rattle.model.specs.Calls.{row_span, row_of_span}
use Rattle.theory.proofs.Lists.{none_left}
use Rattle.reader.proofs.Steps.{value_turn}
use Rattle.reader.proofs.find.Goals as goal
use Rattle.reader.proofs.find.Goals.{After-holds}

-- the next row, then the rows behind it
turn : (c : After-holds)
    →
    let s = c.args in
    cond c.holds.result (some c.row-row.result.value) (value_in (list_from (c.loop-next.next + 1) (s.count - (c.loop-next.next + 1)) (slot_row s.slot.now)) s.group s.frame)
    ≡ value_in (list_from 0 s.count (slot_row s.slot.now)) s.group s.frame
unfolding row_span row_of_span
turn c =
    let s = c.args in
    rw (c.holds.ensures, c.row-row.ensures)
    (sym (value_turn (slot_row s.slot.now) s.group s.frame c.loop-next.next s.count (omega arith)) ∙ c.loop-next.invariant)

pub returns-then-holds : goal.returns-then-holds
unfolding option_of
returns-then-holds c = rw c.if-holds.true at (turn (goal.at.returns-then-holds c).After-holds)

pub loop-next-preserved : goal.loop-next-preserved
loop-next-preserved c = rw c.if-holds.false at (turn (goal.at.loop-next-preserved c).After-holds)

pub returns : goal.returns
unfolding option_of list_from value_in
returns c =
    let s = c.args in
    sym (none_left (λ k. value_in (list_from c.loop-next.next k (slot_row s.slot.now)) s.group s.frame) c.loop-next.next s.count (omega arith))
    ∙ c.loop-next.invariant
