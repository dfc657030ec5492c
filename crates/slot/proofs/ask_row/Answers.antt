-- `slot::ask_row` meets its contract: each test is the question's, and the first that fails refuses.
-- Assumes nothing.
use mathlib.Core.Bool.{true}
use mathlib.Core.Path.{◌≡◌, sym, ◌∙◌}
use native.Mathlib.Omega.{arith}
use borrow.Author.Tests.{le-leb, lt-leb}
use lib.Dec.{leb}
use Rattle.model.specs.Slot.{row_place, slot_row}
use Rattle.model.specs.Questions.{ask, outcome, marked, row_known, row_questions, in_order}
use Rattle.model.specs.Calls.{row_span, row_of_span, answer_case, number}
use Rattle.slot.proofs.Compared.{in_order_lem}
use Rattle.slot.proofs.ask_row.Goals as goal
use Rattle.slot.proofs.ask_row.Goals.{After-marked, After-place_of, After-row_known, Else-not-marked, Else-not-row_known}

-- 14 is asked of the row's place
mark : (c : After-marked) → marked c.args.slot.now (row_place c.args.i) 0x50 0x52 ≡ c.marked.result
mark c = sym (c.marked.ensures ∙ rw c.place.ensures)

pub returns-then-not-marked : goal.returns-then-not-marked
unfolding row_questions outcome ask answer_case number
returns-then-not-marked c =
    rw (c.no.ensures, mark (goal.at.returns-then-not-marked c).After-marked ∙ c.if-not-marked.true)

has_mark : (c : Else-not-marked) → marked c.args.slot.now (row_place c.args.i) 0x50 0x52 ≡ true
has_mark c = mark (goal.at.Else-not-marked c).After-marked ∙ c.if-not-marked.false

-- 15 is asked of the row
known : (c : After-row_known) → row_known (slot_row c.args.slot.now c.args.i) ≡ c.row_known.result
unfolding row_span row_of_span
known c = sym (c.row_known.ensures ∙ rw c.requires.row_read)

pub returns-then-not-row_known : goal.returns-then-not-row_known
unfolding row_questions outcome ask answer_case number
returns-then-not-row_known c =
    let at = goal.at.returns-then-not-row_known c in
    rw (c.no-then-not-row_known.ensures, has_mark at.Else-not-marked, known at.After-row_known ∙ c.if-not-row_known.true)

is_known : (c : Else-not-row_known) → row_known (slot_row c.args.slot.now c.args.i) ≡ true
is_known c = known (goal.at.Else-not-row_known c).After-row_known ∙ c.if-not-row_known.false

-- 16 is asked of the place at which the row begins
order : (c : After-place_of) → in_order c.args.slot.now c.args.i ≡ leb c.args.least c.place_of.result
unfolding row_of_span
order c =
    in_order_lem c.args.slot.now (λ j. omega (arith, c.type_inv.slot j)) c.args.i
    ∙ rw (c.requires.least_of_row, c.place_of.ensures, c.requires.row_read)

pub returns-then-place_of-least : goal.returns-then-place_of-least
unfolding row_questions outcome ask answer_case number
returns-then-place_of-least c =
    let at = goal.at.returns-then-place_of-least c in
    rw (
      c.no-then-place_of-least.ensures,
      has_mark at.Else-not-marked,
      is_known at.Else-not-row_known,
      order at.After-place_of ∙ lt-leb _ _ c.if-place_of-least.true,
    )

pub returns : goal.returns
unfolding row_questions outcome ask answer_case
returns c =
    let at = goal.at.returns c in
    rw (has_mark at.Else-not-marked, is_known at.Else-not-row_known, order at.After-place_of ∙ le-leb _ _ c.if-place_of-least.false)
