-- `reader::row_at` meets its contract: the slot's questions, then the row or the end. Assumes nothing.
use Prim.Native.Nat.{suc, ◌≤◌}
use mathlib.Core.Path.{◌≡◌, sym, ap, ◌∙◌}
use native.Mathlib.Omega.{arith}
use borrow.Author.Rules.{rules}
use borrow.Author.Tests.{lt-ltb, le-ltb}
use lib.ListN.{length}
use Rattle.model.specs.Common.{option_of}
use Rattle.model.specs.Slot.{slot_count}
use Rattle.model.specs.Questions.{accepted, slot_questions}
use Rattle.model.specs.Calls.{row_span, row_of_span, row_found, answer_case, asked_case, step_outcome, step_next}
use Rattle.theory.proofs.Refusals.{refused_same, refused_lent, passed_same, passed_lent}
use Rattle.theory.proofs.Asking.{answer}
use Rattle.slot.proofs.Answers.{slot_sized}
use Rattle.reader.proofs.row_at.Goals as goal
use Rattle.reader.proofs.row_at.Goals.{In-Ok}

-- the slot's questions are passed, and so it has room and at most 64 rows
passed : (c : In-Ok) → answer (slot_questions c.args.slot.now) ≡ accepted tt
unfolding answer_case
passed c = sym c.ask.ensures ∙ ap asked_case c.in-Ok.is

sizes : (c : In-Ok) → (768 ≤ length c.args.slot.now) × (slot_count c.args.slot.now ≤ 64)
sizes c = slot_sized c.args.slot.now (passed c)

pub count-requires : goal.count-requires
count-requires c = (sizes (goal.at.count-requires c).In-Ok).0

pub row-requires : goal.row-requires
row-requires c = let s = sizes (goal.at.row-requires c).In-Ok in let n = c.count.ensures in search rules

pub overflow_add-result : goal.overflow_add-result
overflow_add-result c = let s = sizes (goal.at.overflow_add-result c).In-Ok in let n = c.count.ensures in search rules

pub returns-in-Err : goal.returns-in-Err
unfolding answer_case step_outcome step_next
returns-in-Err c =
    let no = sym c.ask.ensures ∙ ap asked_case c.in-Err.is in
    (sym (refused_same _ tt _ _ _ no), sym (refused_lent _ tt _ _ _ _ no))

pub returns-then-number-count : goal.returns-then-number-count
unfolding answer_case option_of row_found step_outcome step_next row_span row_of_span
returns-then-number-count c =
    let all = passed (goal.at.returns-then-number-count c).In-Ok in
    let here = lt-ltb _ _ (rw c.count.ensures at c.if-number-count.true) in (
      rw (here, c.row.ensures) (sym (passed_same (slot_questions c.args.slot.now) tt _ all)),
      ◌∙◌ {b = suc c.args.number} (omega arith) (rw here (sym (passed_lent (slot_questions c.args.slot.now) tt _ _ all))),
    )

pub returns-else-number-count : goal.returns-else-number-count
unfolding answer_case option_of row_found step_outcome step_next
returns-else-number-count c =
    let all = passed (goal.at.returns-else-number-count c).In-Ok in
    let past = le-ltb _ _ (rw c.count.ensures at c.if-number-count.false) in (
      rw past (sym (passed_same (slot_questions c.args.slot.now) tt _ all)),
      rw past (sym (passed_lent (slot_questions c.args.slot.now) tt _ _ all)),
    )
