-- `reader::lookup` meets its contract: the slot's questions, then 7, then the row that holds the frame. Assumes nothing.
use Prim.Native.Nat.{◌≤◌}
use mathlib.Core.Bool.{true, false}
use mathlib.Core.List.{[], ◌∷◌}
use mathlib.Core.Path.{◌≡◌, sym, ap, ◌∙◌}
use native.Mathlib.Omega.{arith}
use borrow.Author.Tests.{le-leb, lt-leb}
use lib.ListN.{length}
use Rattle.std.proofs.lemmas.Result.{err_from_is_err_and}
use Rattle.model.specs.Slot.{slot_count, slot_rows, value_in}
use Rattle.model.specs.Questions.{accepted, ask, outcome, group_known, slot_questions, lookup_questions}
use Rattle.model.specs.Calls.{number, answer_case, lookup_outcome}
use Rattle.theory.proofs.Refusals.{refused_first, passed_first}
use Rattle.theory.proofs.Asking.{answer}
use Rattle.slot.proofs.Answers.{slot_sized}
use Rattle.reader.proofs.lookup.Goals as goal
use Rattle.reader.proofs.lookup.Goals.{Else-group-gt-MOST_GROUP, In_ok-ask, Then-group-gt-MOST_GROUP}

-- the slot's questions are passed, and so it has room and at most 64 rows
passed : (c : In_ok-ask) → answer (slot_questions c.args.slot.now) ≡ accepted tt
unfolding answer_case
passed c = sym c.in_ok-ask.ensures

sizes : (c : In_ok-ask) → (768 ≤ length c.args.slot.now) × (slot_count c.args.slot.now ≤ 64)
sizes c = slot_sized c.args.slot.now (passed c)

pub count-requires : goal.count-requires
count-requires c = (sizes (goal.at.count-requires c).In_ok-ask).0

pub find-requires : goal.find-requires
find-requires c = rw c.count.ensures (sizes (goal.at.find-requires c).In_ok-ask)

-- 7 decides, of what the rows say
seven : (c : In_ok-ask)
    → let a = c.args in
    outcome (ask 7 0 (group_known a.group) ∷ []) (value_in (slot_rows a.slot.now) a.group a.frame)
    ≡ lookup_outcome a.slot.now a.group a.frame
unfolding lookup_outcome lookup_questions
seven c = sym (passed_first (slot_questions c.args.slot.now) _ tt _ (passed c))

-- 7 is asked of the group
unknown : (c : Then-group-gt-MOST_GROUP) → group_known c.args.group ≡ false
unfolding group_known
unknown c = lt-leb c.args.group 7 (omega arith)

known : (c : Else-group-gt-MOST_GROUP) → group_known c.args.group ≡ true
unfolding group_known
known c = le-leb c.args.group 7 (omega arith)

pub returns-in_err-ask : goal.returns-in_err-ask
unfolding answer_case lookup_outcome lookup_questions
returns-in_err-ask c =
    let p = err_from_is_err_and c.from_residual.result c.from_residual.ensures.1 in
    rw (p.1, p.2) (sym (refused_first _ _ tt _ _ _ (sym c.in_err-ask.ensures)))

pub returns-then-group-gt-MOST_GROUP : goal.returns-then-group-gt-MOST_GROUP
unfolding answer_case number outcome ask
returns-then-group-gt-MOST_GROUP c =
    rw c.no.ensures
    (rw (unknown (goal.at.returns-then-group-gt-MOST_GROUP c).Then-group-gt-MOST_GROUP) at (seven (goal.at.returns-then-group-gt-MOST_GROUP c).In_ok-ask))

pub returns : goal.returns
unfolding answer_case outcome ask slot_rows
returns c =
    ap accepted (rw c.count.ensures at c.find.ensures)
    ∙ rw (known (goal.at.returns c).Else-group-gt-MOST_GROUP) at (seven (goal.at.returns c).In_ok-ask)
