-- `slot::ask` meets its contract: the header's questions, then the rows', then 17. Assumes nothing.
use Prim.Native.Nat.{◌≤◌}
use mathlib.Core.Bool.{◌&&◌}
use mathlib.Core.List.{[], ◌∷◌}
use mathlib.Core.Path.{◌≡◌, sym, ◌∙◌}
use borrow.Author.Rules.{rules}
use lib.ListN.{length, take}
use Rattle.std.proofs.lemmas.Result.{err_from_is_err_and}
use Rattle.model.specs.Slot.{slot_length, row_place, slot_count}
use Rattle.model.specs.Questions.{accepted, ask, outcome, tail_zero, slot_questions}
use Rattle.model.specs.Calls.{number, answer_case}
use Rattle.theory.proofs.Asking.{answer}
use Rattle.slot.proofs.Answers.{header_sized, refused_header, refused_rows, behind_rows}
use Rattle.slot.proofs.ask.Goals as goal
use Rattle.slot.proofs.ask.Goals.{After-error_known, After-count-count, In_ok-ask_header}

pub returns-in_err-ask_header : goal.returns-in_err-ask_header
unfolding answer_case
returns-in_err-ask_header c =
    let p = err_from_is_err_and c.from_residual.result c.from_residual.ensures.1 in
    rw (p.1, p.2) (sym (refused_header _ _ _ (sym c.in_err-ask_header.ensures)))

-- the header's questions are passed, and so the slot has room and at most 64 rows
header : (c : In_ok-ask_header) → answer (take 4 (slot_questions c.args.slot.now)) ≡ accepted tt
unfolding answer_case
header c = sym c.in_ok-ask_header.ensures

sizes : (c : In_ok-ask_header) → (768 ≤ length c.args.slot.now) × (slot_count c.args.slot.now ≤ 64)
sizes c = header_sized c.args.slot.now (header c)

pub count-count-requires : goal.count-count-requires
count-count-requires c = (sizes (goal.at.count-count-requires c).In_ok-ask_header).0

counted_sizes : (c : After-count-count) → (768 ≤ length c.args.slot.now) × (c.count-count.result ≤ 64)
counted_sizes c = rw c.count-count.ensures (sizes (goal.at.After-count-count c).In_ok-ask_header)

pub ask_rows-requires : goal.ask_rows-requires
ask_rows-requires c = counted_sizes c

pub place-requires : goal.place-requires
place-requires c = (counted_sizes (goal.at.place-requires c).After-count-count).1

pub is_zero-requires : goal.is_zero-requires
unfolding row_place
is_zero-requires c = let s = counted_sizes (goal.at.is_zero-requires c).After-count-count in search rules

pub error_known-requires : goal.error_known-requires
error_known-requires c = (counted_sizes (goal.at.error_known-requires c).After-count-count).0

pub returns-in_err-ask_rows : goal.returns-in_err-ask_rows
unfolding answer_case
returns-in_err-ask_rows c =
    let p = err_from_is_err_and c.from_residual-in_err-ask_rows.result c.from_residual-in_err-ask_rows.ensures.1 in
    rw (p.1, p.2)
    (sym (refused_rows c.args.slot.now (header (goal.at.returns-in_err-ask_rows c).In_ok-ask_header) _ _ (rw c.count-count.ensures at (sym c.in_err-ask_rows.ensures))))

-- what 17 answers is what all answer
last : (c : After-error_known)
    → answer (ask 17 0 (c.is_zero.result && c.error_known.result) ∷ []) ≡ answer (slot_questions c.args.slot.now)
unfolding answer_case tail_zero slot_length
last c =
    let tail : c.is_zero.result ≡ tail_zero c.args.slot.now = c.is_zero.ensures ∙ rw (c.place.ensures, c.count-count.ensures) in
    rw (tail, c.error_known.ensures)
    (sym (behind_rows c.args.slot.now (header (goal.at.After-error_known c).In_ok-ask_header) (rw c.count-count.ensures at (sym c.in_ok-ask_rows.ensures))))

pub returns-then-is_zero-error_known : goal.returns-then-is_zero-error_known
unfolding answer_case outcome ask
returns-then-is_zero-error_known c = rw c.if-is_zero-error_known.true at (last (goal.at.returns-then-is_zero-error_known c).After-error_known)

pub returns-else-is_zero-error_known : goal.returns-else-is_zero-error_known
unfolding answer_case number outcome ask
returns-else-is_zero-error_known c = rw c.no.ensures (rw c.if-is_zero-error_known.false at (last (goal.at.returns-else-is_zero-error_known c).After-error_known))
