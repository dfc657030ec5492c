-- `refuse_letter` meets its contract: room, kind, and then the letter. Assumes nothing.
use borrow.Author.Tests.{le-leb, lt-leb}
use mathlib.Core.Bool.{false}
use mathlib.Core.List.{[], ◌∷◌}
use mathlib.Core.Path.{sym}
use native.Mathlib.Omega.{arith}
use Rattle.std.proofs.lemmas.Result.{err_from_is_err_and}
use Rattle.model.specs.Slot.{slot_length}
use Rattle.model.specs.Questions.{outcome, ask, ask_room, kind_known}
use Rattle.model.specs.Calls.{number, answer_case, letter_questions}
use Rattle.theory.proofs.Refusals.{all_head, outcome_accepted, refused_first}
use Rattle.pacer.specs.Promises.{no_counts}
use Rattle.pacer.proofs.refuse_letter.Goals as goal

pub returns-then-room-lt-SLOT_LENGTH : goal.returns-then-room-lt-SLOT_LENGTH
unfolding answer_case number outcome letter_questions ask_room ask slot_length
returns-then-room-lt-SLOT_LENGTH c = rw c.no.ensures (simp (lt-leb 768 c.args.room (omega arith)))

pub returns-in_err-try_from : goal.returns-in_err-try_from
unfolding answer_case outcome letter_questions ask_room ask slot_length
returns-in_err-try_from c =
    let p = err_from_is_err_and c.from_residual.result c.from_residual.ensures.1 in
    let e = refused_first (ask 2 0 (kind_known c.args.kind) ∷ []) (ask 3 0 false ∷ []) _ no_counts _ _ (sym c.in_err-try_from.ensures) in
    rw (p.1, p.2, le-leb 768 c.args.room (omega arith)) (sym e)

pub returns : goal.returns
unfolding answer_case number outcome letter_questions ask_room ask slot_length
returns c =
    let known = all_head _ _ (outcome_accepted (ask 2 0 (kind_known c.args.kind) ∷ []) _ _ (sym c.in_ok-try_from.ensures)).0 in
    rw (c.no-2.ensures, le-leb 768 c.args.room (omega arith), known)
