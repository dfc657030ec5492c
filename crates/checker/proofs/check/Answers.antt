-- `checker::check` meets its contract: questions 1 and 25, the log's and the slot's, and 22 to 24. Assumes nothing.
use Prim.Native.Nat.{ℕ, ◌≤◌}
use mathlib.Core.Bool.{true}
use mathlib.Core.Path.{◌≡◌, sym, ◌∙◌}
use native.Mathlib.Omega.{arith}
use lib.ListN.{length, get_or}
use mir.Syntax.{w8}
use mir.Val.{Fits}
use Rattle.std.proofs.lemmas.Result.{err_from_is_err_and}
use Rattle.model.specs.Questions.{Outcome, width_known, log_questions}
use Rattle.model.specs.Calls.{answer_case, number}
use Rattle.model.specs.Check.{bounded_questions, check_outcome}
use Rattle.model.specs.Demands.{AllPass, CheckPromise}
use Rattle.theory.proofs.Memory.{some_frame}
use Rattle.theory.proofs.Refusals.{outcome_accepted}
use Rattle.theory.proofs.Demands.{check_promise}
use Rattle.checker.proofs.Asking.{short_slot, unknown_width, refused_log, refused_slot, behind_slot, slot_passed}
use Rattle.checker.proofs.check.Goals as goal
use Rattle.checker.proofs.check.Goals.{Start, Else-not-is_width, In_ok-ask, In_ok-ask_bounded}

-- what is said is as defined, and so keeps the promise
kept : (s : Start) (said : Outcome (Unit {0}))
    → let a = s.args in
    ((i : ℕ) → Fits w8 (get_or a.slot.now i 0)) → said ≡ check_outcome a.width a.log.now a.slot.now
    → record { says : said ≡ check_outcome a.width a.log.now a.slot.now; promise : CheckPromise a.width a.log.now a.slot.now said }
kept s said bytes is =
    record {
      says = is;
      promise = check_promise _ _ _ (λ i. omega (arith, bytes i)) said is;
    }

pub returns-then-slot-lt-SLOT_LENGTH : goal.returns-then-slot-lt-SLOT_LENGTH
unfolding answer_case number
returns-then-slot-lt-SLOT_LENGTH c =
    kept (goal.at.returns-then-slot-lt-SLOT_LENGTH c).Start _ c.type_inv.slot (rw c.no.ensures (sym (short_slot _ _ _ (omega (arith, c.if-slot-lt-SLOT_LENGTH.true)))))

pub returns-then-not-is_width : goal.returns-then-not-is_width
unfolding answer_case number
returns-then-not-is_width c =
    kept (goal.at.returns-then-not-is_width c).Start _ c.type_inv.slot
    (rw c.no-then-not-is_width.ensures
    (sym (unknown_width _ _ _ (omega (arith, c.if-slot-lt-SLOT_LENGTH.false)) (sym c.is_width.ensures ∙ c.if-not-is_width.true))))

-- the slot is long enough and the width is known
long : (c : Else-not-is_width) → 768 ≤ length c.args.slot.now
long c = omega (arith, c.if-slot-lt-SLOT_LENGTH.false)

wide : (c : Else-not-is_width) → width_known c.args.width ≡ true
wide c = sym c.is_width.ensures ∙ c.if-not-is_width.false

pub returns-in_err-ask : goal.returns-in_err-ask
unfolding answer_case
returns-in_err-ask c =
    let t = (goal.at.returns-in_err-ask c).Else-not-is_width in
    let p = err_from_is_err_and c.from_residual.result c.from_residual.ensures.1 in
    kept (goal.at.returns-in_err-ask c).Start _ c.type_inv.slot
    (rw (p.1, p.2) (sym (refused_log _ _ _ (long t) (wide t) (sym c.in_err-ask.ensures))))

-- the log passes its questions
logged : (c : In_ok-ask) → AllPass (log_questions c.args.log.now)
unfolding answer_case
logged c = (outcome_accepted _ _ _ (sym c.in_ok-ask.ensures)).0

pub returns-in_err-ask_bounded : goal.returns-in_err-ask_bounded
unfolding answer_case
returns-in_err-ask_bounded c =
    let t = (goal.at.returns-in_err-ask_bounded c).Else-not-is_width in
    let p = err_from_is_err_and c.from_residual-in_err-ask_bounded.result c.from_residual-in_err-ask_bounded.ensures.1 in
    kept (goal.at.returns-in_err-ask_bounded c).Start _ c.type_inv.slot
    (rw (p.1, p.2)
    (sym (refused_slot _ _ _ (long t) (wide t) (logged (goal.at.returns-in_err-ask_bounded c).In_ok-ask) (sym c.in_err-ask_bounded.ensures))))

-- and so does the slot
bounded : (c : In_ok-ask_bounded) → AllPass (bounded_questions c.args.slot.now)
unfolding answer_case
bounded c = (outcome_accepted _ _ _ (sym c.in_ok-ask_bounded.ensures)).0

pub ask_against-requires : goal.ask_against-requires
ask_against-requires c =
    let t = (goal.at.ask_against-requires c).Else-not-is_width in
    record {
      log_passes = logged (goal.at.ask_against-requires c).In_ok-ask;
      some_frames = omega (arith, some_frame _ (wide t));
      slot_passes = slot_passed _ (long t) (bounded c);
    }

pub returns : goal.returns
returns c =
    let t = (goal.at.returns c).Else-not-is_width in
    kept (goal.at.returns c).Start _ c.type_inv.slot
    (c.ask_against.ensures
    ∙ sym (behind_slot _ _ _ (long t) (wide t) (logged (goal.at.returns c).In_ok-ask) (bounded (goal.at.returns c).In_ok-ask_bounded)))
