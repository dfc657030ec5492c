-- `ask` meets its contract: room and kind, what was said of the rule, and the log's questions. Assumes nothing.
use mathlib.Core.List.{[], ◌∷◌}
use mathlib.Core.Path.{sym, ap, ◌∙◌}
use native.Mathlib.Omega.{arith}
use Rattle.std.proofs.lemmas.Result.{err_from_is_err_and}
use Rattle.model.specs.Slot.{slot_length}
use Rattle.model.specs.Questions.{accepted, ask, kind_known}
use Rattle.model.specs.Calls.{number, answer_case}
use Rattle.model.specs.Demands.{AllPass}
use Rattle.theory.proofs.Refusals.{outcome_accepted}
use Rattle.preparing.proofs.Ahead.{refused_room, refused_kind, refused_rule, refused_log, passed_ahead}
use Rattle.preparing.proofs.ask.Goals as goal
use Rattle.preparing.proofs.ask.Goals.{In_ok-known}

pub returns-then-room-lt-SLOT_LENGTH : goal.returns-then-room-lt-SLOT_LENGTH
unfolding answer_case number slot_length
returns-then-room-lt-SLOT_LENGTH c asks says = rw c.no.ensures (sym (refused_room _ _ asks _ (omega arith)))

pub returns-in_err-known : goal.returns-in_err-known
unfolding answer_case slot_length
returns-in_err-known c asks says =
    let p = err_from_is_err_and c.from_residual.result c.from_residual.ensures.1 in
    rw (p.1, p.2) (sym (refused_kind _ _ asks _ (omega arith) (sym c.in_err-known.ensures)))

-- a kind is known
known : (c : In_ok-known) → AllPass (ask 2 0 (kind_known c.args.kind) ∷ [])
unfolding answer_case
known c = (outcome_accepted _ _ _ (sym c.in_ok-known.ensures)).0

pub returns-in_err-rule : goal.returns-in_err-rule
unfolding answer_case slot_length
returns-in_err-rule c asks says =
    let p = err_from_is_err_and c.from_residual-in_err-rule.result c.from_residual-in_err-rule.ensures.1 in
    rw (p.1, p.2) (sym (refused_rule _ _ asks _ (omega arith) (known (goal.at.returns-in_err-rule c).In_ok-known) (sym (rw c.in_err-rule.was at says))))

pub returns-in_err-ask : goal.returns-in_err-ask
unfolding answer_case slot_length
returns-in_err-ask c asks says =
    let p = err_from_is_err_and c.from_residual-in_err-ask.result c.from_residual-in_err-ask.ensures.1 in
    let passed = (outcome_accepted _ _ _ (sym (rw c.in_ok-rule.was at says))).0 in
    rw (p.1, p.2) (sym (refused_log _ _ asks _ (omega arith) (known (goal.at.returns-in_err-ask c).In_ok-known) passed (sym c.in_err-ask.ensures)))

pub returns : goal.returns
unfolding answer_case slot_length
returns c asks says =
    let same = (outcome_accepted _ _ _ (sym c.in_ok-known.ensures)).1 in
    let passed = (outcome_accepted _ _ _ (sym (rw c.in_ok-rule.was at says))).0 in
    let logged = (outcome_accepted _ _ _ (sym c.in_ok-ask.ensures)).0 in
    ap accepted same ∙ sym (passed_ahead _ _ asks _ (omega arith) (known (goal.at.returns c).In_ok-known) passed logged)
