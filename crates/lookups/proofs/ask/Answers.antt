-- `lookups::ask` meets its contract: 1 of each list, the slot's, and 26. Assumes nothing.
use mathlib.Core.List.{[], ◌∷◌, ◌++◌}
use mathlib.Core.Path.{◌≡◌, sym, ◌∙◌}
use lib.Dec.{leb}
use Rattle.std.proofs.lemmas.Result.{err_from_is_err_and}
use Rattle.model.specs.Questions.{ask, slot_questions}
use Rattle.model.specs.Calls.{number, answer_case}
use Rattle.model.specs.Lookups.{most_pairs, ahead_of_groups}
use Rattle.theory.proofs.Asking.{answer}
use Rattle.theory.proofs.Refusals.{refused_first, passed_first}
use Rattle.theory.proofs.Lookups.{too_short_lem, behind_rooms}
use Rattle.lookups.proofs.Pairs.{lists_long, lists_short}
use Rattle.lookups.proofs.ask.Goals as goal
use Rattle.lookups.proofs.ask.Goals.{Else-not-pairs-frames}

pub returns-then-not-pairs-frames : goal.returns-then-not-pairs-frames
unfolding answer_case number
returns-then-not-pairs-frames c =
    let a = c.args in
    rw c.no.ensures
    (sym (too_short_lem a.slot.now a.pairs a.frames a.values a.covered (lists_short _ _ _ _ c.if-not-pairs-frames.true)))

-- behind 1, the slot's decide, and then 26
behind : (c : Else-not-pairs-frames)
    → let a = c.args in
    answer (slot_questions a.slot.now ++ (ask 26 0 (leb a.pairs most_pairs) ∷ []))
    ≡ answer (ahead_of_groups a.slot.now a.pairs a.frames a.values a.covered)
behind c =
    let a = c.args in
    sym (behind_rooms a.slot.now a.pairs a.frames a.values a.covered (lists_long _ _ _ _ c.if-not-pairs-frames.false))

pub returns-in_err-ask : goal.returns-in_err-ask
unfolding answer_case
returns-in_err-ask c =
    let p = err_from_is_err_and c.from_residual.result c.from_residual.ensures.1 in
    rw (p.1, p.2)
    (sym (refused_first (slot_questions c.args.slot.now) _ tt tt _ _ (sym c.in_err-ask.ensures)) ∙ behind (goal.at.returns-in_err-ask c).Else-not-pairs-frames)

pub returns : goal.returns
unfolding answer_case
returns c =
    c.ask_count.ensures
    ∙ sym (passed_first (slot_questions c.args.slot.now) _ tt tt (sym c.in_ok-ask.ensures))
    ∙ behind (goal.at.returns c).Else-not-pairs-frames
