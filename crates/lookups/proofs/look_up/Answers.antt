-- `lookups::look_up` meets its contract: every question, then both lists, or neither. Assumes nothing.
use mathlib.Core.Path.{refl, sym, ◌∙◌}
use lib.ListN.{length}
use Rattle.std.proofs.lemmas.Result.{err_from_is_err_and}
use Rattle.model.specs.Questions.{accepted}
use Rattle.model.specs.Calls.{answer_case}
use Rattle.model.specs.Lookups.{lookups_questions, lookups_outcome}
use Rattle.theory.proofs.Refusals.{accepted≢refused, outcome_accepted, refused_first, passed_first}
use Rattle.theory.proofs.Lookups.{passed_ahead}
use Rattle.lookups.proofs.Left.{refused_leaves, passed_leaves}
use Rattle.lookups.proofs.look_up.Goals as goal

-- the lists are left as they were by a question's 'no'
pub returns-in_err-ask : goal.returns-in_err-ask
unfolding answer_case lookups_outcome lookups_questions
returns-in_err-ask c =
    let a = c.args in
    let p = err_from_is_err_and c.from_residual.result c.from_residual.ensures.1 in
    rw (p.1, p.2)
    (refused_leaves a.slot.now a.groups.now a.frames.now a.values.now a.covered.now _
    (sym (refused_first _ _ tt tt _ _ (sym c.in_err-ask.ensures))) (λ e. accepted≢refused (sym e)))

pub returns-in_err-ask_groups : goal.returns-in_err-ask_groups
unfolding answer_case lookups_outcome lookups_questions
returns-in_err-ask_groups c =
    let a = c.args in
    let p = err_from_is_err_and c.from_residual-in_err-ask_groups.result c.from_residual-in_err-ask_groups.ensures.1 in
    rw (p.1, p.2)
    (refused_leaves a.slot.now a.groups.now a.frames.now a.values.now a.covered.now _
    (sym (passed_first _ _ tt tt (sym c.in_ok-ask.ensures) ∙ sym c.in_err-ask_groups.ensures)) (λ e. accepted≢refused (sym e)))

-- what the questions ahead of 7 say of the slot and of the lists
pub fill-requires : goal.fill-requires
unfolding answer_case
fill-requires c =
    let a = c.args in
    let ahead = (outcome_accepted _ tt tt (sym c.in_ok-ask.ensures)).0 in
    let (long, read, few) = passed_ahead a.slot.now (length a.groups.now) (length a.frames.now) (length a.values.now) (length a.covered.now) ahead in
    record {
      all_pass = read;
      long_enough = long;
    }

pub returns : goal.returns
unfolding answer_case lookups_outcome lookups_questions
returns c =
    let a = c.args in
    rw (c.fill.ensures.values_after, c.fill.ensures.covered_after)
    (passed_leaves a.slot.now a.groups.now a.frames.now a.values.now a.covered.now (accepted tt)
    (sym (passed_first _ _ tt tt (sym c.in_ok-ask.ensures) ∙ sym c.in_ok-ask_groups.ensures)) refl)
