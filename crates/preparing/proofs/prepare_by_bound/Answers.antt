-- `prepare_by_bound` meets its contract: the questions ahead of the last, then the reduction. Assumes nothing.
use mathlib.Core.Path.{sym}
use Rattle.std.proofs.lemmas.Result.{err_from_is_err_and}
use Rattle.model.specs.Calls.{answer_case}
use Rattle.theory.proofs.Refusals.{outcome_accepted}
use Rattle.preparing.proofs.Answering.{refused_bound, bound_in_order, bound_laid_out}
use Rattle.preparing.proofs.prepare_by_bound.Goals as goal

pub returns-in_err-kind : goal.returns-in_err-kind
unfolding answer_case
returns-in_err-kind c =
    let a = c.args in
    let p = err_from_is_err_and c.from_residual.result c.from_residual.ensures.1 in
    let says = sym (c.in_err-kind.ensures _ c.ask_bound-rule.ensures) in
    rw (p.1, p.2) (refused_bound a.query a.log.now a.room _ _ says)

pub reduce-requires : goal.reduce-requires
unfolding answer_case
reduce-requires c =
    let a = c.args in
    let (passed, same) = outcome_accepted _ _ _ (sym (c.in_ok-kind.ensures _ c.ask_bound-rule.ensures)) in
    record { in_order = bound_in_order a.query a.log.now a.room passed; of_kind = same }

pub returns : goal.returns
unfolding answer_case
returns c =
    let a = c.args in
    let (passed, same) = outcome_accepted _ _ _ (sym (c.in_ok-kind.ensures _ c.ask_bound-rule.ensures)) in
    bound_laid_out a.query a.log.now a.room passed c.reduce.result c.reduce.ensures
