-- `prepare_by_windows` meets its contract: the questions ahead of the last, then the rows by windows. Assumes nothing.
use mathlib.Core.Path.{sym}
use Rattle.std.proofs.lemmas.Result.{err_from_is_err_and}
use Rattle.model.specs.Calls.{answer_case}
use Rattle.theory.proofs.Refusals.{outcome_accepted}
use Rattle.preparing.proofs.Answering.{refused_windows, windows_in_order, windows_laid_out}
use Rattle.preparing.proofs.prepare_by_windows.Goals as goal

pub ask_windows-rule-requires : goal.ask_windows-rule-requires
ask_windows-rule-requires c = c.requires

pub returns-in_err-kind : goal.returns-in_err-kind
unfolding answer_case
returns-in_err-kind c =
    let a = c.args in
    let p = err_from_is_err_and c.from_residual.result c.from_residual.ensures.1 in
    let says = sym (c.in_err-kind.ensures _ c.ask_windows-rule.ensures) in
    rw (p.1, p.2) (refused_windows a.query a.log.now a.room c.requires _ _ says)

pub list-requires : goal.list-requires
unfolding answer_case
list-requires c =
    let a = c.args in
    let (passed, same) = outcome_accepted _ _ _ (sym (c.in_ok-kind.ensures _ c.ask_windows-rule.ensures)) in
    record { in_order = windows_in_order a.query a.log.now a.room c.requires passed; of_kind = same }

pub returns : goal.returns
unfolding answer_case
returns c =
    let a = c.args in
    let (passed, same) = outcome_accepted _ _ _ (sym (c.in_ok-kind.ensures _ c.ask_windows-rule.ensures)) in
    windows_laid_out a.query a.log.now a.room c.requires passed c.list.result c.list.ensures
