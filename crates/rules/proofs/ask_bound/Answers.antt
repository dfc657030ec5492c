-- `rules::ask_bound` meets its contract: 3, and then 25. Assumes nothing.
use mathlib.Core.List.{[], ◌∷◌}
use mathlib.Core.Path.{sym, ◌∙◌}
use Rattle.std.proofs.lemmas.Result.{err_from_is_err_and}
use Rattle.model.specs.Questions.{ask, ask_width, bound_known}
use Rattle.model.specs.Calls.{answer_case, number}
use Rattle.theory.proofs.Refusals.{refused_first, passed_first}
use Rattle.rules.proofs.ask_bound.Goals as goal

pub returns-in_err-said : goal.returns-in_err-said
unfolding answer_case number
returns-in_err-said c =
    let a = c.args in
    let p = err_from_is_err_and c.from_residual.result c.from_residual.ensures.1 in
    let says = rw c.bound_is_known.ensures at c.in_err-said.ensures in
    rw (p.1, p.2) (sym (refused_first (ask 3 0 (bound_known a.bound) ∷ []) (ask_width a.width ∷ []) tt tt _ _ (sym says)))

pub returns : goal.returns
unfolding answer_case number ask_width
returns c =
    let a = c.args in
    let says = rw c.bound_is_known.ensures at c.in_ok-said.ensures in
    c.said-2.ensures
    ∙ rw c.is_width.ensures
    (sym (passed_first (ask 3 0 (bound_known a.bound) ∷ []) (ask_width a.width ∷ []) tt tt (sym says)))
