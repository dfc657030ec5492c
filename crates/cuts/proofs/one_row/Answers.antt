-- `one_row` meets its contract: the number of rows that was chosen is 1, since there is a segment. Assumes nothing.
use mathlib.Core.Path.{◌≡◌, ◌∙◌, sym}
use native.Mathlib.Omega.{arith}
use Rattle.choice.proofs.Choosing.{comparable_last, count_le}
use Rattle.cuts.proofs.Answering.{unanswered, answered, cuts_are, some_rows, weighed_none, one_cut}
use Rattle.cuts.proofs.one_row.Goals as goal

pub choose-requires-clause-comparable : goal.choose-requires-clause-comparable
choose-requires-clause-comparable c = comparable_last c.requires.2

pub returns-in_err-choose : goal.returns-in_err-choose
returns-in_err-choose c =
    λ err low filled.
    let (none_here, cuts_stay) = unanswered filled (sym c.choose.ensures ∙ c.in_err-choose.was) in
    (c.from_residual.ensures ∙ none_here, cuts_stay _)

pub returns : goal.returns
returns c =
    λ err low filled.
    let rows = sym c.choose.ensures ∙ c.in_ok-choose.was in
    let one : c.in_ok-choose.field-0 ≡ 1 = omega (arith, count_le filled _ rows, some_rows filled _ rows) in (
      rw one at (answered filled _ rows 0 (weighed_none err low _)),
      one_cut err low _ c.args.cuts.now (omega (arith, c.told-cuts)) ∙ (rw one at (cuts_are filled _ rows c.args.cuts.now)),
    )
