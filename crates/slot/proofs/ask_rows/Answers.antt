-- `slot::ask_rows` meets its contract. The invariant: row `i` may begin at place `least`, and what the questions of the
-- rows from `i` on answer is what those of all rows do. Assumes nothing.
use Prim.Native.Nat.{ℕ, ◌+◌}
use mathlib.Core.Path.{refl, sym, ap, ◌∙◌}
use native.Mathlib.Omega.{arith}
use native.Mathlib.Numerals.{add-one}
use borrow.Author.Rules.{rules}
use Rattle.std.proofs.lemmas.Result.{err_from_is_err_and}
use Rattle.model.specs.Questions.{outcome, each, row_questions}
use Rattle.model.specs.Calls.{answer_case, row_of_span}
use Rattle.slot.specs.Places.{place_of, least_place}
use Rattle.theory.proofs.Lists.{none_left, all_left}
use Rattle.theory.proofs.Asking.{answer, refused_here, passed_here}
use Rattle.slot.proofs.ask_rows.Goals as goal

pub loop-i-init : goal.loop-i-init
unfolding least_place
loop-i-init c = (refl, all_left (λ k. answer (each (row_questions c.args.slot.now) 0 k)) c.args.count)

pub returns-in_err-ask_row : goal.returns-in_err-ask_row
unfolding answer_case
returns-in_err-ask_row c =
    let p = err_from_is_err_and c.from_residual.result c.from_residual.ensures.1 in
    rw (p.1, p.2)
    (sym
    (sym c.loop-i.invariant.1
    ∙ refused_here (row_questions c.args.slot.now) c.loop-i.i c.args.count (omega arith) tt tt _ _ (sym c.in_err-ask_row.ensures)))

pub loop-i-preserved : goal.loop-i-preserved
unfolding answer_case least_place row_of_span
loop-i-preserved c = (
  rw (add-one c.loop-i.i) (ap (λ (p : ℕ). p + 1) (rw c.row-row.ensures at c.place_of-least.ensures)),
  rw (add-one c.loop-i.i)
      (sym (passed_here (row_questions c.args.slot.now) c.loop-i.i c.args.count (omega arith) tt tt (sym c.in_ok-ask_row.ensures)) ∙ c.loop-i.invariant.1),
)

pub returns : goal.returns
unfolding answer_case outcome each
returns c =
    sym (none_left (λ k. answer (each (row_questions c.args.slot.now) c.loop-i.i k)) c.loop-i.i c.args.count (omega arith))
    ∙ c.loop-i.invariant.1

pub overflow_add-least : goal.overflow_add-least
unfolding place_of
overflow_add-least c = search rules
