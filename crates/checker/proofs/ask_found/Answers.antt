-- `checker::ask_found` meets its contract: each test is the question's, and the first that fails refuses. Assumes nothing.
use mathlib.Core.Bool.{true, not, cond}
use mathlib.Core.Path.{◌≡◌, ap, ◌∙◌}
use borrow.Author.Tests.{eq-eqb, ne_eqb}
use lib.Dec.{eqb}
use Rattle.model.specs.Log.{greatest_kind}
use Rattle.model.specs.Questions.{ask, outcome}
use Rattle.model.specs.Calls.{answer_case, number, kind_number}
use Rattle.checker.specs.Found.{found_questions}
use Rattle.checker.proofs.Asking.{asked_of_kind}
use Rattle.checker.proofs.ask_found.Goals as goal
use Rattle.checker.proofs.ask_found.Goals.{Else-is_greatest-rows}

-- 22
pub returns-in_default : goal.returns-in_default
unfolding answer_case number found_questions outcome ask
returns-in_default c = rw (c.no.ensures, c.in_default.is)

-- 23
pub returns-then-is_greatest-rows : goal.returns-then-is_greatest-rows
unfolding answer_case number found_questions outcome ask
returns-then-is_greatest-rows c =
    rw (c.no-then-is_greatest-rows.ensures, c.in-Some.is, asked_of_kind _ _ c.in-Some.rows.reaches c.is_greatest.ensures, c.if-is_greatest-rows.true)

reached : (c : Else-is_greatest-rows) → cond (eqb (kind_number c.args.kind) greatest_kind) c.in-Some.rows.reaches true ≡ true
reached c = asked_of_kind _ _ c.in-Some.rows.reaches c.is_greatest.ensures ∙ ap not c.if-is_greatest-rows.false

-- 24
pub returns-then-error-rows : goal.returns-then-error-rows
unfolding answer_case number found_questions outcome ask
returns-then-error-rows c =
    rw (c.no-then-error-rows.ensures, c.in-Some.is, reached (goal.at.returns-then-error-rows c).Else-is_greatest-rows, ne_eqb _ _ c.if-error-rows.true)

pub returns : goal.returns
unfolding answer_case found_questions outcome ask
returns c = rw (c.in-Some.is, reached (goal.at.returns c).Else-is_greatest-rows, eq-eqb _ _ c.if-error-rows.false)
