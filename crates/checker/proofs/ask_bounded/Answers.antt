-- `checker::ask_bounded` meets its contract: the mark of a bound, and then what every slot is asked. Assumes nothing.
use mathlib.Core.Path.{sym, ◌∙◌}
use Rattle.model.specs.Questions.{ask, outcome}
use Rattle.model.specs.Calls.{answer_case, number}
use Rattle.model.specs.Check.{bounded_questions}
use Rattle.checker.proofs.Asking.{marked_slot}
use Rattle.checker.proofs.ask_bounded.Goals as goal

pub returns-then-not-by_bound : goal.returns-then-not-by_bound
unfolding answer_case number bounded_questions outcome ask
returns-then-not-by_bound c = rw (c.no.ensures, sym c.by_bound.ensures ∙ c.if-not-by_bound.true)

pub returns : goal.returns
returns c = c.ask.ensures ∙ marked_slot _ c.requires (sym c.by_bound.ensures ∙ c.if-not-by_bound.false)
