-- `rules::said` meets its contract. Assumes nothing.
use Rattle.model.specs.Questions.{ask, outcome}
use Rattle.model.specs.Calls.{answer_case}
use Rattle.rules.proofs.said.Goals as goal

pub returns-then-passed : goal.returns-then-passed
unfolding answer_case outcome ask
returns-then-passed c = rw c.if-passed.true

pub returns-else-passed : goal.returns-else-passed
unfolding answer_case outcome ask
returns-else-passed c = rw (c.no.ensures, c.if-passed.false)
