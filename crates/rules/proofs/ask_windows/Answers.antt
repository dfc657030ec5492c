-- `rules::ask_windows` meets its contract, rule by rule: bounds are ruled out by what it asks. Assumes nothing.
use mathlib.Core.Path.{ap, ◌∙◌}
use mathlib.Core.Logic.{inl, inr}
use Rattle.model.specs.Windows.{bound_in}
use Rattle.model.specs.Questions.{rule_question}
use Rattle.model.specs.Calls.{number}
use Rattle.theory.proofs.Tests.{none≢some}
use Rattle.rules.proofs.ask_windows.Goals as goal

pub returns-in-Rows : goal.returns-in-Rows
unfolding bound_in
returns-in-Rows c = elim c.in-Rows.is [ inl p ↦ absurd (none≢some c.requires (ap bound_in p.1)) | inr p ↦ absurd (none≢some c.requires (ap bound_in p.1)) ]

pub returns-in-Every : goal.returns-in-Every
unfolding rule_question number
returns-in-Every c = c.said.ensures ∙ rw (c.in-Every.is, rule_question)

pub returns-in-Scenes : goal.returns-in-Scenes
unfolding rule_question number
returns-in-Scenes c =
    c.said-in-Scenes.ensures ∙ rw (c.scenes_are_known.ensures, c.in-Scenes.is, rule_question)
