-- `load_log::ask_record` meets its contract: the mark's two bytes, then what the record itself is asked. Assumes nothing.
use mathlib.Core.Path.{ap, ◌∙◌}
use native.Mathlib.Numerals.{add-one}
use borrow.Author.Tests.{eq-eqb, ne_eqb}
use Rattle.model.specs.Questions.{outcome, ask, marked, record_questions}
use Rattle.model.specs.Calls.{answer_case, asked_case, number}
use Rattle.model.specs.Log.{record_length}
use Rattle.load_log.proofs.ask_record.Goals as goal

pub returns-then-log-at-ne76 : goal.returns-then-log-at-ne76
unfolding outcome ask marked record_questions record_length answer_case number
returns-then-log-at-ne76 c = ap asked_case c.no.ensures ∙ simp (ne_eqb _ _ c.if-log-at-ne76.true)

pub returns-then-log-at-ne68 : goal.returns-then-log-at-ne68
unfolding outcome ask marked record_questions record_length answer_case number
returns-then-log-at-ne68 c = let mark = rw add-one at c.if-log-at-ne68.true in
    ap asked_case c.no-then-log-at-ne68.ensures ∙ simp (eq-eqb _ _ c.if-log-at-ne76.false, ne_eqb _ _ mark)

pub returns : goal.returns
unfolding outcome ask marked record_questions record_length
returns c = let mark = rw add-one at c.if-log-at-ne68.false in
    c.ask_span.ensures ∙ simp (c.record_at.ensures, eq-eqb _ _ c.if-log-at-ne76.false, eq-eqb _ _ mark)
