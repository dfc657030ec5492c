-- `load_log::ask_span` meets its contract: each `return` is the first question that its test answers 'no'. Assumes nothing.
use mathlib.Core.Path.{ap, ◌∙◌}
use native.Mathlib.Omega.{arith}
use borrow.Author.Tests.{le-leb, lt-leb}
use Rattle.model.specs.Questions.{outcome, ask, group_known, span_questions}
use Rattle.model.specs.Calls.{record_span, answer_case, asked_case, number}
use Rattle.load_log.proofs.ask_span.Goals as goal

pub returns-then-record-gt-MOST_GROUP : goal.returns-then-record-gt-MOST_GROUP
unfolding outcome ask group_known span_questions record_span answer_case number
returns-then-record-gt-MOST_GROUP c =
    let r = c.args.«record» in
    ap asked_case c.no.ensures ∙ simp (lt-leb r.group 7 (omega arith))

pub returns-then-record : goal.returns-then-record
unfolding outcome ask group_known span_questions record_span answer_case number
returns-then-record c =
    let r = c.args.«record» in
    ap asked_case c.no-then-record.ensures
    ∙ simp (le-leb r.group 7 (omega arith), lt-leb r.first r.last (omega arith))

pub returns-then-record-gt-MOST_LOAD : goal.returns-then-record-gt-MOST_LOAD
unfolding outcome ask group_known span_questions record_span answer_case number
returns-then-record-gt-MOST_LOAD c =
    let r = c.args.«record» in
    ap asked_case c.no-then-record-gt-MOST_LOAD.ensures
    ∙ simp (le-leb r.group 7 (omega arith), le-leb r.first r.last (omega arith), lt-leb r.load 1000 (omega arith))

pub returns : goal.returns
unfolding outcome ask group_known span_questions record_span answer_case number
returns c =
    let r = c.args.«record» in
    simp (le-leb r.group 7 (omega arith), le-leb r.first r.last (omega arith), le-leb r.load 1000 (omega arith))
