-- `load_log::ask_file` meets its contract: the log's length, then its records. Assumes nothing.
use Prim.Native.Nat.{◌/◌}
use mathlib.Core.Path.{ap, ◌∙◌}
use native.Mathlib.Omega.{arith}
use lib.ListN.{length}
use borrow.Author.Tests.{le-leb, lt-leb, eq-eqb, ne_eqb}
use Rattle.model.specs.Log.{record_length, record_count}
use Rattle.model.specs.Questions.{outcome, ask, file_questions, most_records}
use Rattle.model.specs.Calls.{answer_case, asked_case, number}
use Rattle.load_log.proofs.ask_file.Goals as goal

pub returns-then-log-ne0 : goal.returns-then-log-ne0
unfolding outcome ask file_questions most_records record_length record_count answer_case number
returns-then-log-ne0 c = ap asked_case c.no.ensures ∙ simp (ne_eqb _ _ c.if-log-ne0.true)

pub returns-then-count-gt-MOST_RECORDS : goal.returns-then-count-gt-MOST_RECORDS
unfolding outcome ask file_questions most_records record_length record_count answer_case number
returns-then-count-gt-MOST_RECORDS c =
    let log = c.args.log.now in
    ap asked_case c.no-then-count-gt-MOST_RECORDS.ensures
    ∙ simp (eq-eqb _ _ c.if-log-ne0.false, lt-leb (length log / 9) 128 (omega arith))

pub returns : goal.returns
unfolding outcome ask file_questions most_records record_length record_count
returns c =
    let log = c.args.log.now in
    c.ask_records.ensures
    ∙ simp (eq-eqb _ _ c.if-log-ne0.false, le-leb (length log / 9) 128 (omega arith))
