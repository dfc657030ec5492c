-- `answer` meets its contract: the rows that are read back are the answer's. Assumes nothing.
use Prim.Native.Nat.{ℕ, ◌≤◌}
use mathlib.Core.Path.{◌≡◌, ap, ◌∙◌}
use native.Mathlib.Omega.{arith}
use borrow.Author.Rules.{rules}
use lib.ListN.{length, length-replicate}
use Rattle.model.specs.Slot.{slot_length}
use Rattle.model.specs.Calls.{query_case, read_rows}
use Rattle.model.specs.Arrays.{rows_in, row_array}
use Rattle.text.specs.Text.{answer_text}
use Rattle.text.specs.Put.{row_count}
use Rattle.report.specs.Report.{query_text}
use Rattle.report.proofs.Printed.{printed}
use Rattle.report.proofs.answer.Goals as goal
use Rattle.report.proofs.answer.Goals.{After-rows_of-rows}

-- what was answered and read
read_back_lem : (c : After-rows_of-rows) →
    let a = c.args in
    let says = query_case c.query_by_letter-answer.result in
    (row_count says ≤ 64)
    × (answer_text says (rows_in c.rows_of-rows.result (row_count says)) ≡ query_text a.kind a.letter a.bound a.log.now)
unfolding slot_length
read_back_lem c =
    let a = c.args in
    let slot = c.no_slot-slot in
    let size : length slot.result ≡ 768 = ap (length {A = ℕ}) slot.ensures ∙ length-replicate {A = ℕ} 768 0 in
    printed a.kind a.letter a.bound a.log.now slot.result size _ _ c.query_by_letter-answer.ensures.says
    (c.rows_of-rows.ensures ∙ c.read-read.ensures.rows ∙ ap (λ s. row_array (read_rows s)) c.query_by_letter-answer.ensures.holds)

pub put_answer-requires : goal.put_answer-requires
put_answer-requires c =
    let out = c.args.out.now in
    let size : 4096 ≡ length out = search rules in
    ((read_back_lem (goal.at.put_answer-requires c).After-rows_of-rows).0, omega arith)

pub returns : goal.returns
returns c =
    let e = c.put_answer.ensures in
    (e.0, e.1 ∙ (read_back_lem (goal.at.returns c).After-rows_of-rows).1)
