-- `reader::read` meets its contract: the slot's questions, then header and rows. Assumes nothing.
use Prim.Native.Nat.{◌≤◌}
use mathlib.Core.Path.{◌≡◌, sym, ap, ◌∙◌}
use lib.ListN.{length}
use Rattle.std.proofs.lemmas.Result.{err_from_is_err_and}
use Rattle.model.specs.Slot.{slot_count, slot_rows}
use Rattle.model.specs.Questions.{accepted, slot_questions}
use Rattle.model.specs.Calls.{answer_case, header_in, read_outcome, read_rows, Header}
use Rattle.model.specs.Arrays.{row_array}
use Rattle.theory.proofs.Refusals.{refused_same, passed_same, passed_lent}
use Rattle.slot.proofs.Answers.{slot_sized}
use Rattle.reader.proofs.read.Goals as goal
use Rattle.reader.proofs.read.Goals.{After-header_of-header, In_ok-ask}

-- a slot that has passed its questions has room, and at most 64 rows
sizes : (c : In_ok-ask) → (768 ≤ length c.args.slot.now) × (slot_count c.args.slot.now ≤ 64)
unfolding answer_case
sizes c = slot_sized c.args.slot.now (sym c.in_ok-ask.ensures)

-- the count is that of the header
counted : (c : After-header_of-header) → c.header_of-header.result.rows ≡ slot_count c.args.slot.now
unfolding header_in
counted c = ap (λ (h : Header). h.rows) c.header_of-header.ensures

pub header_of-header-requires : goal.header_of-header-requires
header_of-header-requires c = (sizes (goal.at.header_of-header-requires c).In_ok-ask).0

pub read_rows-rows-requires : goal.read_rows-rows-requires
read_rows-rows-requires c =
    rw (counted (goal.at.read_rows-rows-requires c).After-header_of-header) (sizes (goal.at.read_rows-rows-requires c).In_ok-ask)

pub returns-in_err-ask-clause-says : goal.returns-in_err-ask-clause-says
unfolding answer_case read_outcome
returns-in_err-ask-clause-says c =
    let p = err_from_is_err_and c.from_residual.result c.from_residual.ensures.1 in
    rw (p.1, p.2) (sym (refused_same _ tt _ _ _ (sym c.in_err-ask.ensures)))

pub returns-clause-says : goal.returns-clause-says
unfolding answer_case read_outcome
returns-clause-says c =
    ap accepted c.header_of-header.ensures
    ∙ sym (passed_same (slot_questions c.args.slot.now) tt _ (sym c.in_ok-ask.ensures))

pub returns-clause-rows : goal.returns-clause-rows
unfolding answer_case read_rows slot_rows
returns-clause-rows c =
    c.read_rows-rows.ensures
    ∙ rw (counted (goal.at.returns-clause-rows c).After-header_of-header)
    (ap row_array (sym (passed_lent (slot_questions c.args.slot.now) tt _ _ (sym c.in_ok-ask.ensures))))
