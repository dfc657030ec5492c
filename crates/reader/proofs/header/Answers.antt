-- `reader::header` meets its contract: the slot's questions, then what its first bytes say. Assumes nothing.
use mathlib.Core.Path.{sym, ap, ◌∙◌}
use Rattle.std.proofs.lemmas.Result.{err_from_is_err_and}
use Rattle.model.specs.Questions.{accepted, slot_questions}
use Rattle.model.specs.Calls.{answer_case, read_outcome}
use Rattle.theory.proofs.Refusals.{refused_same, passed_same}
use Rattle.slot.proofs.Answers.{slot_sized}
use Rattle.reader.proofs.header.Goals as goal

pub header_of-requires : goal.header_of-requires
unfolding answer_case
header_of-requires c = (slot_sized c.args.slot.now (sym c.in_ok-ask.ensures)).0

pub returns-in_err-ask : goal.returns-in_err-ask
unfolding answer_case read_outcome
returns-in_err-ask c =
    let p = err_from_is_err_and c.from_residual.result c.from_residual.ensures.1 in
    rw (p.1, p.2) (sym (refused_same _ tt _ _ _ (sym c.in_err-ask.ensures)))

pub returns : goal.returns
unfolding answer_case read_outcome
returns c =
    ap accepted c.header_of.ensures
    ∙ sym (passed_same (slot_questions c.args.slot.now) tt _ (sym c.in_ok-ask.ensures))
