-- `load_log::ask_records` meets its contract. The loop's invariant: what is left to ask says what the whole says. Assumes nothing.
use mathlib.Core.Path.{sym, ◌∙◌}
use native.Mathlib.Numerals.{add-one}
use Rattle.std.proofs.lemmas.Result.{err_from_is_err_and}
use Rattle.model.specs.Questions.{outcome, each, record_questions}
use Rattle.model.specs.Calls.{answer_case}
use Rattle.theory.proofs.Lists.{none_left, all_left}
use Rattle.theory.proofs.Asking.{answer, refused_here, passed_here}
use Rattle.load_log.proofs.ask_records.Goals as goal

pub loop-index-init : goal.loop-index-init
loop-index-init c = all_left (λ k. answer (each (record_questions c.args.log.now) 0 k)) c.args.count

pub returns-in_err-ask_record : goal.returns-in_err-ask_record
unfolding answer_case
returns-in_err-ask_record c =
    let l = c.loop-index in
    let p = err_from_is_err_and c.from_residual.result c.from_residual.ensures.1 in
    rw (p.1, p.2)
    (sym
    (sym l.invariant
    ∙ refused_here (record_questions c.args.log.now) l.index c.args.count c.loop-index-test.true tt tt _ _
    (sym c.in_err-ask_record.ensures)))

pub loop-index-preserved : goal.loop-index-preserved
unfolding answer_case
loop-index-preserved c =
    let l = c.loop-index in
    rw (add-one l.index)
    (sym
    (passed_here (record_questions c.args.log.now) l.index c.args.count c.loop-index-test.true tt tt (sym c.in_ok-ask_record.ensures))
    ∙ l.invariant)

pub returns : goal.returns
unfolding outcome each answer_case
returns c =
    let l = c.loop-index in
    sym (none_left (λ k. answer (each (record_questions c.args.log.now) l.index k)) l.index c.args.count c.loop-index-test.false)
    ∙ l.invariant
