-- `load_log::write_record` meets its contract: room, then what the record itself is asked. Assumes nothing.
use mathlib.Core.Path.{◌≡◌, ap, sym, ◌∙◌}
use native.Mathlib.Omega.{arith}
use borrow.Author.Rules.{rules}
use borrow.Author.Tests.{le-leb, lt-leb}
use lib.ListN.{length}
use Rattle.std.proofs.lemmas.Result.{err_from_is_err_and}
use Rattle.model.specs.Log.{record_length}
use Rattle.model.specs.Questions.{outcome, lent, ask, ask_room, write_questions, span_questions}
use Rattle.model.specs.Calls.{record_span, write_outcome, written_buffer, answer_case, asked_case, number}
use Rattle.theory.proofs.Refusals.{passed_lent, refused_lent}
use Rattle.load_log.proofs.write_record.Goals as goal

pub returns-then-buffer-lt-RECORD_LENGTH : goal.returns-then-buffer-lt-RECORD_LENGTH
unfolding record_length outcome lent ask ask_room write_questions answer_case number write_outcome written_buffer
returns-then-buffer-lt-RECORD_LENGTH c =
    let short = lt-leb 9 (length c.args.buffer.now) (omega arith) in
    record {
      says = ap asked_case c.no.ensures ∙ simp short;
      holds = simp short;
    }

pub returns-in_err-ask_span : goal.returns-in_err-ask_span
unfolding record_length outcome lent ask ask_room write_questions answer_case write_outcome written_buffer
returns-in_err-ask_span c =
    let a = c.args in
    let p = err_from_is_err_and c.from_residual.result c.from_residual.ensures.1 in
    let room = le-leb 9 (length a.buffer.now) (omega arith) in
    record {
      says = rw (p.1, p.2) (c.in_err-ask_span.ensures ∙ simp room);
      holds = simp room (sym (refused_lent (span_questions (record_span a.«record») 0) tt _ _ _ _ (sym c.in_err-ask_span.ensures)));
    }

pub returns : goal.returns
unfolding record_length outcome lent ask ask_room write_questions answer_case write_outcome written_buffer
returns c =
    let a = c.args in
    let room = le-leb 9 (length a.buffer.now) (omega arith) in
    let nine : length c.record_bytes.result ≡ 9 = sym (search rules) in
    record {
      says = c.in_ok-ask_span.ensures ∙ simp room;
      holds = c.copy.ensures
          ∙ rw (nine, c.record_bytes.ensures)
          (simp room (sym (passed_lent (span_questions (record_span a.«record») 0) tt _ _ (sym c.in_ok-ask_span.ensures))));
    }
