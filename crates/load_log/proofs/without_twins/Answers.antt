-- `load_log::without_twins` meets its contract: room, then 4 to 9, and then what is kept of the log. Assumes nothing.
use Prim.Native.Nat.{ℕ}
use mathlib.Core.List.{List}
use mathlib.Core.Path.{◌≡◌, ap, sym, ◌∙◌}
use native.Mathlib.Omega.{arith}
use borrow.Author.Tests.{le-leb, lt-leb}
use lib.ListN.{length}
use Rattle.std.proofs.lemmas.Result.{err_from_is_err_and}
use Rattle.model.specs.Log.{record_length, record_count, without_twins}
use Rattle.model.specs.Questions.{Outcome, accepted, outcome, lent, ask, ask_room, most_records, file_questions, without_twins_questions}
use Rattle.model.specs.Calls.{answer_case, count_case, number, without_twins_outcome, without_twins_buffer}
use Rattle.model.specs.Demands.{AllPass, FilePromise}
use Rattle.theory.proofs.Refusals.{outcome_accepted, all_outcome, all_lent, refused_lent, refused_same}
use Rattle.theory.proofs.Twins.{file_kept}
use Rattle.load_log.proofs.Asking.{file_records}
use Rattle.load_log.proofs.without_twins.Goals as goal
use Rattle.load_log.proofs.without_twins.Goals.{In_ok-ask_file}

-- a call that says and leaves what the definitions do keeps the promise too
promised : (log buffer : List ℕ) (said : Outcome ℕ) (after : List ℕ) → said ≡ without_twins_outcome log (length buffer)
    → after ≡ without_twins_buffer log buffer
    → record {
      says : said ≡ without_twins_outcome log (length buffer);
      holds : after ≡ without_twins_buffer log buffer;
      promise : FilePromise log said after;
    }
promised log buffer said after s h = record { says = s; holds = h; promise = rw (s, h) (file_kept log buffer) }

pub returns-then-buffer-log : goal.returns-then-buffer-log
unfolding outcome lent ask ask_room without_twins_questions without_twins_outcome without_twins_buffer answer_case number
returns-then-buffer-log c =
    let a = c.args in
    let short = lt-leb (length a.log.now) (length a.buffer.now) (omega arith) in
    promised a.log.now a.buffer.now _ _ (ap count_case c.no.ensures ∙ simp short) (simp short)

-- 4 to 9 are passed
passed : (c : In_ok-ask_file) → AllPass (file_questions c.args.log.now)
unfolding answer_case
passed c = (outcome_accepted _ tt tt (sym c.in_ok-ask_file.ensures)).0

pub keep-written-requires : goal.keep-written-requires
unfolding record_count record_length most_records
keep-written-requires c =
    let (few, asked) = file_records c.args.log.now (passed (goal.at.keep-written-requires c).In_ok-ask_file) in
    record { few = omega arith; has_records = omega arith; begun = asked; room = omega arith }

pub returns : goal.returns
unfolding outcome lent ask ask_room without_twins_questions without_twins_outcome without_twins_buffer without_twins record_count record_length answer_case
returns c =
    let a = c.args in
    let asked = passed (goal.at.returns c).In_ok-ask_file in
    let room = le-leb (length a.log.now) (length a.buffer.now) (omega arith) in
    promised a.log.now a.buffer.now _ _
    (ap accepted c.keep-written.ensures.tells ∙ simp room (sym (all_outcome (file_questions a.log.now) _ asked)))
    (c.keep-written.ensures.written ∙ simp (room, c.keep-written.ensures.tells) (sym (all_lent (file_questions a.log.now) _ _ asked)))

pub returns-in_err-ask_file : goal.returns-in_err-ask_file
unfolding outcome lent ask ask_room without_twins_questions without_twins_outcome without_twins_buffer answer_case
returns-in_err-ask_file c =
    let a = c.args in
    let p = err_from_is_err_and c.from_residual.result c.from_residual.ensures.1 in
    let room = le-leb (length a.log.now) (length a.buffer.now) (omega arith) in
    let says = sym c.in_err-ask_file.ensures in
    promised a.log.now a.buffer.now _ _
    (rw (p.1, p.2) (simp room (sym (refused_same (file_questions a.log.now) (tt {0}) _ _ _ says))))
    (simp room (sym (refused_lent (file_questions a.log.now) (tt {0}) _ _ _ _ says)))
