-- `load_log::ask` meets its contract: 4 to 9, with 21 of the records before their first 'no' ahead of it. Assumes nothing.
use Prim.Native.Nat.{ℕ}
use mathlib.Core.List.{List}
use mathlib.Core.Path.{◌≡◌, sym, ◌∙◌}
use native.Mathlib.Omega.{arith}
use Rattle.std.specs.Prelude.{Result, Ok, Err}
use Rattle.std.specs.Result.{result_and}
use Rattle.model.specs.declared.Refusal.{Refusal}
use Rattle.model.specs.Log.{record_length, record_count}
use Rattle.model.specs.Questions.{refused, each, most_records, file_questions, log_questions, twin_questions}
use Rattle.model.specs.Calls.{answer_case, asked_case, number}
use Rattle.model.specs.Demands.{AllPass}
use Rattle.theory.proofs.Refusals.{outcome_accepted}
use Rattle.theory.proofs.Asking.{answer}
use Rattle.load_log.proofs.Asking.{file_records, twins_decide, twins_before, no_twin_before, twin_before}
use Rattle.load_log.proofs.ask.Goals as goal
use Rattle.load_log.proofs.ask.Goals.{In-Ok, In-Err}

-- 4 to 9 are passed
passed : (c : In-Ok) → AllPass (file_questions c.args.log.now)
unfolding answer_case
passed c = (outcome_accepted _ tt tt (sym c.in-Ok.ensures)).0

-- or they are refused
denied : (c : In-Err) → answer (file_questions c.args.log.now) ≡ refused (number c.in-Err.refusal.question) c.in-Err.refusal.index
unfolding answer_case
denied c = sym c.in-Err.ensures

pub ask-requires : goal.ask-requires
unfolding record_count record_length most_records
ask-requires c =
    let (few, asked) = file_records c.args.log.now (passed c) in
    record { few = omega arith; has_records = omega arith; begun = asked }

pub ask-requires-in-Err : goal.ask-requires-in-Err
unfolding record_count record_length most_records
ask-requires-in-Err c =
    let (inside, few, asked, says) = twins_before c.args.log.now _ _ (denied c) in
    record { few = omega arith; has_records = omega arith; begun = asked }

pub returns-in-Ok : goal.returns-in-Ok
unfolding record_count record_length
returns-in-Ok c = c.ask.ensures ∙ sym (twins_decide c.args.log.now (passed (goal.at.returns-in-Ok c).In-Ok))

-- where they are refused, the refusal stands unless a record ahead of it is a twin
refused_by : (log : List ℕ) (refusal : Refusal) (twins : Result (Unit {0}) Refusal)
    → answer (file_questions log) ≡ refused (number refusal.question) refusal.index
    → asked_case twins ≡ answer (each (twin_questions log) 0 refusal.index)
    → asked_case (result_and twins (Err refusal)) ≡ answer (log_questions log)
unfolding answer_case
refused_by log refusal (Ok u) is_refused says = sym (no_twin_before log _ _ is_refused (sym says))
refused_by log refusal (Err twin) is_refused says = sym (twin_before log _ _ is_refused _ _ (sym says))

pub returns-in-Err : goal.returns-in-Err
returns-in-Err c =
    rw c.and.ensures
    (refused_by c.args.log.now c.in-Err.refusal c.ask-in-Err.result (denied (goal.at.returns-in-Err c).In-Err) c.ask-in-Err.ensures)
