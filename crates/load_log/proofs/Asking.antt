-- What a log has that passes its questions, and how 21 of its records goes with their 6 to 9. Assumes nothing.
use Prim.Native.Nat.{ℕ, ◌%◌, ◌*◌, ◌≤◌}
use mathlib.Core.Bool.{false}
use mathlib.Core.List.{List, [], ◌∷◌, ◌++◌}
use mathlib.Core.Path.{◌≡◌, refl, ap, ◌∙◌}
use native.Mathlib.Omega.{arith}
use lib.Dec.{leb, eqb}
use lib.ListN.{length}
use borrow.Author.Tests.{leb-true, eqb-true}
use Rattle.model.specs.Log.{record_length, record_at, record_count, records}
use Rattle.model.specs.Questions.{Question, Outcome, refused, accepted, ask, outcome, each, marked, most_records, span_questions, record_questions, twin_questions, with_records, file_questions, log_questions}
use Rattle.model.specs.Arrays.{record_arrays}
use Rattle.model.specs.Demands.{AllPass}
use Rattle.theory.proofs.Tests.{cases, and-true}
use Rattle.theory.proofs.Refusals.{all_head, all_tail, all_at, refused_first, passed_first}
use Rattle.theory.proofs.Asking.{answer, Holds, others_decide, first_no_woven}
use Rattle.theory.proofs.Lists.{all_left}
use Rattle.twins.specs.Keys.{Begun}
use Rattle.theory.proofs.SlotLaws.{length-list_from}

-- few enough records, whatever each of them is asked
few : (questions : ℕ → List Question) (log : List ℕ) → AllPass (with_records questions log) → record_count log ≤ most_records
unfolding ask
few questions log all = leb-true (record_count log) most_records (all_head _ _ (all_tail _ _ all))

-- a log that passes its questions has few enough records, and the arrays that hold them count as many
pub few_records : (log : List ℕ) → AllPass (log_questions log) → record_count log ≤ most_records
unfolding log_questions
few_records log = few (λ i. record_questions log i ++ twin_questions log i) log

pub decoded_count : (log : List ℕ) → (record_arrays (records log)).count ≡ record_count log
unfolding record_arrays records
decoded_count log = length-list_from 0 (record_count log) (λ i. record_at log (record_length * i))

-- records that pass 6 begin with the mark's first byte
begun : (log : List ℕ) (count : ℕ) → AllPass (each (record_questions log) 0 count) → Begun log count
unfolding record_questions marked ask
begun log count passed i lt =
    eqb-true _ _ (and-true _ _ (all_head _ _ (all_at (record_questions log) 0 count passed i (omega arith) (omega arith)))).0

-- the records of a log on file
pub file_records : (log : List ℕ) → AllPass (file_questions log) → (record_count log ≤ most_records) × Begun log (record_count log)
unfolding file_questions
file_records log file =
    (few (record_questions log) log file, begun log (record_count log) (all_tail _ _ (all_tail _ _ file)))

-- where 4 to 9 are passed, 21 decides
pub twins_decide : (log : List ℕ) → AllPass (file_questions log)
    → answer (log_questions log) ≡ answer (each (twin_questions log) 0 (record_count log))
unfolding file_questions log_questions ask outcome
twins_decide log file =
    let rest = all_tail _ _ file in
    rw (all_head _ _ file, all_head _ _ rest)
    (others_decide (record_questions log) (twin_questions log) 0 (record_count log) (all_tail _ _ rest))

-- the index of a record's questions is its own
indexed : (log : List ℕ) (i : ℕ) → Holds (λ q. q.index ≡ i) (record_questions log i)
unfolding record_questions span_questions ask
indexed log i = (refl, (refl, (refl, (refl, tt))))

-- where 4 to 9 are refused, 21 is asked first of the records before the index
pub twins_before : (log : List ℕ) (n j : ℕ) → answer (file_questions log) ≡ refused n j
    → (j ≤ record_count log) × (j ≤ most_records) × Begun log j
    × (answer (log_questions log) ≡ answer (each (twin_questions log) 0 j ++ (ask n j false ∷ [])))
unfolding file_questions log_questions ask outcome each most_records
twins_before log n j e =
    cases (eqb (length log % record_length) 0)
    (λ whole.
    cases (leb (record_count log) 128)
    (λ few.
    let (low, high, passed, says) =
    first_no_woven (record_questions log) (twin_questions log) 0 (record_count log) n j (indexed log) (rw (whole, few) at e) in
    let most = leb-true (record_count log) 128 few in (
      omega arith,
      omega arith,
      begun log j (rw (all_left (λ (k : ℕ). k) j) at passed),
      rw (whole, few) (rw (all_left (λ (k : ℕ). k) j) at says),
    ))
    (λ many. none 5 (rw (whole, many)) (rw (whole, many) at e)))
    (λ odd. none 4 (rw odd) (rw odd at e))
  where
    -- no record is before a log's own questions
    none : (m : ℕ) → answer (log_questions log) ≡ refused m 0 → ◌≡◌ {A = Outcome (Unit {0})} (refused m 0) (refused n j)
        → (j ≤ record_count log) × (j ≤ 128) × Begun log j
        × (answer (log_questions log) ≡ answer (each (twin_questions log) 0 j ++ (ask n j false ∷ [])))
    none m says said =
        let number : m ≡ n = cc in
        let index : 0 ≡ j = cc in
        (omega arith, omega arith, (λ i lt. absurd (omega arith)), rw (← index) (says ∙ ap (λ (x : ℕ). refused x 0) number))

module _ (log : List ℕ) (n j : ℕ) (denied : answer (file_questions log) ≡ refused n j) where
  -- where they pass it, the refusal stands
  pub no_twin_before : answer (each (twin_questions log) 0 j) ≡ accepted tt → answer (log_questions log) ≡ refused n j
  unfolding outcome ask
  no_twin_before e = (twins_before log n j denied).3 ∙ passed_first (each (twin_questions log) 0 j) (ask n j false ∷ []) tt tt e

  -- and else the twin's
  pub twin_before : (m i : ℕ) → answer (each (twin_questions log) 0 j) ≡ refused m i → answer (log_questions log) ≡ refused m i
  twin_before m i e = (twins_before log n j denied).3 ∙ refused_first (each (twin_questions log) 0 j) (ask n j false ∷ []) tt tt m i e
