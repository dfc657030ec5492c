-- What the code's tests and loops say of questions: a question's test, questions that are asked for their answer alone, the
-- questions of one record or row after the other, and those of each record with others behind them. Assumes nothing.
use Prim.Native.Nat.{ℕ, zero, suc, ◌+◌, ◌-◌, ◌≤◌, ◌<◌}
use mathlib.Core.Bool.{Bool, true, false, not}
use mathlib.Core.List.{List, [], ◌∷◌, ◌++◌, append_assoc}
use mathlib.Core.Path.{◌≡◌, refl, sym, ap, ◌∙◌}
use native.Mathlib.Omega.{arith}
use borrow.Author.Tests.{not-true, not-false}
use Rattle.model.specs.Log.{record_count}
use Rattle.model.specs.Questions.{Question, Outcome, refused, accepted, ask, outcome, each, record_questions, twin_questions, file_questions, log_questions}
use Rattle.model.specs.Demands.{AllPass}
use Rattle.theory.proofs.Tests.{cases}
use Rattle.theory.proofs.Refusals.{accepted≢refused, all_nil, all_cons, all_head, all_tail, all_left, all_right, all_append, all_each, all_at}
use Rattle.theory.proofs.Refusals.{outcome_accepted, outcome_behind, refused_first, passed_first}
use Rattle.theory.proofs.Lists.{one_more}

-- a question whose test was said to fail, and one whose test was said to hold
pub denied : {said asked : Bool} → said ≡ asked → not said ≡ true → asked ≡ false
denied {said} e t = sym e ∙ not-true said t

pub granted : {said asked : Bool} → said ≡ asked → not said ≡ false → asked ≡ true
granted {said} e t = sym e ∙ not-false said t

-- what questions answer that are asked for their answer alone
abbrev pub answer : List Question → Outcome (Unit {0})
answer qs = outcome qs tt

module _ (questions : ℕ → List Question) (i count : ℕ) (more : i < count) where
  -- the questions from index i on: those of i before the next one's
  each_left : each questions i (count - i) ≡ questions i ++ each questions (suc i) (count - suc i)
  unfolding each
  each_left = one_more (each questions i) i count more

  pub refused_here : {A B : Type 0} (a : A) (b : B) (n j : ℕ) → outcome (questions i) a ≡ refused n j
      → outcome (each questions i (count - i)) b ≡ refused n j
  refused_here a b n j e = rw each_left (refused_first (questions i) _ a b n j e)

  pub passed_here : {A B : Type 0} (a : A) (b : B) → outcome (questions i) a ≡ accepted a
      → outcome (each questions i (count - i)) b ≡ outcome (each questions (suc i) (count - suc i)) b
  passed_here a b e = rw each_left (passed_first (questions i) _ a b e)

-- ---- what holds of each question of a list

abbrev pub Holds : (Question → Type 0) → List Question → Type 0
Holds P [] = Unit {0}
Holds P (q ∷ qs) = P q × Holds P qs

module _ (P : Question → Type 0) where
  pub holds_append : (ps qs : List Question) → Holds P ps → Holds P qs → Holds P (ps ++ qs)
  holds_append [] qs n m = m
  holds_append (p ∷ ps) qs n m = (n.0, holds_append ps qs n.1 m)

  pub holds_each : (qs : ℕ → List Question) (i count : ℕ) → ((j : ℕ) → Holds P (qs j)) → Holds P (each qs i count)
  unfolding each
  holds_each qs i zero n = tt
  holds_each qs i (suc count) n = holds_append (qs i) (each qs (suc i) count) (n i) (holds_each qs (suc i) count n)

  -- holds of that of a refusal
  pub refused_holds : {A : Type 0} (qs : List Question) (a : A) (n i : ℕ) → Holds P qs → outcome qs a ≡ refused n i
      → (q : Question) × P q × (q.number ≡ n) × (q.index ≡ i)
  unfolding outcome
  refused_holds [] a n i all e = absurd (accepted≢refused e)
  refused_holds {A} (q ∷ qs) a n i all e =
      cases q.passed (λ t. refused_holds qs a n i all.1 (rw t at e))
      (λ t. let said : ◌≡◌ {A = Outcome A} (refused q.number q.index) (refused n i) = rw t at e in
      let number : q.number ≡ n = cc in
      let index : q.index ≡ i = cc in (q, all.0, number, index))

-- ---- the questions of each record with others behind them

-- what comes behind some questions counts by its answer alone
behind_same : {A : Type 0} (qs xs ys : List Question) (a : A) → outcome xs a ≡ outcome ys a → outcome (qs ++ xs) a ≡ outcome (qs ++ ys) a
unfolding outcome
behind_same [] xs ys a e = e
behind_same (q ∷ qs) xs ys a e = rw (behind_same qs xs ys a e)

module _ (ps qs : ℕ → List Question) where
  abbrev Woven : ℕ → List Question
  Woven i = ps i ++ qs i

  -- all are passed exactly where the first ones are and the others are
  pub woven_firsts : (i count : ℕ) → AllPass (each Woven i count) → AllPass (each ps i count)
  woven_firsts i count all = all_each ps i count (λ j a b. all_left (ps j) (qs j) (all_at Woven i count all j a b))

  pub woven_others : (i count : ℕ) → AllPass (each Woven i count) → AllPass (each qs i count)
  woven_others i count all = all_each qs i count (λ j a b. all_right (ps j) (qs j) (all_at Woven i count all j a b))

  pub all_woven : (i count : ℕ) → AllPass (each ps i count) → AllPass (each qs i count) → AllPass (each Woven i count)
  all_woven i count firsts others =
      all_each Woven i count
      (λ j a b. all_append (ps j) (qs j) (all_at ps i count firsts j a b) (all_at qs i count others j a b))

  -- where the first ones are all passed, the others decide
  pub others_decide : (i count : ℕ) → AllPass (each ps i count) → answer (each Woven i count) ≡ answer (each qs i count)
  unfolding each
  others_decide i zero all = refl
  others_decide i (suc count) all =
      ap answer (append_assoc (ps i) (qs i) (each Woven (suc i) count))
      ∙ outcome_behind (ps i) _ tt (all_left (ps i) _ all)
      ∙ behind_same (qs i) _ _ tt (others_decide (suc i) count (all_right (ps i) _ all))

  -- where the first 'no' of the first ones is the record's with index j, the others are asked of the records before that one
  pub first_no_woven : (i count n j : ℕ) → ((k : ℕ) → Holds (λ q. q.index ≡ k) (ps k)) → answer (each ps i count) ≡ refused n j
      → (i ≤ j) × (j < i + count) × AllPass (each ps i (j - i))
      × (answer (each Woven i count) ≡ answer (each qs i (j - i) ++ (ask n j false ∷ [])))
  unfolding each outcome ask
  first_no_woven i zero n j indexed e = absurd (accepted≢refused e)
  first_no_woven i (suc count) n j indexed e = by (answer (ps i)) refl (first_no_woven (suc i) count n j indexed)
    where
      by : (o : Outcome (Unit {0})) → answer (ps i) ≡ o
          → (answer (each ps (suc i) count) ≡ refused n j
          → (suc i ≤ j) × (j < suc i + count) × AllPass (each ps (suc i) (j - suc i))
          × (answer (each Woven (suc i) count) ≡ answer (each qs (suc i) (j - suc i) ++ (ask n j false ∷ []))))
          → (i ≤ j) × (j < i + suc count) × AllPass (each ps i (j - i))
          × (answer (each Woven i (suc count)) ≡ answer (each qs i (j - i) ++ (ask n j false ∷ [])))
      by (refused m k) s later =
          let said : ◌≡◌ {A = Outcome (Unit {0})} (refused m k) (refused n j) = sym (refused_first (ps i) _ tt tt m k s) ∙ e in
          let (x, here, number, at) = refused_holds (λ q. q.index ≡ i) (ps i) tt m k (indexed i) s in
          let same : k ≡ j = cc in
          let none : j - i ≡ 0 = omega arith in (
            omega arith,
            omega arith,
            rw none all_nil,
            rw none
                (ap answer (append_assoc (ps i) (qs i) (each Woven (suc i) count)) ∙ refused_first (ps i) _ tt tt m k s ∙ said),
          )
      by (accepted u) s later =
          let passed = (outcome_accepted (ps i) tt u s).0 in
          let (low, high, before, says) = later (sym (outcome_behind (ps i) _ tt passed) ∙ e) in
          let one : j - i ≡ suc (j - suc i) = omega arith in (
            omega arith,
            omega arith,
            rw one (all_append (ps i) _ passed before),
            rw one
                (ap answer (append_assoc (ps i) (qs i) (each Woven (suc i) count))
                ∙ outcome_behind (ps i) _ tt passed
                ∙ behind_same (qs i) _ _ tt says
                ∙ sym (ap answer (append_assoc (qs i) (each qs (suc i) (j - suc i)) (ask n j false ∷ [])))),
          )

-- a log that passes its questions passes those of a log on file
pub file_passed : (log : List ℕ) → AllPass (log_questions log) → AllPass (file_questions log)
unfolding log_questions file_questions
file_passed log all =
    let rest = all_tail _ _ all in
    all_cons _ _ (all_head _ _ all)
    (all_cons _ _ (all_head _ _ rest)
    (woven_firsts (record_questions log) (twin_questions log) 0 (record_count log) (all_tail _ _ rest)))
