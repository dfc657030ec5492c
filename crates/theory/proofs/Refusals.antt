-- What a call's list of questions says: a refusal is the first 'no', and then what was lent is as it was; an acceptance
-- means that every question is passed. So the first demand. Assumes nothing.
use Prim.Native.Nat.{ℕ, zero, suc, ◌+◌, ◌≤◌, ◌<◌}
use mathlib.Core.Bool.{true, false, cond}
use mathlib.Core.List.Memᴰ
use mathlib.Core.List.{List, [], ◌∷◌, ◌++◌, append-nil, Memᴰ}
use mathlib.Core.Logic.{◌⊎◌, inl, inr, ◌↔◌}
use mathlib.Core.Option.{Option, none, some}
use mathlib.Core.Path.{◌≡◌, refl, sym, ap, ap₂, subst, ◌∙◌}
use native.Mathlib.Omega.{arith}
use lib.Dec.{eqb}
use borrow.Author.Tests.{le-leb, leb-true, eqb-true, eqb-false}
use lib.ListN.{length}
use Rattle.model.specs.Slot.{slot_length}
use Rattle.model.specs.Questions.{Question, Outcome, refused, accepted, ask, ask_room, outcome, lent, each, enough_rows, query_by}
use Rattle.model.specs.Questions.{ruled_questions, order_questions, write_questions, without_twins_questions, segments_questions, query_questions, slot_questions}
use Rattle.model.specs.Calls.{Counts, write_outcome, written_buffer, without_twins_outcome, without_twins_buffer, segments_outcome, filled_list, query_outcome, query_slot, answer_of, counts_of, read_outcome, read_list_questions, read_list_outcome, read_list, step_outcome, step_next, lookup_outcome}
use Rattle.model.specs.Calls.{ruled_outcome, ruled_slot, bound_of, by_letter_questions, letter_outcome, letter_slot}
use Rattle.model.specs.Check.{check_outcome}
use Rattle.model.specs.Lookups.{lookups_questions, lookups_outcome, lookups_list, lookups_values, lookups_covered}
use Rattle.model.specs.Demands.{AllPass, FirstNo, Asks, Demand1}
use Rattle.model.specs.declared.Bound.{Bound}
use Rattle.model.specs.declared.Query.{Query}
use Rattle.theory.proofs.Tests.{cases}

-- an acceptance is no refusal
pub accepted≢refused : {A : Type 0} {a : A} {n i : ℕ} → accepted a ≡ refused n i → ⊥
accepted≢refused e = let z : ◌≡◌ {A = ℕ} 0 1 = cc in omega arith

-- two acceptances give the same if they are equal
pub accepted_inj : {A : Type 0} {a b : A} → accepted a ≡ accepted b → a ≡ b
accepted_inj e = cc

-- ---- every question is passed

-- no questions are all passed
pub all_nil : AllPass []
all_nil q m = absurd (Memᴰ.not-nil m)

-- one more question
pub all_cons : (q : Question) (qs : List Question) → q.passed ≡ true → AllPass qs → AllPass (q ∷ qs)
all_cons q qs here there x m = by (Memᴰ.cases_cons m)
  where
    by : (x ≡ q) ⊎ Memᴰ x qs → x.passed ≡ true
    by (inl e) = ap (λ (z : Question). z.passed) e ∙ here
    by (inr t) = there x t

-- the first question of those passed
pub all_head : (q : Question) (qs : List Question) → AllPass (q ∷ qs) → q.passed ≡ true
all_head q qs all = all q (Memᴰ.head refl)

-- the others
pub all_tail : (q : Question) (qs : List Question) → AllPass (q ∷ qs) → AllPass qs
all_tail q qs all x m = all x (Memᴰ.tail m)

-- of one list and another behind it
pub all_append : (ps qs : List Question) → AllPass ps → AllPass qs → AllPass (ps ++ qs)
all_append ps qs left right x m = by (Memᴰ.append_cases ps m)
  where
    by : Memᴰ x ps ⊎ Memᴰ x qs → x.passed ≡ true
    by (inl t) = left x t
    by (inr t) = right x t

-- so the first list's are
pub all_left : (ps qs : List Question) → AllPass (ps ++ qs) → AllPass ps
all_left ps qs all x m = all x (Memᴰ.append_left qs m)

-- and the second's
pub all_right : (ps qs : List Question) → AllPass (ps ++ qs) → AllPass qs
all_right ps qs all x m = all x (Memᴰ.append_right ps m)

-- of each record or row
pub all_each : (qs : ℕ → List Question) (i count : ℕ) → ((j : ℕ) → i ≤ j → j < i + count → AllPass (qs j))
    → AllPass (each qs i count)
unfolding each
all_each qs i zero all = all_nil
all_each qs i (suc count) all =
    all_append (qs i) (each qs (suc i) count) (all i (omega arith) (omega arith))
    (all_each qs (suc i) count (λ j a b. all j (omega arith) (omega arith)))

-- so each one's are
pub all_at : (qs : ℕ → List Question) (i count : ℕ) → AllPass (each qs i count)
    → (j : ℕ) → i ≤ j → j < i + count → AllPass (qs j)
unfolding each
all_at qs i zero all j a b = absurd (omega arith)
all_at qs i (suc count) all j a b =
    let here = all_left (qs i) (each qs (suc i) count) all in
    let there = all_right (qs i) (each qs (suc i) count) all in
    cases (eqb i j) (λ e. subst (λ (k : ℕ). AllPass (qs k)) (eqb-true i j e) here)
    (λ e. all_at qs (suc i) count there j (omega (arith, eqb-false i j e)) (omega arith))

-- ---- the answer, and what was lent

module _ {A : Type 0} where
  -- a refusal names the first 'no'
  pub outcome_refused : (qs : List Question) (a : A) (n i : ℕ) → outcome qs a ≡ refused n i → FirstNo qs n i
  unfolding outcome
  outcome_refused [] a n i e = absurd (accepted≢refused e)
  outcome_refused (q ∷ qs) a n i e =
      cases q.passed (λ p. later p (outcome_refused qs a n i (rw p at e))) (λ p. here p (rw p at e))
    where
      later : q.passed ≡ true → FirstNo qs n i → FirstNo (q ∷ qs) n i
      later p r =
          record {
            before = q ∷ r.before;
            failed = r.failed;
            after = r.after;
            parts = ap (λ (l : List Question). q ∷ l) r.parts;
            passed = all_cons q r.before p r.passed;
            denied = r.denied;
            numbered = r.numbered;
            indexed = r.indexed;
          }

      here : q.passed ≡ false → ◌≡◌ {A = Outcome A} (refused q.number q.index) (refused n i) → FirstNo (q ∷ qs) n i
      here p s =
          record {
            before = [];
            failed = q;
            after = qs;
            parts = refl;
            passed = all_nil;
            denied = p;
            numbered = cc;
            indexed = cc;
          }

  -- an acceptance passes every question, and gives what is given
  pub outcome_accepted : (qs : List Question) (a b : A) → outcome qs a ≡ accepted b → AllPass qs × (b ≡ a)
  unfolding outcome
  outcome_accepted [] a b e = (all_nil, cc)
  outcome_accepted (q ∷ qs) a b e =
      cases q.passed (λ p. later p (outcome_accepted qs a b (rw p at e)))
      (λ p. absurd (accepted≢refused (sym (rw p at e))))
    where
      later : q.passed ≡ true → AllPass qs × (b ≡ a) → AllPass (q ∷ qs) × (b ≡ a)
      later p r = (all_cons q qs p r.0, r.1)

  -- a call whose questions are all passed is accepted
  pub all_outcome : (qs : List Question) (a : A) → AllPass qs → outcome qs a ≡ accepted a
  unfolding outcome
  all_outcome [] a all = refl
  all_outcome (q ∷ qs) a all = rw (all_head q qs all) (all_outcome qs a (all_tail q qs all))

  -- questions that are passed may be left out
  pub outcome_behind : (ps qs : List Question) (a : A) → AllPass ps → outcome (ps ++ qs) a ≡ outcome qs a
  unfolding outcome
  outcome_behind [] qs a all = refl
  outcome_behind (p ∷ ps) qs a all = rw (all_head p ps all) (outcome_behind ps qs a (all_tail p ps all))

  -- the first 'no' refuses
  pub first_no_outcome : (qs : List Question) (a : A) (n i : ℕ) → FirstNo qs n i → outcome qs a ≡ refused n i
  unfolding outcome
  first_no_outcome qs a n i no-at =
      rw (no-at.parts, outcome_behind no-at.before (no-at.failed ∷ no-at.after) a no-at.passed, no-at.denied)
      (cc (no-at.numbered, no-at.indexed))

  -- and what was lent holds what it gives
  pub all_lent : (qs : List Question) (given kept : A) → AllPass qs → lent qs given kept ≡ given
  unfolding lent
  all_lent [] given kept all = refl
  all_lent (q ∷ qs) given kept all = rw (all_head q qs all) (all_lent qs given kept (all_tail q qs all))

  pub lent_behind : (ps qs : List Question) (given kept : A) → AllPass ps → lent (ps ++ qs) given kept ≡ lent qs given kept
  unfolding lent
  lent_behind [] qs given kept all = refl
  lent_behind (p ∷ ps) qs given kept all = rw (all_head p ps all) (lent_behind ps qs given kept (all_tail p ps all))

  -- a refusal keeps what was lent
  pub refused_lent : {B : Type 0} (qs : List Question) (b : B) (n i : ℕ) (given kept : A) → outcome qs b ≡ refused n i
      → lent qs given kept ≡ kept
  unfolding outcome lent
  refused_lent [] b n i given kept e = absurd (accepted≢refused e)
  refused_lent (q ∷ qs) b n i given kept e =
      cases q.passed (λ p. rw p (refused_lent qs b n i given kept (rw p at e))) (λ p. rw p)

  -- a call that gives what it was lent changes nothing
  pub lent_same : (qs : List Question) (a : A) → lent qs a a ≡ a
  unfolding lent
  lent_same [] a = refl
  lent_same (q ∷ qs) a = cases q.passed (λ p. rw p (lent_same qs a)) (λ p. rw p)

-- ---- questions asked in parts

module _ {A B : Type 0} where
  -- a refusal is the same whatever comes behind it and whatever would be given
  pub refused_first : (ps qs : List Question) (a : A) (b : B) (n i : ℕ) → outcome ps a ≡ refused n i
      → outcome (ps ++ qs) b ≡ refused n i
  unfolding outcome
  refused_first [] qs a b n i e = absurd (accepted≢refused e)
  refused_first (p ∷ ps) qs a b n i e =
      cases p.passed (λ t. rw t (refused_first ps qs a b n i (rw t at e))) (λ t. rw t (here (rw t at e)))
    where
      here : ◌≡◌ {A = Outcome A} (refused p.number p.index) (refused n i)
          → ◌≡◌ {A = Outcome B} (refused p.number p.index) (refused n i)
      here s = cc

  pub refused_same : (qs : List Question) (a : A) (b : B) (n i : ℕ) → outcome qs a ≡ refused n i
      → outcome qs b ≡ refused n i
  refused_same qs a b n i e = rw append-nil at (refused_first qs [] a b n i e)

  -- where all are passed, those behind them decide
  pub passed_first : (ps qs : List Question) (a : A) (b : B) → outcome ps a ≡ accepted a
      → outcome (ps ++ qs) b ≡ outcome qs b
  passed_first ps qs a b e = outcome_behind ps qs b (outcome_accepted ps a a e).0

  -- and what is given is given
  pub passed_same : (qs : List Question) (a : A) (b : B) → outcome qs a ≡ accepted a → outcome qs b ≡ accepted b
  passed_same qs a b e = all_outcome qs b (outcome_accepted qs a a e).0

  pub passed_lent : (qs : List Question) (a : A) (given kept : B) → outcome qs a ≡ accepted a → lent qs given kept ≡ given
  passed_lent qs a given kept e = all_lent qs given kept (outcome_accepted qs a a e).0

-- ---- the calls

-- a call that answers by its questions, where a refusal keeps what was lent
asks : {A B : Type 0} (qs : List Question) (a : A) (was is : B)
    → ((n i : ℕ) → outcome qs a ≡ refused n i → is ≡ was) → Asks qs (outcome qs a) was is
asks qs a was is keeps =
    record {
      refusal = λ n i e. (outcome_refused qs a n i e, keeps n i e);
      acceptance = λ b e. (outcome_accepted qs a b e).0;
    }

-- a query whose bound is named by a letter
letter_asks : (kind letter x width : ℕ) (log slot : List ℕ)
    → Asks (by_letter_questions kind letter x width log (length slot)) (letter_outcome kind letter x width log (length slot)) slot
    (letter_slot kind letter x width log slot)
unfolding by_letter_questions letter_outcome letter_slot query_outcome query_slot
letter_asks kind letter x width log slot = by (bound_of letter x) refl
  where
    by : (o : Option Bound) → bound_of letter x ≡ o
        → Asks (by_letter_questions kind letter x width log (length slot)) (letter_outcome kind letter x width log (length slot)) slot
        (letter_slot kind letter x width log slot)
    by none e =
        rw (e, by_letter_questions, letter_outcome, letter_slot) (asks _ _ _ _ (λ n i h. refl))
    by (some bound) e =
        rw (e, by_letter_questions, letter_outcome, letter_slot)
        (asks _ _ _ _ (λ n i. refused_lent (query_questions (query_by kind bound width) log (length slot)) _ n i _ _))

-- the first demand
pub demand1 : Demand1
unfolding write_outcome written_buffer without_twins_outcome without_twins_buffer segments_outcome filled_list query_outcome query_slot ruled_outcome ruled_slot read_outcome read_list_outcome read_list step_outcome step_next lookup_outcome check_outcome lookups_outcome lookups_list lookups_values lookups_covered
demand1 =
    record {
      write = λ r buffer. asks _ _ _ _ (λ n i. refused_lent (write_questions r (length buffer)) _ n i _ _);
      without_twins = λ log buffer. asks _ _ _ _ (λ n i. refused_lent (without_twins_questions log (length buffer)) _ n i _ _);
      segments = λ kind width log list. asks _ _ _ _ (λ n i. refused_lent (segments_questions kind width log (length list)) _ n i _ _);
      query = λ q log slot. asks _ _ _ _ (λ n i. refused_lent (query_questions q log (length slot)) _ n i _ _);
      ruled = λ q log slot. asks _ _ _ _ (λ n i. refused_lent (ruled_questions q log (length slot)) _ n i _ _);
      letter = letter_asks;
      read = λ slot. asks _ _ _ _ (λ n i e. refl);
      read_list = λ slot list. asks _ _ _ _ (λ n i. refused_lent (read_list_questions slot (length list)) _ n i _ _);
      step = λ slot number. asks _ _ _ _ (λ n i. refused_lent (slot_questions slot) _ n i _ _);
      lookup = λ slot group frame. asks _ _ _ _ (λ n i e. refl);
      check = λ width log slot. asks _ _ _ _ (λ n i e. refl);
      lookups = λ slot groups frames values covered.
          let qs = lookups_questions slot groups (length frames) (length values) (length covered) in
          asks qs tt _ _ (λ n i e. ap₂ (λ v c. (v, c)) (refused_lent qs tt n i _ values e) (refused_lent qs tt n i _ covered e));
    }

module _ (q : Query) (log : List ℕ) (room : ℕ) where
  -- an accepted query has room, passes the questions ahead of 10 and has rows that answer its bound
  pub accepted_query : (counts : Counts) → query_outcome q log room ≡ accepted counts
      → (slot_length ≤ room) × AllPass (order_questions q log) × (enough_rows q log ≡ true)
      × (counts ≡ counts_of (answer_of q log))
  unfolding query_outcome query_questions ask_room ask
  accepted_query counts e =
      let r = outcome_accepted (query_questions q log room) (counts_of (answer_of q log)) counts e in
      let all : AllPass (order_questions q log ++ (ask 10 0 (enough_rows q log) ∷ [])) = all_tail _ _ r.0 in (
        leb-true _ _ (all_head _ _ r.0),
        all_left (order_questions q log) _ all,
        all_head _ _ (all_right (order_questions q log) _ all),
        r.1,
      )

  -- where the questions ahead of 10 are passed, its answer decides
  pub too_few_lem : AllPass (order_questions q log) → slot_length ≤ room
      → (query_outcome q log room ≡ refused 10 0) ↔ (enough_rows q log ≡ false)
  unfolding query_outcome query_questions ask_room ask outcome
  too_few_lem order fits =
      let counts = counts_of (answer_of q log) in
      let left : query_outcome q log room ≡ cond (enough_rows q log) (accepted counts) (refused 10 0) =
      rw (le-leb slot_length room fits) (outcome_behind (order_questions q log) _ counts order) in (
        λ e. cases (enough_rows q log) (λ t. absurd (accepted≢refused (rw t at (sym left ∙ e)))) (λ t. t),
        λ e. left ∙ rw e,
      )
