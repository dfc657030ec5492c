-- A query by a rule: with a bound it is the query by that bound, in its questions, its answer and its slot; by windows it is refused
-- with 20 exactly where its rows are more than 64, and never with 10. Assumes nothing.
use Prim.Native.Nat.{ℕ, ◌≤◌}
use mathlib.Core.Bool.{true, cond}
use mathlib.Core.List.{List, [], ◌∷◌, ◌++◌}
use mathlib.Core.Logic.{◌⊎◌, inl, inr}
use mathlib.Core.Option.{Option, none, some}
use mathlib.Core.Path.{◌≡◌, refl, sym, ap, ◌∙◌}
use native.Mathlib.Omega.{arith}
use lib.Dec.{leb}
use lib.ListN.{length}
use borrow.Author.Tests.{leb-true, leb-false, le-leb, lt-leb}
use Rattle.model.specs.Log.{record_count}
use Rattle.model.specs.Split.{most_rows}
use Rattle.model.specs.Windows.{bound_in}
use Rattle.model.specs.Slot.{slot_length}
use Rattle.model.specs.Questions.{Question, refused, accepted, ask, ask_room, outcome, span_questions, record_questions, twin_questions, log_questions, order_questions, query_questions, width_questions}
use Rattle.model.specs.Questions.{with_bound, window_rows, rule_question, rows_question, ruled_order, ruled_questions}
use Rattle.model.specs.Calls.{Counts, counts_of, query_outcome, query_slot, rule_of, ruled_answer, ruled_mark, ruled_outcome, ruled_slot}
use Rattle.model.specs.Demands.{AllPass, SaysTooMany}
use Rattle.model.specs.declared.Bound.{Bound}
use Rattle.model.specs.declared.Bound.TheVariants as bound
use Rattle.model.specs.declared.Rule.{Rule}
use Rattle.model.specs.declared.Rule.TheVariants.{Rows, Share, Every, Scenes}
use Rattle.model.specs.declared.RuledQuery.{RuledQuery}
use Rattle.theory.proofs.Tests.{none≢some, some_inj, cases}
use Rattle.theory.proofs.Refusals.{accepted≢refused, all_head, all_tail, all_left, all_right, outcome_accepted, outcome_behind}
use Rattle.theory.proofs.Asking.{Holds, holds_append, holds_each, refused_holds}
use Rattle.theory.proofs.Windows.{aggregation, only}

-- ---- with a bound

-- the bound of a query by a rule that was made of it
pub bound_back : (bound : Bound) → bound_in (rule_of bound) ≡ some bound
unfolding rule_of bound_in
bound_back (bound.Rows c) = refl
bound_back (bound.Share p) = refl

module _ (q : RuledQuery) (bound : Bound) (is : bound_in q.rule ≡ some bound) where
  pub bound_order : (log : List ℕ) → ruled_order q log ≡ order_questions (with_bound q bound) log
  unfolding ruled_order rule_question width_questions order_questions bound_in ask log_questions
  bound_order log = by q.rule refl
    where
      by : (r : Rule) → q.rule ≡ r → ruled_order q log ≡ order_questions (with_bound q bound) log
      by (Rows c) e = rw (e, sym (some_inj is (ap bound_in e)))
      by (Share p) e = rw (e, sym (some_inj is (ap bound_in e)))
      by (Every frames start) e = absurd (none≢some (ap bound_in e) is)
      by (Scenes count) e = absurd (none≢some (ap bound_in e) is)

  pub bound_questions : (log : List ℕ) (room : ℕ) → ruled_questions q log room ≡ query_questions (with_bound q bound) log room
  unfolding ruled_questions rows_question query_questions
  bound_questions log room = rw (bound_order log, is, rows_question)

  pub bound_outcome : (log : List ℕ) (room : ℕ) → ruled_outcome q log room ≡ query_outcome (with_bound q bound) log room
  unfolding ruled_outcome ruled_answer query_outcome
  bound_outcome log room = rw (bound_questions log room, is, ruled_answer)

  pub bound_slot : (log slot : List ℕ) → ruled_slot q log slot ≡ query_slot (with_bound q bound) log slot
  unfolding ruled_slot ruled_answer ruled_mark query_slot
  bound_slot log slot = rw (bound_questions log (length slot), is, ruled_answer, ruled_mark)

-- ---- the numbers of questions

-- the question is not 10
abbrev NotTen : Question → Type 0
NotTen q = q.number ≡ 10 → ⊥

-- the questions of a log are 4 to 9 and 21
log_numbers : (log : List ℕ) → Holds NotTen (log_questions log)
unfolding log_questions record_questions span_questions twin_questions ask
log_numbers log = (
  (λ n. omega arith),
  (
    (λ n. omega arith),
    holds_each NotTen (λ i. record_questions log i ++ twin_questions log i) 0 (record_count log)
        (λ j. ((λ n. omega arith), ((λ n. omega arith), ((λ n. omega arith), ((λ n. omega arith), ((λ n. omega arith), tt)))))),
  ),
)

-- ---- 10 or 20

module _ (q : RuledQuery) (log : List ℕ) where
  -- where the questions ahead are passed, this one decides
  pub rows_decide : (room : ℕ) → slot_length ≤ room → AllPass (ruled_order q log)
      → ruled_outcome q log room ≡ outcome (rows_question q log ∷ []) (counts_of (ruled_answer q log))
  unfolding ruled_outcome ruled_questions ask_room ask outcome
  rows_decide room fits order =
      rw (le-leb slot_length room fits) (outcome_behind (ruled_order q log) _ (counts_of (ruled_answer q log)) order)

  -- it is one of the two, without an index
  pub rows_number : (((rows_question q log).number ≡ 10) ⊎ ((rows_question q log).number ≡ 20)) × ((rows_question q log).index ≡ 0)
  unfolding rows_question ask
  rows_number = by (bound_in q.rule) refl
    where
      by : (o : Option Bound) → bound_in q.rule ≡ o
          → (((rows_question q log).number ≡ 10) ⊎ ((rows_question q log).number ≡ 20)) × ((rows_question q log).index ≡ 0)
      by none e = rw (e, rows_question) (inr refl, refl)
      by (some bound) e = rw (e, rows_question) (inl refl, refl)

-- ---- by windows

module _ (q : RuledQuery) (windowed : bound_in q.rule ≡ none) (log : List ℕ) (room : ℕ) where
  -- where the questions ahead of 20 are passed, the number of rows decides
  windows_decide : slot_length ≤ room → AllPass (ruled_order q log)
      → ruled_outcome q log room
      ≡ cond (leb (length (window_rows q log)) most_rows) (accepted (record { rows = length (window_rows q log); error = 0; weighed = 0 }))
      (refused 20 0)
  unfolding rows_question ruled_answer window_rows ask outcome counts_of
  windows_decide fits order = rows_decide q log room fits order ∙ rw (windowed, rows_question, ruled_answer)

  -- an accepted query has room and at most 64 rows, and passes the questions ahead of 20
  pub accepted_windows : (counts : Counts) → ruled_outcome q log room ≡ accepted counts
      → (slot_length ≤ room) × AllPass (ruled_order q log) × (length (window_rows q log) ≤ most_rows)
      × (counts ≡ record { rows = length (window_rows q log); error = 0; weighed = 0 })
  unfolding ruled_outcome ruled_questions rows_question ruled_answer window_rows ask_room ask counts_of
  accepted_windows counts e =
      let r = outcome_accepted (ruled_questions q log room) (counts_of (ruled_answer q log)) counts e in
      let all : AllPass (ruled_order q log ++ (rows_question q log ∷ [])) = all_tail _ _ r.0 in
      let few = all_head _ _ (all_right (ruled_order q log) _ all) in (
        leb-true _ _ (all_head _ _ r.0),
        all_left (ruled_order q log) _ all,
        leb-true _ _ (rw (windowed, rows_question) at few),
        r.1 ∙ rw (windowed, ruled_answer),
      )

  -- 20 is said exactly where the span aggregation has more than 64 rows
  pub too_many_lem : slot_length ≤ room → AllPass (ruled_order q log) → SaysTooMany q log (ruled_outcome q log room)
  unfolding ruled_order
  too_many_lem fits order =
      let passes : (rule_question q).passed ≡ true = all_head _ _ (all_tail _ _ order) in
      let decide = windows_decide fits order in (
        λ e.
            cases (leb (length (window_rows q log)) most_rows) (λ t. absurd (accepted≢refused (rw t at (sym decide ∙ e))))
            (λ t. (window_rows q log, aggregation q log windowed passes, leb-false _ _ t)),
        λ (rows, a, more). decide ∙ rw (lt-leb (length (window_rows q log)) most_rows (rw (only q log windowed passes rows a) at more)),
      )

  -- and 10 is not among the questions
  pub not_too_few_lem : (index : ℕ) → ruled_outcome q log room ≡ refused 10 index → ⊥
  unfolding ruled_outcome ruled_questions ruled_order log_questions ask_room ask rows_question rule_question width_questions bound_in
  not_too_few_lem index e = let (x, other, ten, at) = refused_holds NotTen (ruled_questions q log room) _ 10 index numbers e in other ten
    where
      rule_number : (r : Rule) → q.rule ≡ r → (rule_question q).number ≡ 10 → ⊥
      rule_number (Rows c) e n = none≢some windowed (ap bound_in e)
      rule_number (Share p) e n = none≢some windowed (ap bound_in e)
      rule_number (Every frames start) e n = omega (arith, rw e at n)
      rule_number (Scenes count) e n = omega (arith, rw e at n)

      rows_number : (rows_question q log).number ≡ 10 → ⊥
      rows_number n = omega (arith, rw (windowed, rows_question) at n)

      numbers : Holds NotTen (ruled_questions q log room)
      numbers = (
        (λ n. omega arith),
        (
          (λ n. omega arith),
          (
            rule_number q.rule refl,
            holds_append NotTen (width_questions q ++ log_questions log) (rows_question q log ∷ [])
                (holds_append NotTen (width_questions q) (log_questions log) (rw (windowed, width_questions) tt) (log_numbers log)) (rows_number, tt),
          ),
        ),
      )
