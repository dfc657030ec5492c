-- The questions of a slot against its log in parts: 1, the log's and the slot's, and 22 to 24. Assumes nothing.
use Prim.Native.Nat.{ℕ, ◌≤◌, ◌<◌}
use mathlib.Core.Bool.{Bool, true, false, ◌&&◌, not, cond}
use mathlib.Core.List.{List, ◌++◌, append_assoc}
use mathlib.Core.Option.{Option}
use mathlib.Core.Path.{◌≡◌, refl, sym, ap, ◌∙◌}
use borrow.Author.Tests.{le-leb, lt-leb}
use lib.Dec.{eqb}
use lib.ListN.{length}
use Rattle.std.specs.Prelude as std
use Rattle.std.specs.Prelude.{Some, None, Result, Ok, Err, IsOk, is_some, IfSome}
use Rattle.model.specs.Spans.{Span}
use Rattle.model.specs.Log.{records, greatest_kind, value}
use Rattle.model.specs.Slot.{slot_length, by_bound, slot_kind, slot_error, slot_rows}
use Rattle.model.specs.Questions.{Question, refused, accepted, ask, ask_room, outcome, marked, log_questions, slot_questions, width_known, ask_width}
use Rattle.model.specs.Calls.{kind_number}
use Rattle.model.specs.Check.{against_questions, bounded_questions, check_questions, check_outcome}
use Rattle.model.specs.Demands.{AllPass, Segmentation}
use Rattle.model.specs.declared.Kind.{Kind}
use Rattle.theory.proofs.Refusals.{all_head, all_left, all_right, outcome_accepted, outcome_behind, all_outcome, refused_first, passed_first}
use Rattle.theory.proofs.Check.{bound_marked}
use Rattle.theory.proofs.Asking.{answer}
use Rattle.compare.specs.declared.Compared.{Compared}
use Rattle.compare.specs.Found.{Compares}
use Rattle.checker.specs.Found.{found_questions}

-- 23 is asked of kind 3 alone
pub asked_of : (greatest reaches : Bool) → cond greatest reaches true ≡ not (greatest && not reaches)
asked_of true true = refl
asked_of true false = refl
asked_of false reaches = refl

-- and that is the greatest load
pub asked_of_kind : (k : Kind) (greatest reaches : Bool) → greatest ≡ eqb (kind_number k) greatest_kind
    → cond (eqb (kind_number k) greatest_kind) reaches true ≡ not (greatest && not reaches)
asked_of_kind k greatest reaches e = rw (← e) (asked_of greatest reaches)

-- what is found of the rows answers 22 to 24
pub found_answers : (kind error : ℕ) (rows segs : List (Span ℕ)) (found : std.Option Compared) → Compares rows segs found
    → (val : ℕ → ℕ → Option ℕ) → Segmentation val segs
    → answer (found_questions kind error found) ≡ answer (against_questions kind error rows val)
unfolding found_questions against_questions outcome ask
found_answers kind error rows segs None compares val is = rw (sym (compares.same val is))
found_answers kind error rows segs (Some found) compares val is =
    rw (sym (compares.same val is), compares.reaches val is, compares.error val is)

-- once a slot has the mark of a bound, what every slot is asked decides
pub marked_slot : (slot : List ℕ) → 768 ≤ length slot → marked slot 0 0x50 by_bound ≡ true → answer (slot_questions slot) ≡ answer (bounded_questions slot)
unfolding slot_questions bounded_questions outcome ask_room ask slot_length
marked_slot slot long mark = rw (le-leb 768 (length slot) long, bound_marked slot mark, mark)

-- so one that has passed those of a slot by a bound has passed what every slot is asked
pub slot_passed : (slot : List ℕ) → 768 ≤ length slot → AllPass (bounded_questions slot) → AllPass (slot_questions slot)
unfolding bounded_questions ask
slot_passed slot long bounded =
    (outcome_accepted (slot_questions slot) tt tt (marked_slot slot long (all_head _ _ bounded) ∙ all_outcome (bounded_questions slot) tt bounded)).0

module _ (width : ℕ) (log slot : List ℕ) where
  -- the log's and the slot's, and those behind: 22 to 24
  abbrev pub own : List Question
  own = log_questions log ++ bounded_questions slot

  abbrev against : List Question
  against = against_questions (slot_kind slot) (slot_error slot) (slot_rows slot) (value (slot_kind slot) width (records log))

  -- 1
  pub short_slot : length slot < 768 → check_outcome width log slot ≡ refused 1 0
  unfolding check_outcome check_questions outcome ask_room ask slot_length
  short_slot short = rw (lt-leb 768 (length slot) short)

  module _ (long : 768 ≤ length slot) where
    -- 25
    pub unknown_width : width_known width ≡ false → check_outcome width log slot ≡ refused 25 0
    unfolding check_outcome check_questions outcome ask_room ask_width ask slot_length
    unknown_width unknown = rw (le-leb 768 (length slot) long, unknown)

    module _ (known : width_known width ≡ true) where
      behind_width : check_outcome width log slot ≡ answer (log_questions log ++ (bounded_questions slot ++ against))
      unfolding check_outcome check_questions outcome ask_room ask_width ask slot_length
      behind_width = rw (le-leb 768 (length slot) long, known)

      behind_both : check_outcome width log slot ≡ answer (own ++ against)
      behind_both = behind_width ∙ ap (λ qs. answer qs) (sym (append_assoc (log_questions log) (bounded_questions slot) against))

      pub refused_own : (n i : ℕ) → answer own ≡ refused n i → check_outcome width log slot ≡ refused n i
      refused_own n i e = behind_both ∙ refused_first own against tt tt n i e

      pub behind_own : answer own ≡ accepted tt → check_outcome width log slot ≡ answer against
      behind_own e = behind_both ∙ passed_first own against tt tt e

      -- a log and a slot that have passed pass what every log and every slot is asked
      pub own_passed : answer own ≡ accepted tt → AllPass (log_questions log) × AllPass (slot_questions slot)
      own_passed e =
          let all = (outcome_accepted own tt tt e).0 in (
            all_left (log_questions log) (bounded_questions slot) all,
            slot_passed slot long (all_right (log_questions log) (bounded_questions slot) all),
          )

      -- the log's
      pub refused_log : {n i : ℕ} → answer (log_questions log) ≡ refused n i → check_outcome width log slot ≡ refused n i
      refused_log e = behind_width ∙ refused_first (log_questions log) _ tt tt _ _ e

      module _ (logged : AllPass (log_questions log)) where
        behind_log : check_outcome width log slot ≡ answer (bounded_questions slot ++ against)
        behind_log = behind_width ∙ outcome_behind (log_questions log) _ tt logged

        -- the slot's
        pub refused_slot : {n i : ℕ} → answer (bounded_questions slot) ≡ refused n i → check_outcome width log slot ≡ refused n i
        refused_slot e = behind_log ∙ refused_first (bounded_questions slot) against tt tt _ _ e

        -- and those behind them
        pub behind_slot : AllPass (bounded_questions slot) → check_outcome width log slot ≡ answer against
        behind_slot bounded = behind_log ∙ outcome_behind (bounded_questions slot) against tt bounded
