-- A slot's questions asked in parts: 1 and 11 to 13, then the rows', then 17; and what a slot has that passes them.
-- Assumes nothing.
use Prim.Native.Nat.{ℕ, ◌≤◌}
use mathlib.Core.Bool.{◌&&◌}
use mathlib.Core.List.{List, [], ◌∷◌, ◌++◌, append-nil}
use mathlib.Core.Path.{◌≡◌, ◌∙◌}
use borrow.Author.Tests.{leb-true}
use lib.ListN.{length, take}
use Rattle.model.specs.Split.{most_rows}
use Rattle.model.specs.Slot.{slot_length, slot_count}
use Rattle.model.specs.Questions.{Question, refused, accepted, ask, ask_room, each, row_questions, tail_zero, error_known, slot_questions}
use Rattle.theory.proofs.Refusals.{all_head, all_tail, outcome_accepted, refused_first, passed_first}
use Rattle.theory.proofs.Asking.{answer}

module _ (slot : List ℕ) where
  -- 1 and 11 to 13
  abbrev header : List Question
  header = take 4 (slot_questions slot)

  abbrev rows : List Question
  rows = each (row_questions slot) 0 (slot_count slot)

  -- question 17, alone
  abbrev tail : List Question
  tail = ask 17 0 (tail_zero slot && error_known slot) ∷ []

  -- a slot that passes 1 and 11 to 13 is long enough and has at most 64 rows
  sized : (qs : List Question) → answer (header ++ qs) ≡ accepted tt → (768 ≤ length slot) × (slot_count slot ≤ 64)
  unfolding slot_questions ask_room ask slot_length most_rows
  sized qs e =
      let all = (outcome_accepted _ tt tt e).0 in (
        leb-true 768 (length slot) (all_head _ _ all),
        leb-true (slot_count slot) 64 (all_head _ _ (all_tail _ _ (all_tail _ _ (all_tail _ _ all)))),
      )

  pub header_sized : answer header ≡ accepted tt → (768 ≤ length slot) × (slot_count slot ≤ 64)
  header_sized e = sized [] (rw append-nil e)

  pub slot_sized : answer (slot_questions slot) ≡ accepted tt → (768 ≤ length slot) × (slot_count slot ≤ 64)
  unfolding slot_questions
  slot_sized e = sized (rows ++ tail) e

  pub refused_header : (n i : ℕ) → answer header ≡ refused n i → answer (slot_questions slot) ≡ refused n i
  unfolding slot_questions
  refused_header n i e = refused_first header (rows ++ tail) tt tt n i e

  module _ (passed : answer header ≡ accepted tt) where
    behind_header : answer (slot_questions slot) ≡ answer (rows ++ tail)
    unfolding slot_questions
    behind_header = passed_first header (rows ++ tail) tt tt passed

    pub refused_rows : (n i : ℕ) → answer rows ≡ refused n i → answer (slot_questions slot) ≡ refused n i
    refused_rows n i e = behind_header ∙ refused_first rows tail tt tt n i e

    pub behind_rows : answer rows ≡ accepted tt → answer (slot_questions slot) ≡ answer tail
    behind_rows e = behind_header ∙ passed_first rows tail tt tt e
