-- A walker's answers: of a slot that is read, the reader's rows in order and then the end for ever; of any other slot, the
-- reader's refusal at every step. Assumes nothing.
use Prim.Native.Nat.{ℕ, zero, suc, ◌≤◌, ◌<◌}
use mathlib.Core.List.{List}
use mathlib.Core.Option.{none, some}
use mathlib.Core.Path.{◌≡◌, refl, ap, ◌∙◌}
use native.Mathlib.Omega.{arith}
use borrow.Author.Tests.{ltb-true, ltb-false}
use lib.Dec.{ltb}
use lib.ListN.{length, get_or}
use Rattle.model.specs.Spans.{nowhere}
use Rattle.model.specs.Questions.{refused, accepted, slot_questions}
use Rattle.model.specs.Calls.{Header, read_outcome, read_rows, step_outcome, step_next}
use Rattle.theory.proofs.Tests.{cases}
use Rattle.theory.proofs.Refusals.{refused_same, refused_lent}
use Rattle.reader.proofs.Walk.{walk_row, walk_end}
use Rattle.lent.specs.Walk.{number_after}

module _ (slot : List ℕ) (n i : ℕ) (e : read_outcome slot ≡ refused n i) where
  -- over a slot that is refused a walker does not move
  pub walker_stays : (steps : ℕ) → number_after slot steps ≡ 0
  unfolding number_after read_outcome step_next
  walker_stays zero = refl
  walker_stays (suc steps) = refused_lent (slot_questions slot) _ n i _ _ e ∙ walker_stays steps

  -- and every answer is the refusal
  pub walker_refused : (steps : ℕ) → step_outcome slot (number_after slot steps) ≡ refused n i
  unfolding read_outcome step_outcome
  walker_refused steps = refused_same (slot_questions slot) _ _ n i e

module _ (slot : List ℕ) (header : Header) (read : read_outcome slot ≡ accepted header) where
  -- up to the row count each step goes on to the next row
  counts : (i : ℕ) → i ≤ length (read_rows slot) → number_after slot i ≡ i
  unfolding number_after
  counts zero le = refl
  counts (suc i) le = ap (step_next slot) (counts i (omega arith)) ∙ (walk_row slot header read i (omega arith)).1

  -- and behind the last row the number stays
  ended : (i : ℕ) → length (read_rows slot) ≤ i → number_after slot i ≡ length (read_rows slot)
  unfolding number_after
  ended zero le = omega arith
  ended (suc i) le =
      cases (ltb i (length (read_rows slot)))
      (λ t. let lt = ltb-true i (length (read_rows slot)) t in counts (suc i) (omega arith) ∙ omega (arith, lt, le))
      (λ t. ap (step_next slot) (ended i (ltb-false _ _ t)) ∙ (walk_end slot header read _ (omega arith)).1)

  -- the answer after i steps is the reader's row i
  pub walker_row : (i : ℕ) → i < length (read_rows slot)
      → step_outcome slot (number_after slot i) ≡ accepted (some (get_or (read_rows slot) i nowhere))
  walker_row i lt = ap (step_outcome slot) (counts i (omega arith)) ∙ (walk_row slot header read i lt).0

  -- and behind the last row the end, again and again
  pub walker_end : (i : ℕ) → length (read_rows slot) ≤ i → step_outcome slot (number_after slot i) ≡ accepted none
  walker_end i le = ap (step_outcome slot) (ended i le) ∙ (walk_end slot header read _ (omega arith)).0
