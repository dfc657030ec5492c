-- What the walk and lookup have in common with the reader: a walk from row 0 hands out the reader's rows, in order, and then
-- the end, which changes nothing; and lookup finds the value that the reader's rows have. Assumes nothing.
use Prim.Native.Nat.{ℕ, zero, suc, ◌+◌, ◌≤◌, ◌<◌}
use mathlib.Core.Bool.{true, false}
use mathlib.Core.List.{List, [], ◌∷◌}
use mathlib.Core.Option.{Option, none, some}
use mathlib.Core.Path.{◌≡◌, refl, sym, ap, ◌∙◌}
use native.Mathlib.Omega.{arith}
use borrow.Author.Tests.{lt-ltb, le-ltb, ltb-true, ltb-false}
use lib.Dec.{ltb}
use lib.ListN.{length, get_or, drop, drop_of_length-le}
use lib.Seq.{drop-cons}
use Rattle.model.specs.Spans.{Span, nowhere}
use Rattle.model.specs.Slot.{slot_count, slot_row, slot_rows, value_in}
use Rattle.model.specs.Questions.{Outcome, refused, accepted, slot_questions, lookup_questions}
use Rattle.model.specs.Calls.{Header, read_outcome, read_rows, step_outcome, step_next, lookup_outcome}
use Rattle.model.specs.Demands.{AllPass}
use Rattle.theory.proofs.Tests.{cases}
use Rattle.theory.proofs.Refusals.{all_left, all_outcome, all_lent, outcome_accepted, refused_same, refused_lent}
use Rattle.theory.proofs.SlotLaws.{length-list_from}
use Rattle.theory.proofs.Lists.{list_from_at}
use Rattle.theory.proofs.Asking.{answer}

-- a row that is handed out stands before those handed out later; the end and a refusal hand out none
unfoldable pub handed : Outcome (Option (Span ℕ)) → List (Span ℕ) → List (Span ℕ)
handed (accepted (some row)) rest = row ∷ rest
handed (accepted none) rest = []
handed (refused question index) rest = []

-- the rows that a walk hands out in so many steps, from the row with this number on
unfoldable pub walked : List ℕ → ℕ → ℕ → List (Span ℕ)
walked slot zero number = []
walked slot (suc steps) number = handed (step_outcome slot number) (walked slot steps (step_next slot number))

module _ (slot : List ℕ) (all : AllPass (slot_questions slot)) where
  -- the reader gives as many rows as the header says
  rows_read_lem : read_rows slot ≡ slot_rows slot
  unfolding read_rows
  rows_read_lem = all_lent (slot_questions slot) (slot_rows slot) [] all

  count_read : length (read_rows slot) ≡ slot_count slot
  unfolding slot_rows
  count_read = ap length rows_read_lem ∙ length-list_from 0 (slot_count slot) (slot_row slot)

  -- a number below it gives the reader's row, and the next number
  row_stepped : (i : ℕ) → i < length (read_rows slot)
      → (step_outcome slot i ≡ accepted (some (get_or (read_rows slot) i nowhere))) × (step_next slot i ≡ suc i)
  unfolding step_outcome step_next slot_rows
  row_stepped i lt =
      let here : ltb i (slot_count slot) ≡ true = lt-ltb _ _ (rw count_read at lt) in
      let row : get_or (read_rows slot) i nowhere ≡ slot_row slot i =
      rw rows_read_lem (list_from_at (slot_row slot) nowhere 0 (slot_count slot) i (rw count_read at lt) ∙ ap (slot_row slot) (omega arith)) in
      (rw row (all_outcome _ _ all ∙ rw here), all_lent _ _ _ all ∙ rw here)

  -- every other number gives the end, and itself
  end_stepped : (i : ℕ) → length (read_rows slot) ≤ i → (step_outcome slot i ≡ accepted none) × (step_next slot i ≡ i)
  unfolding step_outcome step_next
  end_stepped i le =
      let past : ltb i (slot_count slot) ≡ false = le-ltb _ _ (rw count_read at le) in
      (all_outcome _ _ all ∙ rw past, all_lent _ _ _ all ∙ rw past)

  -- from row i on a walk hands out the rows from there on
  walk_from : (steps i : ℕ) → length (read_rows slot) ≤ i + steps → walked slot steps i ≡ drop i (read_rows slot)
  unfolding walked handed
  walk_from zero i le = sym (drop_of_length-le (read_rows slot) {i = i} (omega arith))
  walk_from (suc steps) i le =
      cases (ltb i (length (read_rows slot))) (λ t. here (ltb-true _ _ t) (walk_from steps (suc i) (omega arith)))
      (λ t. past (ltb-false _ _ t))
    where
      here : i < length (read_rows slot) → walked slot steps (suc i) ≡ drop (suc i) (read_rows slot)
          → walked slot (suc steps) i ≡ drop i (read_rows slot)
      here lt rest =
          let step = row_stepped i lt in
          rw (step.0, step.1, rest) (sym (drop-cons (read_rows slot) i nowhere lt))

      past : length (read_rows slot) ≤ i → walked slot (suc steps) i ≡ drop i (read_rows slot)
      past done = rw (end_stepped i done).0 (sym (drop_of_length-le (read_rows slot) done))

-- ---- the walk

module _ (slot : List ℕ) (header : Header) (read : read_outcome slot ≡ accepted header) where
  all_passed : AllPass (slot_questions slot)
  unfolding read_outcome
  all_passed = (outcome_accepted (slot_questions slot) _ header read).0

  -- of a slot that is read, row i and the number after it
  pub walk_row : (i : ℕ) → i < length (read_rows slot)
      → (step_outcome slot i ≡ accepted (some (get_or (read_rows slot) i nowhere))) × (step_next slot i ≡ suc i)
  walk_row = row_stepped slot all_passed

  -- and behind the last row the end, where the number stays
  pub walk_end : (i : ℕ) → length (read_rows slot) ≤ i → (step_outcome slot i ≡ accepted none) × (step_next slot i ≡ i)
  walk_end = end_stepped slot all_passed

-- a walk of enough steps over any slot hands out exactly the reader's rows
pub walk_all : (slot : List ℕ) (steps : ℕ) → length (read_rows slot) ≤ steps → walked slot steps 0 ≡ read_rows slot
unfolding walked handed step_outcome read_rows
walk_all slot steps enough = by (answer (slot_questions slot)) refl
  where
    none_walked : (question index : ℕ) → answer (slot_questions slot) ≡ refused question index → (steps : ℕ)
        → walked slot steps 0 ≡ []
    none_walked question index e zero = refl
    none_walked question index e (suc steps) =
        let step : step_outcome slot 0 ≡ refused question index = refused_same (slot_questions slot) tt _ question index e in rw step

    by : (says : Outcome (Unit {0})) → answer (slot_questions slot) ≡ says → walked slot steps 0 ≡ read_rows slot
    by (accepted u) e = walk_from slot (outcome_accepted (slot_questions slot) tt u e).0 steps 0 (omega arith)
    by (refused question index) e =
        none_walked question index e steps ∙ sym (refused_lent (slot_questions slot) tt question index (slot_rows slot) [] e)

-- ---- lookup

-- what lookup gives is the value that the reader's rows have
pub lookup_reads : (slot : List ℕ) (group frame : ℕ) (found : Option ℕ) → lookup_outcome slot group frame ≡ accepted found
    → found ≡ value_in (read_rows slot) group frame
unfolding lookup_outcome lookup_questions
lookup_reads slot group frame found e =
    let r = outcome_accepted (lookup_questions slot group) _ found e in
    r.1 ∙ rw (rows_read_lem slot (all_left (slot_questions slot) _ r.0))
