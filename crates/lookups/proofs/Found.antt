-- The rows of a slot that has passed its questions begin and end in the order of places, so that the first that does not end before a
-- frame is the only one that can contain it. Assumes nothing.
use Prim.Native.Nat.{ℕ, zero, suc, ◌+◌, ◌-◌, ◌*◌, ◌≤◌, ◌<◌}
use mathlib.Core.Bool.{true, false}
use mathlib.Core.List.{List}
use mathlib.Core.Option.{none, some}
use mathlib.Core.Path.{◌≡◌, refl, sym, ap, ◌∙◌}
use native.Mathlib.Omega.{arith}
use borrow.Author.Tests.{leb-true, eqb-true, eqb-false}
use lib.Dec.{eqb}
use Rattle.model.specs.Common.{list_from}
use Rattle.model.specs.Spans.{Span, holds}
use Rattle.model.specs.Slot.{slot_count, slot_row, slot_rows, value_in}
use Rattle.model.specs.Questions.{ask, row_questions, slot_questions}
use Rattle.model.specs.Demands.{AllPass, Bytes}
use Rattle.theory.proofs.Tests.{cases, false_holds, true_holds}
use Rattle.theory.proofs.Refusals.{all_head, all_tail}
use Rattle.theory.proofs.SlotLaws.{rows_passed}
use Rattle.theory.proofs.InOrder.{row_held, two_small}
use Rattle.theory.proofs.Lists.{list_from_left, all_left}
use Rattle.slot.specs.Places.{place_of, least_place}
use Rattle.slot.proofs.Compared.{in_order_lem}
use Rattle.lookups.specs.Ends.{end_of, EndInOrder, Reached}

-- what goes up from each to the next goes up from each to every later one
ascending : (h : ℕ → ℕ) (count : ℕ) → ((i : ℕ) → suc i < count → h i ≤ h (suc i)) → (i j : ℕ) → i ≤ j → j < count → h i ≤ h j
ascending h count next i zero le lt = let same : i ≡ 0 = omega (arith, le) in omega (arith, ap h same)
ascending h count next i (suc j) le lt =
    cases (eqb i (suc j)) (λ e. omega (arith, ap h (eqb-true i (suc j) e)))
    (λ e.
    let up = ascending h count next i j (omega (arith, le, eqb-false i (suc j) e)) (omega (arith, lt)) in
    omega (arith, up, next j lt))

-- ---- rows that do not contain a frame

module _ (h : ℕ → Span ℕ) (g f : ℕ) where
  value_none : (from count : ℕ) → ((i : ℕ) → from ≤ i → i < from + count → holds (h i) g f ≡ false)
      → value_in (list_from from count h) g f ≡ none
  unfolding list_from value_in
  value_none from zero free = refl
  value_none from (suc count) free =
      rw (free from (omega arith) (omega arith)) (value_none (suc from) count (λ i a b. free i (omega (arith, a)) (omega (arith, b))))

  value_behind : (count r : ℕ) → r ≤ count → ((i : ℕ) → i < r → holds (h i) g f ≡ false)
      → value_in (list_from 0 count h) g f ≡ value_in (list_from r (count - r) h) g f
  unfolding value_in
  value_behind count zero le free = sym (all_left (λ k. value_in (list_from 0 k h) g f) count)
  value_behind count (suc r) le free =
      value_behind count r (omega (arith, le)) (λ i lt. free i (omega (arith, lt)))
      ∙ ap (λ l. value_in l g f) (list_from_left h r count (omega (arith, le)))
      ∙ rw (free r (omega arith))

module _ (slot : List ℕ) (small : Bytes slot) (all : AllPass (slot_questions slot)) where
  abbrev row : ℕ → Span ℕ
  row = slot_row slot

  abbrev count : ℕ
  count = slot_count slot

  -- the place of a row's first frame
  abbrev start_of : ℕ → ℕ
  start_of i = place_of (row i).group (row i).first

  -- 16: a row begins behind the end of the one before
  begins_behind : (i : ℕ) → suc i < count → end_of slot i < start_of (suc i)
  unfolding row_questions ask least_place end_of
  begins_behind i lt =
      let ordered = all_head _ _ (all_tail _ _ (all_tail _ _ (rows_passed slot all (suc i) lt))) in
      let least = leb-true (least_place slot (suc i)) (start_of (suc i)) (sym (in_order_lem slot small (suc i)) ∙ ordered) in
      omega (arith, least)

  -- 15: it does not begin behind its own end
  begins_first : (i : ℕ) → i < count → start_of i ≤ end_of slot i
  unfolding end_of place_of
  begins_first i lt = omega (arith, (row_held slot small all i lt).1)

  -- so rows end in order, and begin in order
  pub ends_in_order : EndInOrder slot count
  ends_in_order =
      ascending (end_of slot) count (λ i lt.
      let behind = begins_behind i lt in
      let first = begins_first (suc i) lt in
      omega (arith, behind, first))

  starts_in_order : (i j : ℕ) → i ≤ j → j < count → start_of i ≤ start_of j
  starts_in_order =
      ascending start_of count (λ i lt.
      let behind = begins_behind i lt in
      let first = begins_first i (omega (arith, lt)) in
      omega (arith, behind, first))

  module _ (g f : ℕ) (frame : f < 65536) (r : ℕ) (reached : Reached slot count (place_of g f) r) where
    -- the rows before do not contain the frame
    before_free : (i : ℕ) → i < r → holds (row i) g f ≡ false
    unfolding end_of place_of
    before_free i lt = false_holds (row i) g f (λ same from to. omega (arith, reached.1 i lt, ap (λ n. 131072 * n) same, to))

    -- that one contains it if it does not begin behind it
    contains : r < count → start_of r ≤ place_of g f → holds (row r) g f ≡ true
    unfolding end_of place_of slot_row
    contains inside from =
        let to = reached.2 inside in
        let last : (row r).last < 65536 = two_small slot small _ in
        let same : (row r).group ≡ g = omega (arith, from, to, frame, last) in
        true_holds (row r) g f same (omega (arith, from, same)) (omega (arith, to, same))

    pub found : r < count → start_of r ≤ place_of g f → value_in (slot_rows slot) g f ≡ some (row r).value
    unfolding slot_rows value_in
    found inside from =
        value_behind row g f count r reached.0 before_free
        ∙ ap (λ l. value_in l g f) (list_from_left row r count inside)
        ∙ rw (contains inside from)

    -- and else no row does
    pub not_found : (r < count → place_of g f < start_of r) → value_in (slot_rows slot) g f ≡ none
    unfolding slot_rows place_of
    not_found above =
        value_behind row g f count r reached.0 before_free
        ∙ value_none row g f r (count - r) (λ i low high. false_holds (row i) g f (λ same from to. omega (arith, above (omega (arith, low, high)), starts_in_order r i low (omega (arith, low, high)), same, from)))
