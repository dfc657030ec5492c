-- The code's comparisons are the questions' tests: two bytes compared as one number, and frames of any groups compared by their
-- places. Assumes nothing.
use Prim.Native.Nat.{ℕ, zero, suc, ◌+◌, ◌*◌, ◌<◌}
use mathlib.Core.Bool.{◌&&◌, ◌||◌}
use mathlib.Core.List.{List}
use mathlib.Core.Path.{◌≡◌, sym}
use native.Mathlib.Omega.{arith}
use borrow.Author.Tests.{ltb-true, ltb-false, eqb-true, eqb-false, le-leb, lt-leb, eq-eqb, ne_eqb}
use lib.Dec.{leb, ltb, eqb}
use lib.ListN.{get_or}
use Rattle.model.specs.Common.{number_at}
use Rattle.model.specs.Slot.{slot_row}
use Rattle.model.specs.Questions.{marked, follows, in_order}
use Rattle.theory.proofs.InOrder.{two_small}
use Rattle.theory.proofs.Tests.{cases}
use Rattle.slot.specs.Places.{place_of, least_place}

-- a mark is compared as one number
pub marked_number : (bytes : List ℕ) (i a b : ℕ) → get_or bytes i 0 < 256 → a < 256
    → eqb (number_at 2 bytes i) (a + b * 256) ≡ marked bytes i a b
unfolding number_at marked
marked_number bytes i a b small small-a =
    let low = get_or bytes i 0 in
    let high = get_or bytes (suc i) 0 in
    cases (eqb low a)
    (λ p. rw p
    (cases (eqb high b) (λ q. rw q (eq-eqb (number_at 2 bytes i) (a + b * 256) (omega (arith, eqb-true))))
    (λ q. rw q (ne_eqb (number_at 2 bytes i) (a + b * 256) (λ e. eqb-false high b q (omega (arith, eqb-true)))))))
    (λ p. rw p (ne_eqb (number_at 2 bytes i) (a + b * 256) (λ e. eqb-false low a p (omega arith))))

-- places are ordered as groups are, and as frames in a group
places : (g f h l : ℕ) → f < 65536 → l < 65536 → ltb h g || (eqb g h && ltb l f) ≡ leb (place_of h l + 1) (place_of g f)
unfolding place_of
places g f h l small-f small-l =
    cases (ltb h g) (λ p. rw p (sym (le-leb (place_of h l + 1) (place_of g f) (omega (arith, ltb-true)))))
    (λ p. rw p
    (cases (eqb g h)
    (λ q. rw q
    (cases (ltb l f) (λ r. rw r (sym (le-leb (place_of h l + 1) (place_of g f) (omega (arith, ltb-true, eqb-true)))))
    (λ r. rw r (sym (lt-leb (place_of h l + 1) (place_of g f) (omega (arith, ltb-false, eqb-true)))))))
    (λ q. rw q (sym (lt-leb (place_of h l + 1) (place_of g f) (omega (arith, ltb-false, eqb-false g h q)))))))

module _ (slot : List ℕ) (small : (i : ℕ) → get_or slot i 0 < 256) where
  -- a row is in order if it does not begin before the least place at which it may
  pub in_order_lem : (i : ℕ) → in_order slot i ≡ leb (least_place slot i) (place_of (slot_row slot i).group (slot_row slot i).first)
  unfolding in_order least_place follows slot_row
  in_order_lem zero = sym (le-leb 0 (place_of (slot_row slot 0).group (slot_row slot 0).first) (omega arith))
  in_order_lem (suc i) =
      let r = slot_row slot (suc i) in
      let previous = slot_row slot i in
      places r.group r.first previous.group previous.last (two_small slot small _) (two_small slot small _)
