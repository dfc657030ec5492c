-- Lists of h from, h (from + 1), .., lists after a store, what is left of so many places, lists that are padded to a size, and lists
-- into which another is copied. Assumes nothing.
use Prim.Native.Nat.{ℕ, zero, suc, ◌+◌, ◌-◌, ◌≤◌, ◌<◌}
use mathlib.Core.List.{List, [], ◌∷◌, ◌++◌, append_assoc, append-nil, map, map-append}
use mathlib.Core.Path.{◌≡◌, refl, sym, ap, ◌∙◌}
use native.Mathlib.Decide.{ℕ_discrete}
use native.Mathlib.Nat.{add-zero, zero-add}
use native.Mathlib.Numerals.{add-one}
use native.Mathlib.Omega.{arith}
use lib.ListN.{length, get_or, set, take, drop, replicate, length-append, length-map, length-drop, drop_of_length-le}
use lib.Seq.{get_or-set_same, get_or-set_other, set_at, append_snoc, take_all, drop-drop}
use Rattle.model.specs.Common.{list_from}
use Rattle.model.specs.Spans.{Span, nowhere}
use Rattle.model.specs.Blocks.{segment_at}
use Rattle.theory.proofs.Converse.{list_from-append}

-- one more element
pub list_from_snoc : {A : Type 0} (h : ℕ → A) (count : ℕ) → list_from 0 (suc count) h ≡ list_from 0 count h ++ (h count ∷ [])
unfolding list_from
list_from_snoc h count = rw zero-add at (rw add-one at (list_from-append h 0 count 1))

-- the element at a place
pub list_from_at : {A : Type 0} (h : ℕ → A) (d : A) (from count i : ℕ) → i < count → get_or (list_from from count h) i d ≡ h (from + i)
unfolding list_from
list_from_at h d from zero i lt = absurd (omega arith)
list_from_at h d from (suc count) zero lt = ap h (sym (add-zero from))
list_from_at h d from (suc count) (suc i) lt = list_from_at h d (suc from) count i (omega arith) ∙ ap h (omega arith)

-- the list goes by the elements of its places only
pub list_from_cong : {A : Type 0} (h k : ℕ → A) (from count : ℕ) → ((i : ℕ) → from ≤ i → i < from + count → h i ≡ k i)
    → list_from from count h ≡ list_from from count k
unfolding list_from
list_from_cong h k from zero e = refl
list_from_cong h k from (suc count) e =
    ap (λ (a : _). a ∷ list_from (suc from) count h) (e from (omega arith) (omega arith))
    ∙ ap (λ (l : List _). k from ∷ l) (list_from_cong h k (suc from) count (λ i a b. e i (omega arith) (omega arith)))

-- the list of what is made of each element
pub map-list_from : {A B : Type 0} (h : A → B) (k : ℕ → A) (from count : ℕ) → map h (list_from from count k) ≡ list_from from count (λ i. h (k i))
unfolding list_from
map-list_from h k from zero = refl
map-list_from h k from (suc count) = ap (λ l. h (k from) ∷ l) (map-list_from h k (suc from) count)

-- segment i of the first n
pub segment_at_lem : (h : ℕ → Span ℕ) (n i : ℕ) → i < n → segment_at (list_from 0 n h) i ≡ h i
unfolding segment_at
segment_at_lem h n i lt = list_from_at h nowhere 0 n i lt ∙ ap h (zero-add i)

-- what holds of every place of a list after a store
pub after_set : (P : ℕ → ℕ → Type 0) (out : List ℕ) (p v : ℕ) → p < length out → P p v → (x : ℕ)
    → ((x ≡ p → ⊥) → P x (get_or out x 0)) → P x (get_or (set out p v) x 0)
after_set P out p v room now x before =
    elim (ℕ_discrete x p) [
      | yes same ↦ rw (same, get_or-set_same out p v 0 room) now
      | no other ↦ rw (get_or-set_other out p x v 0 other) (before other)
    ]

-- ---- what is left of n places

-- of n places, those from i on are one and those from i + 1 on
pub one_more : {X : Type 0} (F : ℕ → X) (i n : ℕ) → i < n → F (n - i) ≡ F (suc (n - suc i))
one_more F i n lt = ap F (omega arith)

-- none are left at the end
pub none_left : {X : Type 0} (F : ℕ → X) (i n : ℕ) → n ≤ i → F (n - i) ≡ F 0
none_left F i n le = ap F (omega arith)

-- and all at the start
pub all_left : {X : Type 0} (F : ℕ → X) (n : ℕ) → F (n - 0) ≡ F n
all_left F n = ap F (omega arith)

-- the first of the elements that are left
pub list_from_left : {A : Type 0} (h : ℕ → A) (i count : ℕ) → i < count
    → list_from i (count - i) h ≡ h i ∷ list_from (suc i) (count - suc i) h
unfolding list_from
list_from_left h i count lt = one_more (λ (n : ℕ). list_from i n h) i count lt

-- ---- a list of one field of each element, padded to a size

module _ {A B : Type 0} (field : A → B) (pad : B) (size : ℕ) where
  abbrev padded : List A → List B
  padded l = map field l ++ replicate (size - length l) pad

  -- a padded list whose last element is known
  pub padded_snoc : (l : List A) (a : A)
      → padded (l ++ (a ∷ [])) ≡ map field l ++ field a ∷ replicate (size - suc (length l)) pad
  padded_snoc l a =
      let count : length (l ++ (a ∷ [])) ≡ suc (length l) = omega (arith, length-append l (a ∷ [])) in
      rw (map-append, count) (append_snoc (map field l) (field a) (replicate (size - suc (length l)) pad))

  -- the last element is another
  pub padded_again : (l : List A) (a b : A) → set (padded (l ++ (a ∷ []))) (length l) (field b) ≡ padded (l ++ (b ∷ []))
  padded_again l a b =
      ap (λ (r : List B). set r (length l) (field b)) (padded_snoc l a)
      ∙ set_at (map field l) (field a) (replicate (size - suc (length l)) pad) (field b) (length l) (length-map l field)
      ∙ sym (padded_snoc l b)

  -- one element more
  pub padded_more : (l : List A) (a : A) → length l < size → set (padded l) (length l) (field a) ≡ padded (l ++ (a ∷ []))
  padded_more l a room =
      ap (λ (r : List B). set (map field l ++ r) (length l) (field a))
      (one_more (λ (n : ℕ). replicate n pad) (length l) size room)
      ∙ set_at (map field l) pad (replicate (size - suc (length l)) pad) (field a) (length l) (length-map l field)
      ∙ sym (padded_snoc l a)

-- ---- a list that is copied over another, from a place on

-- the part from that place on, with the list over its front, in the part's place
pub copied_part : {A : Type 0} (at size : ℕ) (from into part : List A) → length into ≡ size
    → part ≡ from ++ drop (length from) (take (size - at) (drop at into))
    → take at into ++ (part ++ drop (size - at) (drop at into)) ≡ take at into ++ from ++ drop (at + length from) into
copied_part at size from into part whole copied =
    let short : length (drop at into) ≤ size - at = omega (arith, length-drop at into) in
    rw (copied, take_all (size - at) (drop at into) short, drop_of_length-le (drop at into) short, append-nil)
    (rw (drop-drop (length from) at into) (sym (append_assoc (take at into) from (drop (at + length from) into))))
