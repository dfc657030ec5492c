-- Rows put into an array of 64 places, one after the other, while others are left: none, one more, the last, and one too many.
-- Assumes nothing.
use Prim.Native.Nat.{ℕ, suc, ◌+◌, ◌≤◌, ◌<◌}
use mathlib.Core.List.{List, [], ◌∷◌, ◌++◌, append_assoc, append-nil}
use mathlib.Core.Path.{◌≡◌, refl, sym, ap, ◌∙◌}
use native.Mathlib.Omega.{arith}
use lib.ListN.{length, get_or, set, length-set, length-append}
use lib.Seq.{get_or-set_same, get_or-set_other}
use Rattle.model.specs.Common.{list_from}
use Rattle.model.specs.Spans.{Span, nowhere}
use Rattle.model.specs.Calls.{row_span, row_of_span}
use Rattle.model.specs.Arrays.{rows_in, row_array}
use Rattle.model.specs.declared.Row.{Row}
use Rattle.theory.proofs.Lists.{list_from_snoc, list_from_cong}
use Rattle.theory.proofs.SlotLaws.{length-list_from}
use Rattle.windows.specs.Listed.{Holds}

-- the first `made` rows of an array, and then those left, are all
pub record Made (rows : List Row) (made : ℕ) (left all : List (Span ℕ)) : Type 0 where
  pub places : length rows ≡ 64
  pub few : made ≤ 64
  pub listed : rows_in rows made ++ left ≡ all

pub made_none : (all : List (Span ℕ)) → Made (row_array []) 0 all all
unfolding rows_in list_from row_array
made_none all = record { places = refl; few = omega arith; listed = refl }

-- the array with one row more
rows_more : (rows : List Row) (n : ℕ) (r : Span ℕ) → n < length rows
    → rows_in (set rows n (row_of_span r)) (suc n) ≡ rows_in rows n ++ (r ∷ [])
unfolding rows_in row_span row_of_span
rows_more rows n r room =
    let d = row_of_span nowhere in
    let stored = set rows n (row_of_span r) in
    list_from_snoc (λ (i : ℕ). row_span (get_or stored i d)) n
    ∙ rw (
      get_or-set_same rows n (row_of_span r) d room,
      list_from_cong (λ (i : ℕ). row_span (get_or stored i d)) (λ (i : ℕ). row_span (get_or rows i d)) 0 n
          (λ i from before. ap row_span (get_or-set_other rows n i (row_of_span r) d (λ (e : i ≡ n). omega arith))),
    )

module _ (rows : List Row) (made : ℕ) (all : List (Span ℕ)) where
  count_all : (left : List (Span ℕ)) → Made rows made left all → length all ≡ made + length left
  unfolding rows_in
  count_all left m =
      sym (ap length m.listed) ∙ length-append (rows_in rows made) left ∙ rw (length-list_from 0 made (λ (i : ℕ). row_span (get_or rows i (row_of_span nowhere))))

  pub made_next : (r : Span ℕ) (left : List (Span ℕ)) → Made rows made (r ∷ left) all → made < 64
      → Made (set rows made (row_of_span r)) (suc made) left all
  made_next r left m room =
      record {
        places = length-set rows made (row_of_span r) ∙ m.places;
        few = room;
        listed =
            ap (λ (rs : List (Span ℕ)). rs ++ left) (rows_more rows made r (omega (arith, m.places)))
            ∙ append_assoc (rows_in rows made) (r ∷ []) left
            ∙ m.listed;
      }

  pub made_all : Made rows made [] all → Holds (record { rows = rows; count = made }) all
  made_all m =
      let count : made ≡ length all = omega (arith, count_all [] m) in
      record { counts = count; few = omega (arith, m.few); holds = sym (append-nil (rows_in rows made)) ∙ m.listed }

  pub made_past : (r : Span ℕ) (left : List (Span ℕ)) → Made rows made (r ∷ left) all → 64 ≤ made → 64 < length all
  made_past r left m full = omega (arith, count_all (r ∷ left) m)
