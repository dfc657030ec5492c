-- The layout of a slot, row by row: header and rows so far, then zeros. Assumes nothing.
use Prim.Native.Nat.{ℕ, ◌+◌, ◌-◌, ◌*◌, ◌≤◌, ◌<◌}
use mathlib.Core.List.{List, [], ◌∷◌, ◌++◌, append_assoc, append-nil}
use mathlib.Core.Path.{◌≡◌, refl, sym, ap, ap₂, ◌∙◌}
use native.Mathlib.Omega.{arith}
use native.Mathlib.Numerals.{add-one}
use lib.ListN.{length, get_or, take, drop, replicate, length-append, length-replicate, replicate-append-replicate}
use lib.Seq.{take_at, drop_at, drop-drop}
use borrow.Rule.Slice.PartMut.{put_mid}
use Rattle.model.specs.Common.{list_from, bytes_of}
use Rattle.model.specs.Spans.{Span, nowhere}
use Rattle.model.specs.Slot.{slot_length, row_bytes, rows_bytes, used_bytes, slot_bytes, row_place}
use Rattle.model.specs.Calls.{row_span, row_of_span}
use Rattle.model.specs.Arrays.{rows_in}
use Rattle.model.specs.declared.Row.{Row}
use Rattle.theory.proofs.SlotLaws.{length-row_bytes, length-rows_bytes, length-used_bytes, length-list_from}
use Rattle.theory.proofs.Lists.{list_from_snoc, copied_part}

abbrev zeros : ℕ → List ℕ
zeros n = replicate n 0

-- zeros behind the first of them
drop_zeros : (k n : ℕ) → k ≤ n → drop k (zeros n) ≡ zeros (n - k)
drop_zeros k n le =
    let parts : n ≡ k + (n - k) = omega arith in
    ap (λ (m : ℕ). drop k (zeros m)) parts
    ∙ ap (drop k) (sym (replicate-append-replicate k (n - k) 0))
    ∙ drop_at (zeros k) (zeros (n - k)) k (length-replicate k 0)

rows_bytes-append : (rs ss : List (Span ℕ)) → rows_bytes (rs ++ ss) ≡ rows_bytes rs ++ rows_bytes ss
unfolding rows_bytes
rows_bytes-append [] ss = refl
rows_bytes-append (r ∷ rs) ss = rw (rows_bytes-append rs ss) (sym (append_assoc (row_bytes r) (rows_bytes rs) (rows_bytes ss)))

module _ (mark kind error count : ℕ) (rows : List Row) where
  -- header and the first i rows
  used : ℕ → List ℕ
  used i = (0x50 ∷ mark ∷ kind ∷ count ∷ bytes_of 8 error) ++ rows_bytes (rows_in rows i)

  -- the slot with the first i rows in place
  pub so_far : ℕ → List ℕ
  so_far i = used i ++ zeros (756 - 11 * i)

  length-rows_in : (i : ℕ) → length (rows_in rows i) ≡ i
  unfolding rows_in
  length-rows_in i = length-list_from 0 i (λ j. row_span (get_or rows j (row_of_span nowhere)))

  length_used : (i : ℕ) → length (used i) ≡ 12 + 11 * i
  unfolding used bytes_of
  length_used i = omega (arith, length-rows_bytes (rows_in rows i), length-rows_in i)

  pub length_so_far : (i : ℕ) → i ≤ 64 → length (so_far i) ≡ 768
  unfolding so_far
  length_so_far i le =
      omega (arith, length-append (used i) (zeros (756 - 11 * i)), length_used i, length-replicate {A = ℕ} (756 - 11 * i) 0)

  -- the header is copied over zeros
  pub start : (slot header : List ℕ) → slot ≡ zeros 768 → header ≡ 0x50 ∷ mark ∷ kind ∷ count ∷ bytes_of 8 error
      → header ++ drop (length header) slot ≡ so_far 0
  unfolding so_far used rows_in list_from rows_bytes bytes_of
  start slot header e h =
      rw (h, e)
      (ap (λ (l : List ℕ). 0x50 ∷ mark ∷ kind ∷ count ∷ (bytes_of 8 error ++ l)) (drop_zeros 12 768 (omega arith)))

  -- one row is copied behind those in place
  used_next : (i : ℕ) → used i ++ row_bytes (row_span (get_or rows i (row_of_span nowhere))) ≡ used (i + 1)
  unfolding used rows_in rows_bytes
  used_next i =
      let row : ℕ → Span ℕ = λ j. row_span (get_or rows j (row_of_span nowhere)) in
      let next : rows_bytes (list_from 0 (i + 1) row) ≡ rows_bytes (list_from 0 i row) ++ row_bytes (row i) =
      ap rows_bytes (ap (λ (n : ℕ). list_from 0 n row) (add-one i) ∙ list_from_snoc row i) ∙ rows_bytes-append (list_from 0 i row) (row i ∷ []) ∙ rw append-nil in
      rw next (append_assoc (0x50 ∷ mark ∷ kind ∷ count ∷ bytes_of 8 error) (rows_bytes (list_from 0 i row)) (row_bytes (row i)))

  -- the row is copied over the front of the slot's part from its place on
  pub turn : (i at : ℕ) (slot row part : List ℕ) → i < 64 → slot ≡ so_far i → at ≡ row_place i
      → row ≡ row_bytes (row_span (get_or rows i (row_of_span nowhere)))
      → part ≡ row ++ drop (length row) (take (768 - at) (drop at slot))
      → put_mid at (768 - at) slot part ≡ so_far (i + 1)
  unfolding so_far row_place
  turn i at slot row part lt b a r p =
      let rest = zeros (756 - 11 * i) in
      let size : length (used i) ≡ at = omega (arith, length_used i) in
      let eleven : length row ≡ 11 = ap length r ∙ length-row_bytes _ in
      let less : 756 - 11 * i - 11 ≡ 756 - 11 * (i + 1) = omega arith in
      let head : take at slot ++ row ≡ used (i + 1) = rw (b, take_at (used i) rest at size, r) (used_next i) in
      let tail : drop (at + length row) slot ≡ zeros (756 - 11 * (i + 1)) =
      rw (b, eleven)
      (sym (drop-drop 11 at (used i ++ rest))
      ∙ ap (drop 11) (drop_at (used i) rest at size)
      ∙ drop_zeros 11 (756 - 11 * i) (omega arith)
      ∙ rw less) in
      copied_part at 768 row slot part (ap length b ∙ length_so_far i (omega arith)) p ∙ ap₂ {C = List ℕ} ◌++◌ head tail

  -- all rows in place are the slot
  pub finish : so_far count ≡ slot_bytes mark kind error (rows_in rows count)
  unfolding so_far used slot_bytes used_bytes slot_length
  finish =
      let full : length (rows_in rows count) ≡ count = length-rows_in count in
      let size : length (used_bytes mark kind error (rows_in rows count)) ≡ 12 + 11 * count =
      length-used_bytes mark kind error (rows_in rows count) ∙ rw full in
      let left : 768 - (12 + 11 * count) ≡ 756 - 11 * count = omega arith in
      rw (size, left, full)
