-- The slot: what is written is read back, and an accepted slot is its own layout, byte for byte. One law for numbers of any
-- width in bytes, and one for log records and rows, which differ only in their mark and the width of their value.
-- Assumes nothing.
use Prim.Native.Nat.{ℕ, zero, suc, ◌+◌, ◌-◌, ◌*◌, ◌/◌, ◌%◌, ◌^◌, ◌≤◌, ◌<◌}
use mathlib.Core.Bool.{true, ◌&&◌, ◌||◌, and-or_distrib_left}
use mathlib.Core.List.{List, [], ◌∷◌, ◌++◌, append_assoc, Memᴰ}
use mathlib.Core.Logic.{◌⊎◌, inl, inr}
use mathlib.Core.Path.{◌≡◌, refl, sym, ap, ap₂, ◌∙◌}
use native.Mathlib.Omega.{arith}
use native.Mathlib.Nat.{add-zero, zero-add, pow-suc}
use native.Mathlib.Numerals.{add-one, add-two}
use lib.Dec.{leb, eqb}
use lib.ListN.{length, get_or, take, drop, replicate, length-append, length-replicate}
use lib.Seq.{drop-cons, drop-drop, get_or-drop, take-add, drop-append_seam, drop-length}
use borrow.Author.Tests.{leb-true, eqb-true, le-leb, eq-eqb}
use Rattle.model.specs.Common.{list_from, number_at, bytes_of}
use Rattle.model.specs.Spans.{Span, nowhere}
use Rattle.model.specs.Log.{record_length, record_bytes, record_at}
use Rattle.model.specs.Blocks.{segment_at}
use Rattle.model.specs.Split.{most_rows}
use Rattle.model.specs.Slot.{slot_length, by_bound, by_windows, row_bytes, rows_bytes, used_bytes, slot_bytes, row_place, slot_mark, slot_kind, slot_count, slot_error, slot_row, slot_rows}
use Rattle.model.specs.Questions.{accepted, ask, ask_room, marked, each, kind_known, group_known, in_order, most_value, row_known}
use Rattle.model.specs.Questions.{row_questions, zeros, tail_zero, error_known, header_marked, slot_questions}
use Rattle.model.specs.Calls.{Header, read_outcome, read_rows}
use Rattle.model.specs.Demands.{AllPass, Bytes, Storable, Reads}
use Rattle.theory.proofs.Tests.{and-true, true_and}
use Rattle.theory.proofs.Refusals.{all_nil, all_cons, all_head, all_tail, all_append, all_left, all_right, all_each, all_at}
use Rattle.theory.proofs.Refusals.{all_outcome, all_lent, outcome_accepted}

-- ---- lists by their elements

-- what stands at an index within a list is one of its members
pub member_at : {A : Type 0} (d : A) (l : List A) (i : ℕ) → i < length l → Memᴰ (get_or l i d) l
member_at d [] i lt = absurd (omega arith)
member_at d (a ∷ l) zero lt = Memᴰ.head refl
member_at d (a ∷ l) (suc i) lt = Memᴰ.tail (member_at d l i (omega arith))

-- `list_from` has as many elements as it counts
pub length-list_from : {A : Type 0} (from count : ℕ) (h : ℕ → A) → length (list_from from count h) ≡ count
unfolding list_from
length-list_from from zero h = refl
length-list_from from (suc count) h = ap suc (length-list_from (suc from) count h)

-- a list is that of its elements
pub list_from-of : {A : Type 0} (d : A) (from : ℕ) (h : ℕ → A) (l : List A)
    → ((i : ℕ) → i < length l → h (from + i) ≡ get_or l i d) → list_from from (length l) h ≡ l
unfolding list_from
list_from-of d from h [] e = refl
list_from-of {A} d from h (a ∷ l) e =
    ap₂ {C = List A} ◌∷◌ (rw add-zero at (e 0 (omega arith)))
    (list_from-of d (suc from) h l
    (λ i lt. let same : suc from + i ≡ from + suc i = omega arith in rw same (e (suc i) (omega arith))))

-- ---- bytes at a place

-- the byte at a place is the first of those from there on
byte_at : (p x : ℕ) (bytes tail : List ℕ) → drop p bytes ≡ x ∷ tail → get_or bytes p 0 ≡ x
byte_at p x bytes tail e =
    ap (λ (k : ℕ). get_or bytes k 0) (sym (add-zero p)) ∙ sym (get_or-drop p bytes 0 0) ∙ ap (λ (l : List ℕ). get_or l 0 0) e

-- and so further on
drop_further : (p m : ℕ) (bytes tail : List ℕ) → drop p bytes ≡ tail → drop (p + m) bytes ≡ drop m tail
drop_further p m bytes tail e = sym (drop-drop m p bytes) ∙ ap (λ (l : List ℕ). drop m l) e

-- the bytes from a place on, one more taken
take_next : (n p : ℕ) (bytes : List ℕ) → p < length bytes
    → take (suc n) (drop p bytes) ≡ get_or bytes p 0 ∷ take n (drop (suc p) bytes)
take_next n p bytes fits = ap (λ (l : List ℕ). take (suc n) l) (drop-cons bytes p 0 fits)

-- and several more
pub take_more : (n m p : ℕ) (bytes : List ℕ)
    → take (n + m) (drop p bytes) ≡ take n (drop p bytes) ++ take m (drop (p + n) bytes)
take_more n m p bytes =
    take-add n m (drop p bytes) ∙ ap (λ (l : List ℕ). take n (drop p bytes) ++ take m l) (drop-drop n p bytes)

-- ---- numbers in bytes

-- a number is read where its bytes stand
pub number_read : (count x p : ℕ) (bytes tail : List ℕ) → x < 256 ^ count → drop p bytes ≡ bytes_of count x ++ tail
    → number_at count bytes p ≡ x
unfolding number_at bytes_of
number_read zero x p bytes tail small e = omega arith
number_read (suc count) x p bytes tail small e =
    let first : get_or bytes p 0 ≡ x % 256 = byte_at p (x % 256) bytes _ e in
    let rest : number_at count bytes (suc p) ≡ x / 256 =
    number_read count (x / 256) (suc p) bytes tail (omega (arith, pow-suc 256 count)) (rw add-one at (drop_further p 1 bytes _ e)) in
    omega arith

-- the bytes of the number that stands at a place are those there
pub number_written : (count p : ℕ) (bytes : List ℕ) → Bytes bytes → p + count ≤ length bytes
    → take count (drop p bytes) ≡ bytes_of count (number_at count bytes p)
unfolding number_at bytes_of
number_written zero p bytes small fits = refl
number_written (suc count) p bytes small fits =
    let b = small p in
    let low : get_or bytes p 0 ≡ (get_or bytes p 0 + 256 * number_at count bytes (suc p)) % 256 = omega arith in
    let high : number_at count bytes (suc p) ≡ (get_or bytes p 0 + 256 * number_at count bytes (suc p)) / 256 = omega arith in
    take_next count p bytes (omega arith)
    ∙ ap₂ {C = List ℕ} ◌∷◌ low (number_written count (suc p) bytes small (omega arith) ∙ ap (bytes_of count) high)

-- a number in `count` bytes has that many
pub length-bytes_of : (count x : ℕ) → length (bytes_of count x) ≡ count
unfolding bytes_of
length-bytes_of zero x = refl
length-bytes_of (suc count) x = ap suc (length-bytes_of count (x / 256))

-- ---- a mark and a span: a log record or a row

-- the bytes of a span behind the mark a b, its value in `width` bytes
unfoldable span_bytes : ℕ → ℕ → ℕ → Span ℕ → List ℕ
span_bytes a b width r = a ∷ b ∷ r.group ∷ (bytes_of 2 r.first ++ bytes_of 2 r.last ++ bytes_of width r.value)

-- the span whose bytes begin at place p
unfoldable span_at : ℕ → List ℕ → ℕ → Span ℕ
span_at width bytes p =
    record {
      group = get_or bytes (p + 2) 0;
      first = number_at 2 bytes (p + 3);
      last = number_at 2 bytes (p + 5);
      value = number_at width bytes (p + 7);
    }

-- the frames and the value of a span fit their bytes
pub record InBytes (width : ℕ) (r : Span ℕ) : Type 0 where
  pub first : r.first < 2 ^ 16
  pub last : r.last < 2 ^ 16
  pub value : r.value < 256 ^ width

module _ (a b width : ℕ) where
  -- a marked span's length
  length_span : (r : Span ℕ) → length (span_bytes a b width r) ≡ 7 + width
  unfolding span_bytes bytes_of
  length_span r = let e = length-bytes_of width r.value in omega arith

  -- a span is read where its bytes stand
  span_read : (p : ℕ) (r : Span ℕ) (bytes tail : List ℕ) → InBytes width r
      → drop p bytes ≡ span_bytes a b width r ++ tail → span_at width bytes p ≡ r
  unfolding span_bytes span_at bytes_of
  span_read p r bytes tail fits e = λ i.
      record {
        group = byte_at (p + 2) r.group bytes _ (drop_further p 2 bytes _ e) i;
        first = number_read 2 r.first (p + 3) bytes _ fits.first (drop_further p 3 bytes _ e) i;
        last = number_read 2 r.last (p + 5) bytes _ fits.last (drop_further p 5 bytes _ e) i;
        value = number_read width r.value (p + 7) bytes tail fits.value (drop_further p 7 bytes _ e) i;
      }

  -- and its mark is found
  mark_read : (p : ℕ) (r : Span ℕ) (bytes tail : List ℕ) → drop p bytes ≡ span_bytes a b width r ++ tail
      → marked bytes p a b ≡ true
  unfolding span_bytes marked
  mark_read p r bytes tail e =
      true_and _ _ (eq-eqb _ _ (byte_at p a bytes _ e))
      (eq-eqb _ _ (byte_at (suc p) b bytes _ (rw add-one at (drop_further p 1 bytes _ e))))

  -- the bytes of the marked span that stands at a place are those there
  span_written : (p : ℕ) (bytes : List ℕ) → Bytes bytes → p + (7 + width) ≤ length bytes → marked bytes p a b ≡ true
      → take (7 + width) (drop p bytes) ≡ span_bytes a b width (span_at width bytes p)
  unfolding span_bytes span_at marked
  span_written p bytes small fits mark =
      let marks = and-true (eqb (get_or bytes p 0) a) (eqb (get_or bytes (suc p) 0) b) mark in
      let head : take 3 (drop p bytes) ≡ a ∷ b ∷ get_or bytes (p + 2) 0 ∷ [] =
      take_next 2 p bytes (omega arith)
      ∙ ap₂ {C = List ℕ} ◌∷◌ (eqb-true _ _ marks.0)
      (take_next 1 (suc p) bytes (omega arith)
      ∙ ap₂ {C = List ℕ} ◌∷◌ (eqb-true _ _ marks.1)
      (take_next 0 (suc (suc p)) bytes (omega arith) ∙ rw (add-two p))) in
      take_more 7 width p bytes
      ∙ ap₂ {C = List ℕ} ◌++◌
      (take_more 5 2 p bytes
      ∙ ap₂ {C = List ℕ} ◌++◌
      (take_more 3 2 p bytes ∙ ap₂ {C = List ℕ} ◌++◌ head (number_written 2 (p + 3) bytes small (omega arith)))
      (number_written 2 (p + 5) bytes small (omega arith)))
      (number_written width (p + 7) bytes small (omega arith))

-- ---- log records

-- a record's length
pub length-record_bytes : (r : Span ℕ) → length (record_bytes r) ≡ record_length
unfolding record_bytes record_length span_bytes
length-record_bytes r = length_span 0x4C 0x44 2 r

-- a written record is read back
pub record_read : (r : Span ℕ) (before rest : List ℕ) → InBytes 2 r
    → record_at (before ++ record_bytes r ++ rest) (length before) ≡ r
unfolding record_at record_bytes span_at span_bytes
record_read r before rest fits =
    span_read 0x4C 0x44 2 (length before) r _ rest fits
    (ap (λ (l : List ℕ). drop (length before) l) (append_assoc before (record_bytes r) rest)
    ∙ drop-append_seam before (record_bytes r ++ rest))

-- ---- rows and slots

-- a row's length
pub length-row_bytes : (r : Span ℕ) → length (row_bytes r) ≡ 11
unfolding row_bytes span_bytes
length-row_bytes r = length_span 0x50 0x52 4 r

-- the length of rows
pub length-rows_bytes : (rows : List (Span ℕ)) → length (rows_bytes rows) ≡ 11 * length rows
unfolding rows_bytes
length-rows_bytes [] = refl
length-rows_bytes (r ∷ rows) =
    omega (arith, length-append (row_bytes r) (rows_bytes rows), length-row_bytes r, length-rows_bytes rows)

module _ (mark kind error : ℕ) (rows : List (Span ℕ)) where
  -- the length of header and rows
  pub length-used_bytes : length (used_bytes mark kind error rows) ≡ 12 + 11 * length rows
  unfolding used_bytes bytes_of
  length-used_bytes = omega (arith, length-rows_bytes rows)

  -- a slot's length, and what it is at least, whatever the rows
  pub length-slot_bytes : length rows ≤ most_rows → length (slot_bytes mark kind error rows) ≡ slot_length
  unfolding slot_bytes slot_length most_rows
  length-slot_bytes few = simp (length-append, length-replicate, length-used_bytes) (omega arith)

  pub long_slot_bytes : slot_length ≤ length (slot_bytes mark kind error rows)
  unfolding slot_bytes slot_length
  long_slot_bytes = simp (length-append, length-replicate) (omega arith)

-- ---- what is written is read back

-- the bytes from a row on are its own and those of the rows behind it
rows_from_lem : (p i : ℕ) (rows : List (Span ℕ)) (bytes tail : List ℕ) → i ≤ length rows
    → drop p bytes ≡ rows_bytes rows ++ tail → drop (p + 11 * i) bytes ≡ rows_bytes (drop i rows) ++ tail
unfolding rows_bytes row_bytes bytes_of
rows_from_lem p zero rows bytes tail le e = rw (add-zero p) e
rows_from_lem p (suc i) [] bytes tail le e = absurd (omega arith)
rows_from_lem p (suc i) (r ∷ rows) bytes tail le e =
    let same : p + 11 * suc i ≡ p + 11 + 11 * i = omega arith in
    rw same (rows_from_lem (p + 11) i rows bytes tail (omega arith) (drop_further p 11 bytes _ e))

-- a test for zeros finds those that stand there
zeros_read : (count p : ℕ) (bytes tail : List ℕ) → drop p bytes ≡ replicate count 0 ++ tail → zeros bytes p count ≡ true
unfolding zeros
zeros_read zero p bytes tail e = refl
zeros_read (suc count) p bytes tail e =
    true_and _ _ (eq-eqb _ _ (byte_at p 0 bytes _ e))
    (zeros_read count (suc p) bytes tail (rw add-one at (drop_further p 1 bytes _ e)))

-- a row that can be stored fits its bytes
known_fits : (r : Span ℕ) → row_known r ≡ true → r.last < 2 ^ 16 → InBytes 4 r
unfolding row_known
known_fits r known fits =
    let p = and-true (group_known r.group && leb r.first r.last) (leb r.value most_value) known in
    let q = and-true (group_known r.group) (leb r.first r.last) p.0 in
    let ordered = leb-true r.first r.last q.1 in
    let small = leb-true r.value most_value p.1 in
    record { first = omega arith; last = fits; value = omega arith }

-- a slot that begins with the bytes written
module _ (mark kind error : ℕ) (rows : List (Span ℕ)) (slot tail : List ℕ) (storable : Storable mark kind error rows)
    (written : slot ≡ used_bytes mark kind error rows ++ tail) where
  -- the row count stands in the header
  count_read : slot_count slot ≡ length rows
  unfolding used_bytes slot_count
  count_read = byte_at 3 (length rows) slot _ (ap (λ (l : List ℕ). drop 3 l) written)

  -- so does the kind
  kind_read : slot_kind slot ≡ kind
  unfolding used_bytes slot_kind
  kind_read = byte_at 2 kind slot _ (ap (λ (l : List ℕ). drop 2 l) written)

  -- and the error
  error_read : slot_error slot ≡ error
  unfolding used_bytes slot_error
  error_read =
      number_read 8 error 4 slot _ storable.error64
      (ap (λ (l : List ℕ). drop 4 l) written ∙ append_assoc (bytes_of 8 error) (rows_bytes rows) _)

  -- and the second byte of the mark
  second_read : slot_mark slot ≡ mark
  unfolding used_bytes slot_mark
  second_read = byte_at 1 mark slot _ (ap (λ (l : List ℕ). drop 1 l) written)

  -- the mark is one of the two, and by windows there is no error
  header_known : (header_marked slot ≡ true) × (error_known slot ≡ true)
  unfolding used_bytes header_marked marked error_known slot_mark
  header_known = by storable.made
    where
      by : (mark ≡ by_bound) ⊎ ((mark ≡ by_windows) × (error ≡ 0)) → (header_marked slot ≡ true) × (error_known slot ≡ true)
      by (inl is) = rw (byte_at 0 0x50 slot _ written, second_read, is) (refl, refl)
      by (inr (is, none)) = rw (byte_at 0 0x50 slot _ written, second_read, is, error_read, none) (refl, refl)

  -- the bytes from row i on, and at the end those behind the rows
  rows_at : (i : ℕ) → i ≤ length rows → drop (row_place i) slot ≡ rows_bytes (drop i rows) ++ tail
  unfolding used_bytes bytes_of row_place
  rows_at i le = rows_from_lem 12 i rows slot tail le (ap (λ (l : List ℕ). drop 12 l) written)

  -- the bytes of row i, and those behind them
  row_at : (i : ℕ) → i < length rows
      → drop (row_place i) slot ≡ row_bytes (segment_at rows i) ++ (rows_bytes (drop (suc i) rows) ++ tail)
  unfolding rows_bytes segment_at
  row_at i lt =
      rows_at i (omega arith)
      ∙ rw (drop-cons rows i nowhere lt) (append_assoc (row_bytes (get_or rows i nowhere)) (rows_bytes (drop (suc i) rows)) tail)

  -- row i can be stored
  known_at : (i : ℕ) → i < length rows → (row_known (segment_at rows i) ≡ true) × ((segment_at rows i).last < 2 ^ 16)
  unfolding segment_at
  known_at i lt = storable.rows_known (segment_at rows i) (member_at nowhere rows i lt)

  -- row i is read back
  row_read : (i : ℕ) → i < length rows → slot_row slot i ≡ segment_at rows i
  unfolding row_bytes slot_row span_bytes span_at
  row_read i lt =
      span_read 0x50 0x52 4 (row_place i) (segment_at rows i) slot _
      (known_fits (segment_at rows i) (known_at i lt).0 (known_at i lt).1) (row_at i lt)

  -- the rows read back are in order
  order_read : (i : ℕ) → i < length rows → in_order slot i ≡ true
  unfolding in_order
  order_read zero lt = refl
  order_read (suc i) lt = rw (row_read (suc i) lt, row_read i (omega arith)) (storable.sorted i lt)

  -- row i passes its questions
  row_passes : (i : ℕ) → i < length rows → AllPass (row_questions slot i)
  unfolding row_questions ask row_bytes span_bytes
  row_passes i lt =
      let known : row_known (slot_row slot i) ≡ true = rw (row_read i lt) (known_at i lt).0 in
      all_cons _ _ (mark_read 0x50 0x52 4 (row_place i) (segment_at rows i) slot _ (row_at i lt))
      (all_cons _ _ known (all_cons _ _ (order_read i lt) all_nil))

  -- with zeros behind the rows the slot is long enough
  room : (rest : List ℕ) → tail ≡ replicate (slot_length - (12 + 11 * length rows)) 0 ++ rest → slot_length ≤ length slot
  unfolding slot_length
  room rest blank =
      let zeros-count = length-replicate {A = ℕ} (768 - (12 + 11 * length rows)) 0 in
      omega (
        arith,
        simp length-append at (ap length written),
        simp length-append at (ap length blank),
        length-used_bytes mark kind error rows,
      )

  -- and its tail is zero
  end : (rest : List ℕ) → tail ≡ replicate (slot_length - (12 + 11 * length rows)) 0 ++ rest → tail_zero slot ≡ true
  unfolding tail_zero row_place rows_bytes
  end rest blank =
      rw count_read
      (zeros_read (slot_length - (12 + 11 * length rows)) (row_place (length rows)) slot rest
      ((rw (drop-length rows) at (rows_at (length rows) (omega arith))) ∙ blank))

  -- so it passes every question
  slot_passes : (rest : List ℕ) → tail ≡ replicate (slot_length - (12 + 11 * length rows)) 0 ++ rest
      → AllPass (slot_questions slot)
  unfolding slot_questions ask ask_room
  slot_passes rest blank =
      let known : kind_known (slot_kind slot) ≡ true = rw kind_read storable.known in
      let few : slot_count slot ≤ most_rows = rw count_read storable.count in
      all_cons _ _ (le-leb slot_length (length slot) (room rest blank))
      (all_cons _ _ header_known.0
      (all_cons _ _ known
      (all_cons _ _ (le-leb _ _ few)
      (all_append _ _ (all_each _ _ _ (λ i a b. row_passes i (omega (arith, count_read))))
      (all_cons _ _ (true_and _ _ (end rest blank) header_known.1) all_nil)))))

  -- a slot that passes is read to the rows written
  slot_reads : AllPass (slot_questions slot) → Reads slot mark kind error rows
  unfolding read_outcome read_rows slot_rows segment_at
  slot_reads all =
      record {
        header = all_outcome (slot_questions slot) _ all ∙ rw (second_read, kind_read, error_read, count_read);
        body =
            all_lent (slot_questions slot) (slot_rows slot) [] all
            ∙ rw count_read (list_from-of nowhere 0 (slot_row slot) rows (λ i lt. rw (zero-add i) (row_read i lt)));
      }

-- what is written into a slot is read back
pub round_trip_lem : (mark kind error : ℕ) (rows : List (Span ℕ)) (rest : List ℕ) → Storable mark kind error rows
    → Reads (slot_bytes mark kind error rows ++ rest) mark kind error rows
unfolding slot_bytes
round_trip_lem mark kind error rows rest storable =
    let tail = replicate (slot_length - length (used_bytes mark kind error rows)) 0 ++ rest in
    let written = append_assoc (used_bytes mark kind error rows) _ rest in
    slot_reads mark kind error rows (slot_bytes mark kind error rows ++ rest) tail storable written
    (slot_passes mark kind error rows (slot_bytes mark kind error rows ++ rest) tail storable written rest
    (rw (length-used_bytes mark kind error rows)))

-- ---- an accepted slot is its own layout

-- the zeros that a test finds stand there
zeros_written : (count p : ℕ) (bytes : List ℕ) → p + count ≤ length bytes → zeros bytes p count ≡ true
    → take count (drop p bytes) ≡ replicate count 0
unfolding zeros
zeros_written zero p bytes fits e = refl
zeros_written (suc count) p bytes fits e =
    let both = and-true (eqb (get_or bytes p 0) 0) (zeros bytes (suc p) count) e in
    take_next count p bytes (omega arith)
    ∙ ap₂ {C = List ℕ} ◌∷◌ (eqb-true _ _ both.0) (zeros_written count (suc p) bytes (omega arith) both.1)

-- what a slot that passes its questions has: room, at most 64 rows, and the rest of the questions passed
module _ (slot : List ℕ) (all : AllPass (slot_questions slot)) where
  -- it is long enough
  pub room_passed : 768 ≤ length slot
  unfolding slot_questions ask_room ask slot_length
  room_passed = leb-true 768 (length slot) (all_head _ _ all)

  -- it has at most 64 rows
  pub few_passed : slot_count slot ≤ 64
  unfolding slot_questions ask most_rows
  few_passed = leb-true (slot_count slot) 64 (all_head _ _ (all_tail _ _ (all_tail _ _ (all_tail _ _ all))))

  -- it passes the questions behind 13
  slot_tail : AllPass (each (row_questions slot) 0 (slot_count slot) ++ (ask 17 0 (tail_zero slot && error_known slot) ∷ []))
  unfolding slot_questions
  slot_tail = all_tail _ _ (all_tail _ _ (all_tail _ _ (all_tail _ _ all)))

  -- each row passes its own
  pub rows_passed : (i : ℕ) → i < slot_count slot → AllPass (row_questions slot i)
  rows_passed i lt =
      all_at (row_questions slot) 0 (slot_count slot) (all_left _ _ slot_tail) i (omega arith) (omega arith)

  -- its tail is zero
  pub end_passed : tail_zero slot ≡ true
  unfolding ask
  end_passed =
      (and-true (tail_zero slot) (error_known slot)
      (all_head _ _ (all_right (each (row_questions slot) 0 (slot_count slot)) _ slot_tail))
      ).0

-- piece by piece, its bytes are those of what it says
module _ (slot : List ℕ) (small : Bytes slot) (all : AllPass (slot_questions slot)) where
  -- the header
  header_written : take 12 slot ≡ 0x50 ∷ slot_mark slot ∷ slot_kind slot ∷ slot_count slot ∷ bytes_of 8 (slot_error slot)
  unfolding slot_questions ask header_marked marked slot_mark slot_kind slot_count slot_error
  header_written =
      let space = room_passed slot all in
      let first = eqb (get_or slot 0 0) 0x50 in
      let bound = eqb (get_or slot 1 0) by_bound in
      let windows = eqb (get_or slot 1 0) by_windows in
      let mark =
      and-true first (bound || windows) (and-or_distrib_left first bound windows ∙ all_head _ _ (all_tail _ _ all)) in
      take_more 4 8 0 slot
      ∙ ap₂ {C = List ℕ} ◌++◌
      (take_next 3 0 slot (omega arith)
      ∙ ap₂ {C = List ℕ} ◌∷◌ (eqb-true _ _ mark.0)
      (take_next 2 1 slot (omega arith)
      ∙ ap (λ (l : List ℕ). get_or slot 1 0 ∷ l)
      (take_next 1 2 slot (omega arith)
      ∙ ap (λ (l : List ℕ). get_or slot 2 0 ∷ l) (take_next 0 3 slot (omega arith)))))
      (number_written 8 4 slot small (omega arith))

  -- a row
  row_written : (i : ℕ) → i < slot_count slot → take 11 (drop (row_place i) slot) ≡ row_bytes (slot_row slot i)
  unfolding row_bytes slot_row span_bytes span_at row_questions ask row_place
  row_written i lt =
      let space = room_passed slot all in
      let few = few_passed slot all in
      span_written 0x50 0x52 4 (row_place i) slot small (omega arith)
      (all_head _ _ (rows_passed slot all i lt))

  -- the rows from i on
  rows_written : (count i : ℕ) → i + count ≤ slot_count slot
      → take (11 * count) (drop (row_place i) slot) ≡ rows_bytes (list_from i count (slot_row slot))
  unfolding list_from rows_bytes row_place
  rows_written zero i le = refl
  rows_written (suc count) i le =
      let more : 11 * suc count ≡ 11 + 11 * count = omega arith in
      let next : row_place i + 11 ≡ row_place (suc i) = omega arith in
      rw more
      (take_more 11 (11 * count) (row_place i) slot
      ∙ ap₂ {C = List ℕ} ◌++◌ (row_written i (omega arith))
      (ap (λ (p : ℕ). take (11 * count) (drop p slot)) next ∙ rows_written count (suc i) (omega arith)))

  -- header and rows
  used_written : take (row_place (slot_count slot)) slot
      ≡ used_bytes (slot_mark slot) (slot_kind slot) (slot_error slot) (slot_rows slot)
  unfolding used_bytes slot_rows row_place
  used_written =
      take-add 12 (11 * slot_count slot) slot
      ∙ ap₂ {C = List ℕ} ◌++◌ header_written (rows_written (slot_count slot) 0 (omega arith))
      ∙ rw (length-list_from 0 (slot_count slot) (slot_row slot))

  -- the whole slot
  slot_written : take slot_length slot ≡ slot_bytes (slot_mark slot) (slot_kind slot) (slot_error slot) (slot_rows slot)
  unfolding slot_bytes slot_length slot_rows row_place tail_zero
  slot_written =
      let space = room_passed slot all in
      let few = few_passed slot all in
      let place = row_place (slot_count slot) in
      let whole : 768 ≡ place + (768 - place) = omega arith in
      let used : length (used_bytes (slot_mark slot) (slot_kind slot) (slot_error slot) (slot_rows slot)) ≡ place =
      rw (length-used_bytes _ _ _ (slot_rows slot), length-list_from 0 (slot_count slot) (slot_row slot)) in
      ap (λ (k : ℕ). take k slot) whole
      ∙ take-add place (768 - place) slot
      ∙ ap₂ {C = List ℕ} ◌++◌ used_written (zeros_written (768 - place) place slot (omega arith) (end_passed slot all))
      ∙ rw used

-- an accepted slot is the layout of what is read from it
pub layout : (slot : List ℕ) (header : Header) → Bytes slot → read_outcome slot ≡ accepted header
    → take slot_length slot ≡ slot_bytes header.mark header.kind header.error (read_rows slot)
unfolding read_outcome read_rows
layout slot header small e =
    let r = outcome_accepted (slot_questions slot) _ header e in
    slot_written slot small r.0 ∙ rw (r.1, all_lent (slot_questions slot) (slot_rows slot) [] r.0)
