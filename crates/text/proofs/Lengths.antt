-- How long the texts are: every answer of at most 64 rows fits its room. Assumes nothing.
use Prim.Native.Nat.{ℕ, zero, suc, ◌+◌, ◌*◌, ◌≤◌, ◌<◌, zero-le}
use mathlib.Core.Path.{◌≡◌}
use mathlib.Core.List.{List, [], ◌∷◌}
use native.Mathlib.Omega.{arith}
use lib.ListN.{length, get_or, length-append}
use Rattle.model.specs.Common.{list_from}
use Rattle.model.specs.Spans.{Span, nowhere}
use Rattle.model.specs.Calls.{row_span, row_of_span, counts_in}
use Rattle.model.specs.Arrays.{rows_in}
use Rattle.model.specs.declared.Row.{Row}
use Rattle.model.specs.declared.Written.{Written}
use Rattle.text.specs.Text.{decimal, number_line, refusal_text, row_text, rows_text, answer_text}
use Rattle.text.specs.Put.{Room, answer_room, accepted_text}
use Rattle.text.proofs.Digits.{length_decimal, length_decimal_most}
use Rattle.text.proofs.Widths.{Narrow}

length_line : (n : ℕ) → length (number_line n []) ≡ length (decimal n) + 1
unfolding number_line
length_line n = length-append (decimal n) (0x0A ∷ [])

length_line_more : (n m : ℕ) (ms : List ℕ)
    → length (number_line n (m ∷ ms)) ≡ length (decimal n) + suc (length (number_line m ms))
unfolding number_line
length_line_more n m ms = length-append (decimal n) (0x20 ∷ number_line m ms)

-- 3, 5, 5 and 10 digits, and a byte after each
length_row : (r : Row) → Narrow r → length (row_text (row_span r)) ≤ 32
unfolding row_text row_span
length_row r narrow =
    omega (
      arith,
      length_line_more r.group r.first (r.last ∷ r.value ∷ []),
      length_line_more r.first r.last (r.value ∷ []),
      length_line_more r.last r.value [],
      length_line r.value,
      length_decimal 3 r.group (omega arith) (omega arith) (omega arith),
      length_decimal 5 r.first (omega arith) (omega arith) (omega arith),
      length_decimal 5 r.last (omega arith) (omega arith) (omega arith),
      length_decimal 10 r.value (omega arith) (omega arith) (omega arith),
    )

length_rows : (i count : ℕ) (row : ℕ → Span ℕ) → ((j : ℕ) → j < i + count → length (row_text (row j)) ≤ 32)
    → length (rows_text (list_from i count row)) ≤ 32 * count
unfolding list_from rows_text
length_rows i zero row short = zero-le
length_rows i (suc count) row short =
    omega (
      arith,
      length-append (row_text (row i)) (rows_text (list_from (suc i) count row)),
      short i (omega arith),
      length_rows (suc i) count row (λ j below. short j (omega arith)),
    )

length_accepted : (rows : List Row) (w : Written) → ((i : ℕ) (r : Row) → i < 64 → Narrow (get_or rows i r))
    → w.rows ≤ 64 → length (accepted_text rows w) ≤ answer_room
unfolding accepted_text answer_text counts_in rows_in
length_accepted rows w narrow most =
    let row : ℕ → Span ℕ = λ i. row_span (get_or rows i (row_of_span nowhere)) in
    omega (
      arith,
      length-append (number_line w.rows (w.error ∷ w.weighed ∷ [])) (rows_text (list_from 0 w.rows row)),
      length_line_more w.rows w.error (w.weighed ∷ []),
      length_line_more w.error w.weighed [],
      length_line w.weighed,
      length_decimal_most w.rows,
      length_decimal_most w.error,
      length_decimal_most w.weighed,
      length_rows 0 w.rows row (λ j below. length_row _ (narrow j (row_of_span nowhere) (omega arith))),
    )

length_refusal : (number index : ℕ) → length (refusal_text number index) ≤ answer_room
unfolding refusal_text
length_refusal number index =
    omega (
      arith,
      length_line_more number index [],
      length_line index,
      length_decimal_most number,
      length_decimal_most index,
    )

-- a buffer of the answer's room has room for either case
module _ (out : List ℕ) where
  pub room_accepted : (rows : List Row) (w : Written) → ((i : ℕ) (r : Row) → i < 64 → Narrow (get_or rows i r))
      → (w.rows ≤ 64) × (answer_room ≤ length out) → Room out 0 (accepted_text rows w)
  room_accepted rows w narrow pre =
      record { fits = omega (arith, length_accepted rows w narrow pre.0) }

  pub room_refusal : (number index : ℕ) → answer_room ≤ length out → Room out 0 (refusal_text number index)
  room_refusal number index room = record { fits = omega (arith, length_refusal number index) }
