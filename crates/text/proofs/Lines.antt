-- Laws of lines: how they are put together. Assumes nothing.
use Prim.Native.Nat.{ℕ, suc, ◌+◌, ◌≤◌, ◌<◌}
use mathlib.Core.Path.{◌≡◌, refl, sym, ap, ◌∙◌}
use mathlib.Core.List.{List, [], ◌∷◌, ◌++◌, map}
use native.Mathlib.Omega.{arith}
use native.Mathlib.Nat.{add-zero, add-suc, suc-add, zero-add}
use lib.ListN.{length, get_or, take, drop}
use Rattle.std.proofs.lemmas.List.{at_drop_more, at_drop_all, length-take-le, get_or-take}
use Rattle.model.specs.Common.{list_from}
use Rattle.model.specs.Spans.{Span, nowhere}
use Rattle.model.specs.Calls.{row_span, row_of_span}
use Rattle.model.specs.Arrays.{rows_in}
use Rattle.model.specs.declared.Row.{Row}
use Rattle.text.specs.Text.{decimal, number_line, row_text, rows_text}

-- what stands behind the first number of a line
unfoldable pub line_rest : List ℕ → List ℕ
line_rest [] = 0x0A ∷ []
line_rest (m ∷ ms) = 0x20 ∷ number_line m ms

pub line_first : (n : ℕ) (ms : List ℕ) → decimal n ++ line_rest ms ≡ number_line n ms
unfolding number_line line_rest
line_first n [] = refl
line_first n (m ∷ ms) = refl

-- the next of the numbers that are left
pub rest_more : (more : List ℕ) (i : ℕ) → i < length more
    → (0x20 ∷ []) ++ (decimal (get_or more i 0) ++ line_rest (drop (i + 1) more)) ≡ line_rest (drop i more)
unfolding line_rest
rest_more more i below =
    ap (λ l. 0x20 ∷ l) (line_first (get_or more i 0) (drop (i + 1) more)) ∙ sym (at_drop_more line_rest more i 0 below)

pub rest_none : (more : List ℕ) (i : ℕ) → length more ≤ i → line_rest (drop i more) ≡ 0x0A ∷ []
unfolding line_rest
rest_none more i done = at_drop_all line_rest more i done

-- the lines of some rows
abbrev pub lines : List Row → List ℕ
lines rows = rows_text (map row_span rows)

-- the next of the rows that are left
pub rows_more : (rows : List Row) (i : ℕ) (d : Row) → i < length rows
    → row_text (row_span (get_or rows i d)) ++ lines (drop (i + 1) rows) ≡ lines (drop i rows)
unfolding rows_text
rows_more rows i d below = sym (at_drop_more lines rows i d below)

pub rows_none : (rows : List Row) (i : ℕ) → length rows ≤ i → lines (drop i rows) ≡ []
unfolding rows_text
rows_none rows i done = at_drop_all lines rows i done

-- the first rows, one by one
listed : (from : ℕ) (h : ℕ → Span ℕ) (rows : List Row) (d : Row)
    → ((i : ℕ) → i < length rows → row_span (get_or rows i d) ≡ h (from + i))
    → map row_span rows ≡ list_from from (length rows) h
unfolding list_from
listed from h [] d same = refl
listed from h (r ∷ rows) d same =
    λ k. rw (add-zero from) at (same 0 (omega arith)) k
    ∷ listed (suc from) h rows d (λ i below. rw suc-add (rw add-suc at (same (suc i) (omega arith)))) k

pub first_rows : (rows : List Row) (count : ℕ) → count ≤ length rows → map row_span (take count rows) ≡ rows_in rows count
unfolding rows_in
first_rows rows count within =
    let size = length-take-le count rows within in
    let none = row_of_span nowhere in
    rw size at (listed 0 (λ i. row_span (get_or rows i none)) (take count rows) none
    (λ i below. rw zero-add (ap row_span (get_or-take count rows i none (omega arith)))))
