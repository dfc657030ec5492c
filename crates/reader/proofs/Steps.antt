-- One turn of each loop: what is left to do, by its definition, before the turn and after it. Assumes nothing.
use Prim.Native.Nat.{ℕ, ◌+◌, ◌-◌, ◌<◌}
use mathlib.Core.Bool.{cond}
use mathlib.Core.List.{[], ◌∷◌, ◌++◌}
use mathlib.Core.Option.{some}
use mathlib.Core.Path.{◌≡◌, sym, ap, ◌∙◌}
use native.Mathlib.Omega.{arith}
use native.Mathlib.Numerals.{add-one}
use lib.ListN.{length, set}
use Rattle.model.specs.Common.{list_from}
use Rattle.model.specs.Spans.{Span, holds, nowhere}
use Rattle.model.specs.Slot.{value_in}
use Rattle.model.specs.Calls.{row_of_span}
use Rattle.model.specs.Arrays.{row_array}
use Rattle.theory.proofs.SlotLaws.{length-list_from}
use Rattle.theory.proofs.Lists.{one_more, list_from_snoc, padded_more}

-- the search through the rows from i on
pub value_turn : (row : ℕ → Span ℕ) (g f i n : ℕ) → i < n
    → value_in (list_from i (n - i) row) g f
    ≡ cond (holds (row i) g f) (some (row i).value) (value_in (list_from (i + 1) (n - (i + 1)) row) g f)
unfolding list_from value_in
value_turn row g f i n lt = rw (add-one i) (one_more (λ (k : ℕ). value_in (list_from i k row) g f) i n lt)

-- the array of rows with row i stored
pub store_turn : (row : ℕ → Span ℕ) (i : ℕ) → i < 64
    → set (row_array (list_from 0 i row)) i (row_of_span (row i)) ≡ row_array (list_from 0 (i + 1) row)
unfolding row_array
store_turn row i lt =
    let made = list_from 0 i row in
    let count : length made ≡ i = length-list_from 0 i row in
    let more : list_from 0 (i + 1) row ≡ made ++ (row i ∷ []) = rw (add-one i) (list_from_snoc row i) in
    ap (λ (n : ℕ). set (row_array made) n (row_of_span (row i))) (sym count)
    ∙ padded_more row_of_span (row_of_span nowhere) 64 made (row i) (omega arith)
    ∙ ap row_array (sym more)
