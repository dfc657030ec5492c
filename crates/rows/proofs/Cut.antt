-- The blocks between cuts: the cuts of a reduction are in order, the rows between them are the reduction's, and they are stored one
-- after the other. Assumes nothing.
use Prim.Native.Nat.{ℕ, suc, ◌+◌, ◌-◌, ◌≤◌, ◌<◌}
use mathlib.Core.List.{List, [], ◌∷◌, ◌++◌, map, map-append}
use mathlib.Core.Path.{◌≡◌, refl, sym, ap₂, ◌∙◌}
use native.Mathlib.Decide.{ℕ_discrete, dec_le}
use native.Mathlib.Nat.{le_refl}
use native.Mathlib.Numerals.{add-one}
use native.Mathlib.Omega.{arith}
use lib.ListN.{length, get_or, set, replicate, length-append, length-map}
use lib.Seq.{append_snoc, get_or_at, set_at}
use borrow.Author.Tests.{lt-ltb, le-ltb}
use Rattle.model.specs.Common.{list_from}
use Rattle.model.specs.Spans.{Span, nowhere}
use Rattle.model.specs.Blocks.{row_value, row_of}
use Rattle.model.specs.Calls.{row_of_span}
use Rattle.model.specs.Arrays.{row_array}
use Rattle.model.specs.Split.{rows_of}
use Rattle.model.specs.Reductions.{IsReduction}
use Rattle.model.specs.declared.Row.{Row}
use Rattle.theory.proofs.SlotLaws.{length-list_from}
use Rattle.theory.proofs.Lists.{list_from_snoc, list_from_cong}
use Rattle.cuts.specs.Held.{ascending}
use Rattle.rows.specs.Between.{end_before, Ordered, row_between, rows_between}

-- ---- the blocks between cuts

ascending_length : (js : List ℕ) → length (ascending js) ≡ length js
unfolding ascending
ascending_length [] = refl
ascending_length (j ∷ js) = let ih = ascending_length js in simp length-append (omega arith)

-- the last block ends at n
end_last : (cuts : List ℕ) (count n next : ℕ) → count ≤ next → end_before cuts count n next ≡ n
unfolding end_before
end_last cuts count n next le = rw (le-ltb next count le)

module _ (j : ℕ) (js rest : List ℕ) where
  -- the cuts with the greatest one, j, set apart
  apart : ascending (j ∷ js) ++ rest ≡ ascending js ++ (j ∷ rest)
  unfolding ascending
  apart = append_snoc (ascending js) j rest

  at_last : get_or (ascending js ++ (j ∷ rest)) (length js) 0 ≡ j
  at_last = get_or_at (ascending js) j rest 0 (length js) (ascending_length js)

  -- the blocks before the last one end as they do where j is the end of all
  end_before_lem : (n next : ℕ) → next ≤ length js
      → end_before (ascending js ++ (j ∷ rest)) (suc (length js)) n next ≡ end_before (ascending js ++ (j ∷ rest)) (length js) j next
  unfolding end_before
  end_before_lem n next le =
      elim (dec_le (suc next) (length js)) [
        | yes inside ↦ rw (lt-ltb next (suc (length js)) (omega arith), lt-ltb next (length js) inside)
        | no outside ↦
            (let last : next ≡ length js = omega arith in
            rw (last, lt-ltb (length js) (suc (length js)) (omega arith), le-ltb (length js) (length js) (le_refl _), at_last))
      ]

-- the cuts of a reduction are in order
pub ordered : (low : ℕ → ℕ) (i : ℕ) (js rest : List ℕ) → IsReduction low i js → Ordered (ascending js ++ rest) (length js) i
ordered low i [] rest is b lt = absurd (omega arith)
ordered low i (j ∷ js) rest is b lt =
    let (below, above, before) = is in
    rw (apart j js rest)
    (elim (ℕ_discrete b (length js)) [
      | yes last ↦
          rw (last, at_last j js rest, end_last (ascending js ++ (j ∷ rest)) (suc (length js)) i (length js + 1) (omega arith))
          (below, le_refl i)
      | no other ↦
          (let (lo, hi) = ordered low j js (j ∷ rest) before b (omega arith) in
          rw (end_before_lem j js rest i (b + 1) (omega arith)) (lo, omega arith))
    ])

-- the rows between them are the reduction's
pub rows_between_lem : (kind : ℕ) (h : ℕ → Span ℕ) (i : ℕ) (js rest : List ℕ)
    → rows_between kind h (ascending js ++ rest) (length js) i ≡ rows_of (row_value kind) h i js
unfolding rows_between row_between rows_of list_from
rows_between_lem kind h i [] rest = refl
rows_between_lem kind h i (j ∷ js) rest =
    rw (apart j js rest)
    (list_from_snoc (row_between kind h (ascending js ++ (j ∷ rest)) (suc (length js)) i) (length js)
    ∙ ap₂ {C = List (Span ℕ)} ◌++◌
    (list_from_cong _ (row_between kind h (ascending js ++ (j ∷ rest)) (length js) j) 0 (length js)
    (λ b ge lt. rw (end_before_lem j js rest i (b + 1) (omega arith)))
    ∙ rows_between_lem kind h j js (j ∷ rest))
    (rw (at_last j js rest, end_last (ascending js ++ (j ∷ rest)) (suc (length js)) i (length js + 1) (omega arith))))

-- ---- rows stored one after the other

stored : (h : ℕ → Span ℕ) (next : ℕ) (made : List Row) (row : Row) → next < 64 → made ≡ row_array (list_from 0 next h)
    → row ≡ row_of_span (h next) → set made next row ≡ row_array (list_from 0 (next + 1) h)
unfolding row_array
stored h next made row lt before is =
    let left : 64 - next ≡ suc (64 - suc next) = omega arith in
    rw (before, is, add-one, length-list_from 0 next h, length-list_from 0 (suc next) h, left, list_from_snoc h next, map-append)
    (set_at (map row_of_span (list_from 0 next h)) (row_of_span nowhere) (replicate (64 - suc next) (row_of_span nowhere)) (row_of_span (h next)) next
    (length-map (list_from 0 next h) row_of_span ∙ length-list_from 0 next h)
    ∙ sym (append_snoc (map row_of_span (list_from 0 next h)) (row_of_span (h next)) (replicate (64 - suc next) (row_of_span nowhere))))

-- the row from cut `next` to the end of its block
pub row_stored : (kind : ℕ) (seg : ℕ → Span ℕ) (cuts : List ℕ) (count n next from to : ℕ) (made : List Row) (row : Row) → next < 64
    → made ≡ row_array (list_from 0 next (row_between kind seg cuts count n)) → from ≡ get_or cuts next 0
    → to ≡ end_before cuts count n (next + 1) → row ≡ row_of_span (row_of (row_value kind) seg from to)
    → set made next row ≡ row_array (list_from 0 (next + 1) (row_between kind seg cuts count n))
unfolding row_between
row_stored kind seg cuts count n next from to made row lt before is-from is-to is_row =
    stored (row_between kind seg cuts count n) next made row lt before (is_row ∙ rw (is-from, is-to))
