-- Laws of blocks: how a block grows, that each has its row, that totals of neighbours add, and that a wider block costs no less under any cost.
-- Assumes nothing.
use Prim.Native.Nat.{ℕ, zero, suc, ◌-◌, ◌≤◌, ◌<◌, max}
use mathlib.Core.List.Memᴰ
use mathlib.Core.List.{List, [], ◌∷◌, ◌++◌}
use mathlib.Core.Path.{◌≡◌, refl, sym, ap, ◌∙◌}
use native.Mathlib.Decide.{ℕ_discrete}
use native.Mathlib.Nat.{le_refl, le_trans, zero-add, add_assoc, zero-max}
use native.Mathlib.Omega.{arith}
use lib.ListN.{length, length-append}
use Rattle.model.specs.Common.{sum_of, list_from}
use Rattle.model.specs.Spans.{Span, span_length}
use Rattle.model.specs.Blocks.{block, Totals, empty, totals_of, add, totals}
use Rattle.model.specs.Split.{rows_of}
use Rattle.theory.proofs.Cost.{Cost, cost_of, error_in}

-- a block that is not empty begins with its first segment
pub block_cons : {A : Type 0} (seg : ℕ → Span A) (j i : ℕ) → j < i → block seg j i ≡ seg j ∷ block seg (suc j) i
unfolding block list_from
block_cons seg j i lt =
    let size : i - j ≡ suc (i - suc j) = omega arith in
    rw size

-- a row for each block
pub rows_length : {A B : Type 0} (value_of : List (Span A) → B) (seg : ℕ → Span A) (i : ℕ) (cuts : List ℕ)
    → length (rows_of value_of seg i cuts) ≡ length cuts
unfolding rows_of
rows_length value_of seg i [] = refl
rows_length value_of seg i (j ∷ js) = let ih = rows_length value_of seg j js in simp length-append (omega arith)

-- an empty block has no segment
pub block_empty : {A : Type 0} (seg : ℕ → Span A) (i : ℕ) → block seg i i ≡ []
unfolding block list_from
block_empty seg i =
    let size : i - i ≡ 0 = omega arith in
    rw size

add_empty : (t : Totals) → add empty t ≡ t
unfolding add empty
add_empty t =
    λ i.
    record {
      frames = zero-add t.frames i;
      sum = zero-add t.sum i;
      squares = zero-add t.squares i;
      greatest = zero-max t.greatest i;
    }

max_assoc : (a b c : ℕ) → max (max a b) c ≡ max a (max b c)
max_assoc a b c = omega arith

add_assoc_totals : (t u w : Totals) → add (add t u) w ≡ add t (add u w)
unfolding add
add_assoc_totals t u w =
    λ i.
    record {
      frames = add_assoc t.frames u.frames w.frames i;
      sum = add_assoc t.sum u.sum w.sum i;
      squares = add_assoc t.squares u.squares w.squares i;
      greatest = max_assoc t.greatest u.greatest w.greatest i;
    }

-- totals of neighbours add
pub totals_append : (a b : List (Span ℕ)) → totals (a ++ b) ≡ add (totals a) (totals b)
unfolding totals
totals_append [] b = sym (add_empty (totals b))
totals_append (s ∷ a) b =
    ap (add (totals_of (span_length s) s.value)) (totals_append a b)
    ∙ sym (add_assoc_totals (totals_of (span_length s) s.value) (totals a) (totals b))

module _ {V' L : Type 0} (C : Cost V' L) where
  -- one more segment does not lower the error
  cons_le : (s : Span V') (b : List (Span V'))
      → cost_of C.cost (C.best b) b ≤ cost_of C.cost (C.best (s ∷ b)) (s ∷ b)
  unfolding cost_of sum_of
  cons_le s b =
      let h = C.best_least b (C.best (s ∷ b)) (λ t m. C.best_ok (s ∷ b) t (Memᴰ.tail m)) in
      omega arith

  one_wider : (seg : ℕ → Span V') (j i : ℕ) → j < i → error_in C seg (suc j) i ≤ error_in C seg j i
  unfolding error_in
  one_wider seg j i lt = rw (block_cons seg j i lt) (cons_le (seg j) (block seg (suc j) i))

  -- a wider block costs no less
  pub wider : (seg : ℕ → Span V') (a b i : ℕ) → a ≤ b → b < i → error_in C seg b i ≤ error_in C seg a i
  wider seg a zero i le lt =
      let same : a ≡ 0 = omega arith in
      rw same (le_refl _)
  wider seg a (suc b) i le lt =
      elim (ℕ_discrete a (suc b)) [
        | yes same ↦ rw same (le_refl _)
        | no other ↦ le_trans (one_wider seg b i (omega arith)) (wider seg a b i (omega arith) (omega arith))
      ]
