-- Reductions: ways to cut all segments into blocks (source document 000, Definitions 4 to 7, with whole-number row values),
-- and what the paper's answer is among them. A reduction of the first i segments is given by the numbers of its blocks'
-- first segments, the last block's first; `err` and `low` are as for the split table.
use Rattle.std.specs.Prelude.{ℕ, zero, suc, ◌+◌, ◌*◌, ◌≤◌, ◌<◌, Bool, false, List, [], ◌∷◌, ◌++◌, ◌⊎◌, ◌≡◌, length}
use Rattle.model.specs.declared.Bound.{Bound}
use Rattle.model.specs.declared.Bound.TheVariants.{Rows, Share}

-- no block is empty, none crosses a gap, and the first begins at 0
abbrev pub IsReduction : (ℕ → ℕ) → ℕ → List ℕ → Type 0
IsReduction low i [] = i ≡ 0
IsReduction low i (j ∷ js) = (j < i) × (low i ≤ j) × IsReduction low j js

-- every segment a block of its own: n − 1, .., 1, 0
unfoldable pub unmerged : ℕ → List ℕ
unmerged zero = []
unmerged (suc n) = n ∷ unmerged n

-- Definition 4: two adjacent tuples are substituted by the merged tuple, any number of times, from all n segments on. Two
-- neighbouring blocks are adjacent if the later one's first segment, j, is no gap. The merged block begins where the earlier
-- one does: j is struck out.
pub data Merges (gap : ℕ → Bool) (n : ℕ) : List ℕ → Type 0 where
  start : {cuts : List ℕ} → cuts ≡ unmerged n → Merges gap n cuts
  merge : {cuts : List ℕ} (before : List ℕ) (j : ℕ) (after : List ℕ) → Merges gap n (before ++ (j ∷ after))
      → gap j ≡ false → cuts ≡ before ++ after → Merges gap n cuts

-- the sum of the blocks' errors
unfoldable pub reduction_error : (ℕ → ℕ → ℕ) → ℕ → List ℕ → ℕ
reduction_error err i [] = 0
reduction_error err i (j ∷ js) = reduction_error err j js + err j i

-- of two reductions with as many blocks, the first has the later last cut, or the same and the later cut before it, and so
-- on, or is the second
abbrev pub NotEarlier : List ℕ → List ℕ → Type 0
NotEarlier [] [] = Unit {0}
NotEarlier [] (k ∷ ks) = ⊥
NotEarlier (j ∷ js) [] = ⊥
NotEarlier (j ∷ js) (k ∷ ks) = (k < j) ⊎ ((j ≡ k) × NotEarlier js ks)

module _ (err : ℕ → ℕ → ℕ) (low : ℕ → ℕ) (n : ℕ) where
  -- e is the least error of n segments in exactly k rows
  pub record IsLeast (k e : ℕ) : Type 0 where
    pub cuts : List ℕ
    pub is_reduction : IsReduction low n cuts
    pub count : length cuts ≡ k
    pub error : reduction_error err n cuts ≡ e
    pub least : (other : List ℕ) → IsReduction low n other → length other ≡ k → e ≤ reduction_error err n other

  -- none of as many rows and at most its error is cut later
  abbrev pub IsLatest : List ℕ → Type 0
  IsLatest cuts =
      (other : List ℕ) → IsReduction low n other → length other ≡ length cuts
      → reduction_error err n other ≤ reduction_error err n cuts → NotEarlier cuts other

  -- the answer to a row limit: at most c rows, the least error, then the fewest rows, then the latest cuts
  pub record BestWithin (c : ℕ) (cuts : List ℕ) : Type 0 where
    pub is_reduction : IsReduction low n cuts
    pub count : length cuts ≤ c
    pub least : (other : List ℕ) → IsReduction low n other → length other ≤ c
        → reduction_error err n cuts ≤ reduction_error err n other
    pub fewest : (other : List ℕ) → IsReduction low n other → reduction_error err n other ≤ reduction_error err n cuts
        → length cuts ≤ length other
    pub latest : IsLatest cuts

  -- the answer to a share of the least error M of m rows: the fewest rows that meet it, at their least error, then the
  -- latest cuts
  pub record FewestWithin (p m : ℕ) (cuts : List ℕ) : Type 0 where
    pub of : ℕ
    pub is_least : IsLeast m of
    pub is_reduction : IsReduction low n cuts
    pub met : reduction_error err n cuts * 1000 ≤ p * of
    pub fewest : (other : List ℕ) → IsReduction low n other → reduction_error err n other * 1000 ≤ p * of
        → length cuts ≤ length other
    pub least : (other : List ℕ) → IsReduction low n other → length other ≡ length cuts
        → reduction_error err n cuts ≤ reduction_error err n other
    pub latest : IsLatest cuts

  -- the answer to a bound, where there are m runs
  abbrev pub IsAnswer : ℕ → Bound → List ℕ → Type 0
  IsAnswer m (Rows c) cuts = BestWithin c cuts
  IsAnswer m (Share p) cuts = FewestWithin p m cuts
