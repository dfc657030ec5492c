-- The split table, the cuts weighed, the read-back, and the reduction that a bound asks for.
-- `err j i` is the error of the block from j up to i, and `low i` the last gap below i.
use Rattle.std.specs.Prelude.{ℕ, zero, suc, ◌+◌, ◌-◌, ◌*◌, ◌/◌, ◌%◌, min, max, Bool, true, false, ◌&&◌, cond, List, [], ◌∷◌, ◌++◌, ltb, leb, eqb, length}
use Rattle.std.proofs.Math.Option.{Option, none, some, get_or}
use Rattle.model.specs.Common.{sum_from}
use Rattle.model.specs.Spans.{Span}
use Rattle.model.specs.Blocks.{segment_at, last_gap, runs_to, block, row_value, block_error, row_of}
use Rattle.model.specs.declared.Bound.{Bound}
use Rattle.model.specs.declared.Bound.TheVariants.{Rows, Share}

-- the best candidate so far: its total ('none' if there is none yet), its cut, and how many candidates were tried
pub record Best : Type 0 where
  pub total : Option ℕ
  pub cut : ℕ
  pub tried : ℕ

unfoldable pub untried : Best
untried = record { total = none; cut = 0; tried = 0 }

unfoldable pub plus : Option ℕ → ℕ → Option ℕ
plus none e = none
plus (some t) e = some (t + e)

-- every number is below 'none'
unfoldable pub below : Option ℕ → Option ℕ → Bool
below none b = false
below (some a) none = true
below (some a) (some b) = ltb a b

-- a number exceeds a best total; it does not exceed 'none'
unfoldable pub exceeds : ℕ → Option ℕ → Bool
exceeds e none = false
exceeds e (some b) = ltb b e

-- candidate j with this total is tried: a smaller total replaces the best
unfoldable pub weigh : Best → Option ℕ → ℕ → Best
weigh best total j =
    cond (below total best.total) (record { total = total; cut = j; tried = suc best.tried })
    (record { total = best.total; cut = best.cut; tried = suc best.tried })

-- Candidates low + left − 1 down to low. `prev j` is E(k−1,j) and `err j` the error of the block from j up to i.
-- The scan is left after the first candidate whose block error alone exceeds the best.
unfoldable pub scan : (ℕ → Option ℕ) → (ℕ → ℕ) → ℕ → ℕ → Best → Best
scan prev err low zero best = best
scan prev err low (suc left) best =
    let next = weigh best (plus (prev (low + left)) (err (low + left))) (low + left) in
    let rest = scan prev err low left next in
    cond (exceeds (err (low + left)) next.total) next rest

-- the one block of the first i segments, if there is one
unfoldable pub single : (ℕ → ℕ → ℕ) → (ℕ → ℕ) → ℕ → Option ℕ
single err low zero = none
single err low (suc i) = cond (eqb (low (suc i)) 0) (some (err 0 (suc i))) none

-- cell (k,i): the best of the first i segments in exactly k rows
unfoldable pub cell : (ℕ → ℕ → ℕ) → (ℕ → ℕ) → ℕ → ℕ → Best
cell err low zero i = record { total = cond (eqb i 0) (some 0) none; cut = 0; tried = 0 }
cell err low (suc zero) i = record { total = single err low i; cut = 0; tried = 0 }
cell err low (suc (suc k)) i =
    scan (λ j. (cell err low (suc k) j).total) (λ j. err j i) (max (suc k) (low i)) (i - max (suc k) (low i)) untried

-- E(k,i): the least error of the first i segments in exactly k rows, or none
unfoldable pub least : (ℕ → ℕ → ℕ) → (ℕ → ℕ) → ℕ → ℕ → Option ℕ
least err low k i = (cell err low k i).total

-- the cuts weighed in the table's rows 2 to K
unfoldable pub weighed : (ℕ → ℕ → ℕ) → (ℕ → ℕ) → ℕ → ℕ → ℕ
weighed err low K n = sum_from 2 (K - 1) (λ k. sum_from k (suc n - k) (λ i. (cell err low k i).tried))

-- place x of the split table after rows 1 to K: entry (k,i) stands at (k − 1) × 256 + i, and 0 is 'no cut'
unfoldable pub table_place : (ℕ → ℕ → ℕ) → (ℕ → ℕ) → ℕ → ℕ → ℕ → ℕ
table_place err low K n x =
    cond (leb (suc (x / 256)) K && leb (x % 256) n) (cell err low (suc (x / 256)) (x % 256)).cut 0

-- the first segments of the k blocks of the first i segments, the last block's first
unfoldable pub cuts_of : (ℕ → ℕ → ℕ) → (ℕ → ℕ) → ℕ → ℕ → List ℕ
cuts_of err low zero i = []
cuts_of err low (suc k) i = (cell err low (suc k) i).cut ∷ cuts_of err low k (cell err low (suc k) i).cut

-- the rows of these blocks, the first row first
unfoldable pub rows_of : {A B : Type 0} → (List (Span A) → B) → (ℕ → Span A) → ℕ → List ℕ → List (Span B)
rows_of value seg i [] = []
rows_of value seg i (j ∷ js) = rows_of value seg j js ++ (row_of value seg j i ∷ [])

-- the fewest of 0 to K rows that have the least error
unfoldable pub fewest : (ℕ → Option ℕ) → ℕ → ℕ
fewest e zero = 0
fewest e (suc k) = cond (below (e (suc k)) (e (fewest e k))) (suc k) (fewest e k)

-- an error is within share p of the error M
unfoldable pub within : ℕ → Option ℕ → Option ℕ → Bool
within p none e = false
within p (some M) none = false
within p (some M) (some e) = leb (e * 1000) (p * M)

-- the first of `count` numbers from k on that passes the test
unfoldable pub first_that : (ℕ → Bool) → ℕ → ℕ → Option ℕ
first_that test k zero = none
first_that test k (suc count) =
    let rest = first_that test (suc k) count in
    cond (test k) (some k) rest

-- the most rows that a slot holds
unfoldable pub most_rows : ℕ
most_rows = 64

-- how many rows answer a bound over n segments with m runs and errors `e`, if any number does: with a row limit the
-- fewest that have the least error, with a share the first that meets it
unfoldable pub chosen : Bound → (ℕ → Option ℕ) → ℕ → ℕ → Option ℕ
chosen (Rows c) e n m = cond (leb m c) (some (fewest e (min c n))) none
chosen (Share p) e n m = first_that (λ k. within p (e m) (e k)) 0 (suc most_rows)

-- how many of the table's rows are tried where k rows answer the bound
unfoldable pub rows_tried : Bound → ℕ → ℕ → ℕ
rows_tried (Rows c) n k = min c n
rows_tried (Share p) n k = k

-- a reduction of the segments: its rows, their error, and the cuts weighed to find it
pub record Reduced : Type 0 where
  pub rows : List (Span ℕ)
  pub error : ℕ
  pub weighed : ℕ

-- the error of the block from j up to i, by the kind's row value
unfoldable pub error_of : ℕ → List (Span ℕ) → ℕ → ℕ → ℕ
error_of kind segs j i = block_error kind (block (segment_at segs) j i)

unfoldable pub gap_below : List (Span ℕ) → ℕ → ℕ
gap_below segs i = last_gap (segment_at segs) i

unfoldable pub runs : List (Span ℕ) → ℕ
runs segs = runs_to (segment_at segs) (length segs)

-- the least error of all segments in exactly k rows
unfoldable pub least_of : ℕ → List (Span ℕ) → ℕ → Option ℕ
least_of kind segs k = least (error_of kind segs) (gap_below segs) k (length segs)

-- the number of rows that answers the bound
unfoldable pub count_for : ℕ → Bound → List (Span ℕ) → Option ℕ
count_for kind bound segs = chosen bound (least_of kind segs) (length segs) (runs segs)

-- the reduction to exactly k rows
unfoldable pub reduced_to : ℕ → Bound → List (Span ℕ) → ℕ → Reduced
reduced_to kind bound segs k =
    record {
      rows = rows_of (row_value kind) (segment_at segs) (length segs) (cuts_of (error_of kind segs) (gap_below segs) k (length segs));
      error = get_or (least_of kind segs k) 0;
      weighed = weighed (error_of kind segs) (gap_below segs) (rows_tried bound (length segs) k) (length segs);
    }

-- the paper's answer to a bound: none where no number of rows answers it
unfoldable pub reduced : ℕ → Bound → List (Span ℕ) → Option Reduced
reduced kind bound segs = elim (count_for kind bound segs) [ none ↦ none | some k ↦ some (reduced_to kind bound segs k) ]
