-- Gaps, runs, blocks and their totals, row values and errors. Segments are numbered from 0, by a function `seg`, and
-- `block seg j i` is those from j up to i, i not included: the paper's segments j+1 to i.
use Rattle.std.specs.Prelude.{ℕ, zero, suc, ◌+◌, ◌-◌, ◌*◌, ◌/◌, ◌%◌, max, Bool, true, not, cond, List, [], ◌∷◌, leb, eqb, ℤ, pos, ◌-ℤ◌, nat_abs, get_or}
use Rattle.model.specs.Common.{sum_of, list_from}
use Rattle.model.specs.Spans.{Span, span_length, adjacent, nowhere}
use Rattle.model.specs.Log.{greatest_kind}

-- the segment with this number
unfoldable pub segment_at : List (Span ℕ) → ℕ → Span ℕ
segment_at segs i = get_or segs i nowhere

-- j is a gap: a run begins with segment j. That is so at 0, and where the segment before is not adjacent.
unfoldable pub gap : {A : Type 0} → (ℕ → Span A) → ℕ → Bool
gap seg zero = true
gap seg (suc j) = not (adjacent (seg j) (seg (suc j)))

-- the last gap below i, 0 if there is none
unfoldable pub last_gap : {A : Type 0} → (ℕ → Span A) → ℕ → ℕ
last_gap seg zero = 0
last_gap seg (suc i) = cond (gap seg i) i (last_gap seg i)

-- the runs that begin among the first i segments: of all segments, the paper's m
unfoldable pub runs_to : {A : Type 0} → (ℕ → Span A) → ℕ → ℕ
runs_to seg zero = 0
runs_to seg (suc i) = cond (gap seg i) (suc (runs_to seg i)) (runs_to seg i)

unfoldable pub block : {A : Type 0} → (ℕ → Span A) → ℕ → ℕ → List (Span A)
block seg j i = list_from j (i - j) seg

-- a block's totals: its length, the sum of length × value, the sum of length × value², and its greatest value
pub record Totals : Type 0 where
  pub frames : ℕ
  pub sum : ℕ
  pub squares : ℕ
  pub greatest : ℕ

unfoldable pub empty : Totals
empty = record { frames = 0; sum = 0; squares = 0; greatest = 0 }

unfoldable pub totals_of : ℕ → ℕ → Totals
totals_of frames v = record { frames = frames; sum = frames * v; squares = frames * (v * v); greatest = v }

unfoldable pub add : Totals → Totals → Totals
add t u =
    record {
      frames = t.frames + u.frames;
      sum = t.sum + u.sum;
      squares = t.squares + u.squares;
      greatest = max t.greatest u.greatest;
    }

unfoldable pub totals : List (Span ℕ) → Totals
totals [] = empty
totals (s ∷ b) = add (totals_of (span_length s) s.value) (totals b)

-- the whole number nearest to sum / frames, the upper one at a half (0 for no frames)
unfoldable pub nearest : ℕ → ℕ → ℕ
nearest sum zero = 0
nearest sum (suc n) = cond (leb (suc n) (2 * (sum % suc n))) (suc (sum / suc n)) (sum / suc n)

-- the row value of a block with these totals: for kind 3 the block's greatest value, for every other kind the whole number
-- nearest to its mean
unfoldable pub value_for : ℕ → Totals → ℕ
value_for kind t = cond (eqb kind greatest_kind) t.greatest (nearest t.sum t.frames)

unfoldable pub row_value : ℕ → List (Span ℕ) → ℕ
row_value kind b = value_for kind (totals b)

-- the squared difference of a value and a whole number
unfoldable pub squared : ℕ → ℤ → ℕ
squared v z = nat_abs (pos v -ℤ z) * nat_abs (pos v -ℤ z)

-- the sum of length × (value − z)² over a block
unfoldable pub error_with : ℤ → List (Span ℕ) → ℕ
error_with z b = sum_of (λ s. span_length s * squared s.value z) b

unfoldable pub block_error : ℕ → List (Span ℕ) → ℕ
block_error kind b = error_with (pos (row_value kind b)) b

-- the row of the block from j up to i, where `value` gives a block's row value
unfoldable pub row_of : {A B : Type 0} → (List (Span A) → B) → (ℕ → Span A) → ℕ → ℕ → Span B
row_of value seg j i =
    record {
      group = (seg j).group;
      first = (seg j).first;
      last = (seg (i - 1)).last;
      value = value (block seg j i);
    }
