-- What the argument for the best rows asks of values, labels and costs. A value is what a frame has, a label what a row
-- holds. Here values are numbers, labels whole numbers and the cost is the squared difference; every other rule for row
-- values is one more instance. Assumes nothing.
use Prim.Native.Nat.{ℕ, ◌*◌, ◌≤◌}
use mathlib.Core.Bool.{Bool, true}
use mathlib.Core.List.{List, Memᴰ}
use mathlib.Core.Option.{Option, some}
use mathlib.Core.Path.{◌≡◌}
use Rattle.model.specs.Common.{sum_of}
use Rattle.model.specs.Spans.{Span, span_length}
use Rattle.model.specs.Blocks.{block, row_of}
use Rattle.model.specs.Split.{rows_of}
use Rattle.model.specs.Slot.{value_in}
use Rattle.model.specs.Fitting.{frame_cost, over_frames}

-- the cost of a block under one label
unfoldable pub cost_of : {V' L : Type 0} → (V' → L → ℕ) → L → List (Span V') → ℕ
cost_of cost z b = sum_of (λ s. span_length s * cost s.value z) b

-- a cost of labels for values, which labels are allowed for a value, and a block's best label
pub record Cost (V' L : Type 0) : Type 1 where
  pub same : V' → V' → Bool
  pub same_eq : (v w : V') → same v w ≡ true → v ≡ w
  pub cost : V' → L → ℕ
  pub ok : V' → L → Type 0
  pub best : List (Span V') → L
  pub best_ok : (b : List (Span V')) (s : Span V') → Memᴰ s b → ok s.value (best b)
  pub best_least : (b : List (Span V')) (z : L) → ((s : Span V') → Memᴰ s b → ok s.value z)
      → cost_of cost (best b) b ≤ cost_of cost z b

module _ {V' L : Type 0} (C : Cost V' L) where
  -- the error of the block from j up to i
  unfoldable pub error_in : (ℕ → Span V') → ℕ → ℕ → ℕ
  error_in seg j i = cost_of C.cost (C.best (block seg j i)) (block seg j i)

  -- the row of the block from j up to i, and the rows of a reduction
  abbrev pub best_row : (ℕ → Span V') → ℕ → ℕ → Span L
  best_row = row_of C.best

  abbrev pub best_rows : (ℕ → Span V') → ℕ → List ℕ → List (Span L)
  best_rows = rows_of C.best

  -- each row's label is allowed for the frames that it contains
  abbrev pub Allowed : (ℕ → ℕ → Option V') → List (Span L) → Type 0
  Allowed val rows =
      (g f : ℕ) (v : V') (z : L) → val g f ≡ some v → value_in rows g f ≡ some z → C.ok v z

  -- the cost of a list of rows, frame by frame
  unfoldable pub error_under : (ℕ → ℕ → Option V') → ℕ → ℕ → List (Span L) → ℕ
  error_under val groups frames rows =
      over_frames groups frames (λ g f. frame_cost C.cost (val g f) (value_in rows g f))
