-- The words of demand 3. A list of rows, in any order, each with a group, a first and a last frame and any whole number,
-- is judged against the values of frames, and nothing here knows of segments or blocks.
use Rattle.std.specs.Prelude.{ℕ, suc, ◌≤◌, cond, ◌≡◌, ℤ, pos, negsuc, length}
use mathlib.Core.List.{List, [], ◌∷◌, Memᴰ}
use Rattle.std.proofs.Math.Option.{Option, none, some}
use Rattle.model.specs.Common.{sum_from}
use Rattle.model.specs.Spans.{Span, group_count, frame_count, holds}
use Rattle.model.specs.Log.{greatest_kind}
use Rattle.model.specs.Blocks.{squared}
use Rattle.model.specs.Slot.{value_in}
use Rattle.model.specs.Guarantee.{Choices}

-- how many rows contain frame f of group g
unfoldable pub hits : {A : Type 0} → List (Span A) → ℕ → ℕ → ℕ
hits [] g f = 0
hits (r ∷ rs) g f = cond (holds r g f) (suc (hits rs g f)) (hits rs g f)

-- 1 for a covered frame, 0 for any other
unfoldable pub due : {A : Type 0} → Option A → ℕ
due none = 0
due (some v) = 1

-- each row's first frame is at most its last; every covered frame lies in exactly one row of its group, and no other frame
-- in any
pub record Fits {A B : Type 0} (val : ℕ → ℕ → Option A) (rows : List (Span B)) : Type 0 where
  pub ordered : (r : Span B) → Memᴰ r rows → r.first ≤ r.last
  pub exact : (g f : ℕ) → hits rows g f ≡ due (val g f)

-- a frame's cost under the number of its row
unfoldable pub frame_cost : {A B : Type 0} → (A → B → ℕ) → Option A → Option B → ℕ
frame_cost cost none z = 0
frame_cost cost (some v) none = 0
frame_cost cost (some v) (some z) = cost v z

-- the sum over all frames of all groups
unfoldable pub over_frames : ℕ → ℕ → (ℕ → ℕ → ℕ) → ℕ
over_frames groups frames h = sum_from 0 groups (λ g. sum_from 0 frames (h g))

-- the squared error: over all covered frames, of the frame's value and the number of the row that contains it
unfoldable pub squared_error : (ℕ → ℕ → Option ℕ) → List (Span ℤ) → ℕ
squared_error val rows =
    over_frames group_count frame_count (λ g f. frame_cost squared (val g f) (value_in rows g f))

-- a value is at most a whole number
abbrev pub AtMost : ℕ → ℤ → Type 0
AtMost v (pos m) = v ≤ m
AtMost v (negsuc m) = ⊥

-- the rows are nowhere below a covered value: no covered frame's value is above the number of the row that contains it
abbrev pub NowhereBelow : (ℕ → ℕ → Option ℕ) → List (Span ℤ) → Type 0
NowhereBelow val rows =
    (g f v : ℕ) (z : ℤ) → val g f ≡ some v → value_in rows g f ≡ some z → AtMost v z

-- a list fits for a kind; for kind 3 only if its rows are also nowhere below a covered value
pub record FitsFor (kind : ℕ) (val : ℕ → ℕ → Option ℕ) (rows : List (Span ℤ)) : Type 0 where
  pub covers : Fits val rows
  pub nowhere_below : kind ≡ greatest_kind → NowhereBelow val rows

-- a slot's row as one that holds a whole number
unfoldable pub whole : Span ℕ → Span ℤ
whole r = record { group = r.group; first = r.first; last = r.last; value = pos r.value }

-- the lists of rows among which a query of this kind has the best
abbrev pub row_lists : ℕ → (ℕ → ℕ → Option ℕ) → Choices (List (Span ℤ))
row_lists kind val = record { fits = FitsFor kind val; size = length; error = squared_error val }
