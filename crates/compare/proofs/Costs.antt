-- The definitions' errors and shortfalls, frame by frame, as sums over rows in order. Assumes nothing.
use Prim.Native.Nat.{ℕ, zero, suc, ◌+◌, ◌*◌, ◌-◌, ◌≤◌}
use mathlib.Core.Bool.{Bool, ◌&&◌}
use mathlib.Core.List.{List, [], ◌∷◌, map}
use mathlib.Core.Logic.{◌⊎◌, inl, inr}
use mathlib.Core.Option.{Option, none, some}
use mathlib.Core.Path.{◌≡◌, refl, ap, ap₂, ◌∙◌}
use native.Mathlib.Decide.{dec_le}
use native.Mathlib.Omega.{arith}
use lib.Dec.{leb, eqb}
use lib.IntN.{pos}
use borrow.Author.Tests.{ne_eqb}
use Rattle.model.specs.Common.{sum_from, sum_of, every}
use Rattle.model.specs.Spans.{Span, group_count, frame_count, meets, holds}
use Rattle.model.specs.Slot.{value_in}
use Rattle.model.specs.Fitting.{frame_cost, over_frames, squared_error, whole}
use Rattle.model.specs.Check.{every_frame, not_below, never_below}
use Rattle.model.specs.Blocks.{squared}
use Rattle.theory.proofs.Tests.{cases}
use Rattle.theory.proofs.Sums.{over_frames_cong, over_frames-sum_of}
use Rattle.theory.proofs.Nearest.{squared_pos}
use Rattle.theory.proofs.Converse.{one_row_lem}
use Rattle.theory.proofs.InOrder.{InOrder, once}
use Rattle.compare.proofs.Fronts.{cost_in}
use Rattle.compare.proofs.Walking.{squares, below}

-- a cost over all frames is the sum of what the rows' numbers cost
pub cost_sum : (cost : ℕ → ℕ → ℕ) (val : ℕ → ℕ → Option ℕ) (rows : List (Span ℕ)) → InOrder rows
    → over_frames group_count frame_count (λ g f. frame_cost cost (val g f) (value_in rows g f)) ≡ sum_of (cost_in cost val) rows
cost_sum cost val rows order =
    over_frames_cong group_count frame_count _ _ (λ g f i j. one_row_lem g f cost (val g f) rows (once g f rows order))
    ∙ over_frames-sum_of group_count frame_count _ rows

-- ---- the squared error

-- the square of the difference, taken the way that it is not negative
difference : (v r a d : ℕ) → squared v (pos r) + 2 * (v * r) ≡ v * v + r * r → ((v ≡ a) × (r ≡ a + d)) ⊎ ((r ≡ a) × (v ≡ a + d))
    → squared v (pos r) ≡ d * d
difference v r a d apart (inl (low, high)) = rw (low, high) (omega (arith, rw (low, high) at apart))
difference v r a d apart (inr (low, high)) = rw (low, high) (omega (arith, rw (low, high) at apart))

pub squared_up : (v r : ℕ) → v ≤ r → squared v (pos r) ≡ (r - v) * (r - v)
squared_up v r le = difference v r v (r - v) (squared_pos v r) (inl (refl, omega arith))

pub squared_down : (v r : ℕ) → r ≤ v → squared v (pos r) ≡ (v - r) * (v - r)
squared_down v r le = difference v r r (v - r) (squared_pos v r) (inr (refl, omega arith))

-- as the library takes the difference
pub squared_apart : (v r : ℕ) → squared v (pos r) ≡ (v - r + (r - v)) * (v - r + (r - v))
squared_apart v r =
    elim (dec_le v r) [
      | yes le ↦
          (let up : v - r + (r - v) ≡ r - v = omega arith in
          rw up (squared_up v r le))
      | no more ↦
          (let down : v - r + (r - v) ≡ v - r = omega arith in
          rw down (squared_down v r (omega arith)))
    ]

whole_cost : (g f : ℕ) (o : Option ℕ) (rows : List (Span ℕ)) → frame_cost squared o (value_in (map whole rows) g f) ≡ frame_cost squares o (value_in rows g f)
unfolding value_in whole holds meets frame_cost
whole_cost g f none rows = refl
whole_cost g f (some v) [] = refl
whole_cost g f (some v) (r ∷ rows) = cases (holds r g f) (λ t. rw t) (λ t. rw t (whole_cost g f (some v) rows))

pub error_sum : (val : ℕ → ℕ → Option ℕ) (rows : List (Span ℕ)) → InOrder rows
    → squared_error val (map whole rows) ≡ sum_of (cost_in squares val) rows
unfolding squared_error
error_sum val rows order =
    over_frames_cong group_count frame_count _ _ (λ g f i j. whole_cost g f (val g f) rows) ∙ cost_sum squares val rows order

-- ---- rows below a value

-- a test of numbers holds where there is nothing to count against it
every_sum : (test : ℕ → Bool) (count : ℕ → ℕ) → ((i : ℕ) → test i ≡ eqb (count i) 0) → (from n : ℕ)
    → every test from n ≡ eqb (sum_from from n count) 0
unfolding every sum_from
every_sum test count counts from zero = refl
every_sum test count counts from (suc n) =
    ap₂ {C = Bool} ◌&&◌ (counts from) (every_sum test count counts (suc from) n) ∙ both (count from) (sum_from (suc from) n count)
  where
    both : (a b : ℕ) → eqb a 0 && eqb b 0 ≡ eqb (a + b) 0
    both zero b = let same : 0 + b ≡ b = omega arith in rw same
    both (suc a) b = rw (ne_eqb (suc a) 0 (λ e. omega arith), ne_eqb (suc a + b) 0 (λ e. omega arith))

one_below : (o p : Option ℕ) → not_below o p ≡ eqb (frame_cost below o p) 0
unfolding not_below frame_cost
one_below none p = refl
one_below (some v) none = refl
one_below (some v) (some r) = cases (leb v r) (λ t. rw t) (λ t. rw t)

pub short_sum : (val : ℕ → ℕ → Option ℕ) (rows : List (Span ℕ)) → InOrder rows
    → never_below val rows ≡ eqb (sum_of (cost_in below val) rows) 0
unfolding never_below every_frame over_frames
short_sum val rows order =
    every_sum _ _ (λ g. every_sum _ _ (λ f. one_below (val g f) (value_in rows g f)) 0 frame_count) 0 group_count
    ∙ ap (λ (x : ℕ). eqb x 0) (cost_sum below val rows order)
