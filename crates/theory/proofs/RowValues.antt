-- Row values by kind: for kind 3 the block's greatest value, for every other kind the whole number nearest to its mean. Either
-- lies between the block's least and greatest value, and no whole number that the kind allows has a smaller squared error: one
-- cost for all kinds. Assumes nothing.
use Prim.Native.Nat.{ℕ, ◌+◌, ◌-◌, ◌*◌, ◌≤◌, ◌<◌, zero-le}
use mathlib.Core.List.Memᴰ
use mathlib.Core.List.{List, [], ◌∷◌, Memᴰ}
use mathlib.Core.Logic.{⊎_elim}
use mathlib.Core.Path.{◌≡◌, refl}
use native.Mathlib.Nat.{le_trans, mul-le-mul_left}
use native.Mathlib.Omega.{arith}
use lib.Dec.{eqb}
use lib.IntN.{ℤ, pos, negsuc}
use borrow.Author.Tests.{eqb-true, eq-eqb, ne_eqb}
use Rattle.model.specs.Common.{sum_of}
use Rattle.model.specs.Spans.{Span, span_length}
use Rattle.model.specs.Log.{greatest_kind}
use Rattle.model.specs.Blocks.{Totals, empty, totals_of, add, totals, nearest, value_for, row_value, squared, error_with, block_error}
use Rattle.model.specs.Fitting.{AtMost}
use Rattle.theory.proofs.Tests.{cases}
use Rattle.theory.proofs.Cost.{Cost, cost_of}
use Rattle.theory.proofs.Nearest.{squared_pos, nearest_near, mean_least, nearest_le, le_nearest, sum_between}

-- ---- the greatest value of a block

-- no value of the block is above it
pub greatest_above : (b : List (Span ℕ)) (s : Span ℕ) → Memᴰ s b → s.value ≤ (totals b).greatest
unfolding totals add totals_of
greatest_above [] s m = absurd (Memᴰ.not-nil m)
greatest_above (t ∷ b) s m =
    ⊎_elim (λ e. rw e (omega arith)) (λ n. let ih = greatest_above b s n in omega arith) (Memᴰ.cases_cons m)

-- and it is not above a number that no value is above
pub greatest_le : (hi : ℕ) (b : List (Span ℕ)) → ((s : Span ℕ) → Memᴰ s b → s.value ≤ hi) → (totals b).greatest ≤ hi
unfolding totals empty add totals_of
greatest_le hi [] h = zero-le
greatest_le hi (s ∷ b) h =
    let here = h s (Memᴰ.head refl) in
    let ih = greatest_le hi b (λ t m. h t (Memᴰ.tail m)) in
    omega arith

-- where the block has a frame, it is not below a number that no value is below
le_greatest : (lo : ℕ) (b : List (Span ℕ)) → 0 < (totals b).frames → ((s : Span ℕ) → Memᴰ s b → lo ≤ s.value)
    → lo ≤ (totals b).greatest
unfolding totals empty
le_greatest lo [] some_frames h = absurd (omega arith)
le_greatest lo (s ∷ b) some_frames h =
    le_trans (h s (Memᴰ.head refl)) (greatest_above (s ∷ b) s (Memᴰ.head refl))

-- from a value upwards the squared difference grows
squared_grows : (v r d : ℕ) → v ≤ r → squared v (pos r) ≤ squared v (pos (r + d))
squared_grows v r d le =
    let near = squared_pos v r in
    let far = squared_pos v (r + d) in
    let wide = mul-le-mul_left d le in
    omega arith

error_grows : (b : List (Span ℕ)) (r d : ℕ) → ((s : Span ℕ) → Memᴰ s b → s.value ≤ r)
    → error_with (pos r) b ≤ error_with (pos (r + d)) b
unfolding error_with sum_of
error_grows [] r d h = zero-le
error_grows (s ∷ b) r d h =
    let ih = error_grows b r d (λ t m. h t (Memᴰ.tail m)) in
    let here = mul-le-mul_left (span_length s) (squared_grows s.value r d (h s (Memᴰ.head refl))) in
    omega arith

-- so among the whole numbers that no value of the block is above, the greatest value has the least error
greatest_least : (b : List (Span ℕ)) (z : ℤ) → ((s : Span ℕ) → Memᴰ s b → AtMost s.value z)
    → error_with (pos (totals b).greatest) b ≤ error_with z b
unfolding error_with sum_of
greatest_least b (pos m) h =
    let le = greatest_le m b h in
    let parts : m ≡ (totals b).greatest + (m - (totals b).greatest) = omega arith in
    rw parts (error_grows b (totals b).greatest (m - (totals b).greatest) (greatest_above b))
greatest_least [] (negsuc m) h = zero-le
greatest_least (s ∷ b) (negsuc m) h = absurd (h s (Memᴰ.head refl))

-- ---- row values by kind

module _ (kind : ℕ) (t : Totals) where
  -- that of kind 3, and that of every other kind
  pub of_greatest : kind ≡ greatest_kind → t.greatest ≡ value_for kind t
  unfolding value_for
  of_greatest is = rw (eq-eqb kind greatest_kind is)

  pub of_others : (kind ≡ greatest_kind → ⊥) → nearest t.sum t.frames ≡ value_for kind t
  unfolding value_for
  of_others other = rw (ne_eqb kind greatest_kind other)

  -- totals of values that are at most so much have such a row value
  pub value_le : (hi : ℕ) → t.sum ≤ hi * t.frames → t.greatest ≤ hi → value_for kind t ≤ hi
  unfolding value_for
  value_le hi sums greatest =
      cases (eqb kind greatest_kind) (λ e. rw e greatest) (λ e. rw e (nearest_le hi t.sum t.frames sums))

-- a row value is at most what the block's values are at most
pub row_le : (kind hi : ℕ) (b : List (Span ℕ)) → ((s : Span ℕ) → Memᴰ s b → s.value ≤ hi) → row_value kind b ≤ hi
unfolding row_value
row_le kind hi b h =
    value_le kind (totals b) hi (sum_between 0 hi b (λ s m. (zero-le, h s m))).1 (greatest_le hi b h)

-- the row value lies between a lower and an upper bound of the block's values
pub row_between_lem : (kind lo hi : ℕ) (b : List (Span ℕ)) → 0 < (totals b).frames
    → ((s : Span ℕ) → Memᴰ s b → (lo ≤ s.value) × (s.value ≤ hi)) → (lo ≤ row_value kind b) × (row_value kind b ≤ hi)
unfolding row_value value_for
row_between_lem kind lo hi b some_frames h = (
  cases (eqb kind greatest_kind) (λ e. rw e (le_greatest lo b some_frames (λ s m. (h s m).0)))
      (λ e. rw e (le_nearest lo _ _ some_frames (sum_between lo hi b h).0)),
  row_le kind hi b (λ s m. (h s m).1),
)

-- a row of kind 3 is not below any value of its block
pub row_above : (kind : ℕ) (b : List (Span ℕ)) (s : Span ℕ) → Memᴰ s b → kind ≡ greatest_kind → s.value ≤ row_value kind b
unfolding row_value
row_above kind b s m is = rw (← of_greatest kind (totals b) is) (greatest_above b s m)

-- among the whole numbers that the kind allows, the row value has the least error
pub row_least : (kind : ℕ) (b : List (Span ℕ)) (z : ℤ)
    → ((s : Span ℕ) → Memᴰ s b → kind ≡ greatest_kind → AtMost s.value z) → block_error kind b ≤ error_with z b
unfolding block_error row_value value_for
row_least kind b z h =
    cases (eqb kind greatest_kind)
    (λ e. rw e (greatest_least b z (λ s m. h s m (eqb-true kind greatest_kind e))))
    (λ e. rw e (mean_least b _ (nearest_near _ _) z))

-- ---- the cost of the tool's rows, by kind: squared differences; for kind 3 only what is not below a value is allowed

unfoldable pub row_cost : ℕ → Cost ℕ ℤ
unfolding cost_of error_with block_error
row_cost kind =
    record {
      same = eqb;
      same_eq = eqb-true;
      cost = squared;
      ok = λ v z. kind ≡ greatest_kind → AtMost v z;
      best = λ b. pos (row_value kind b);
      best_ok = row_above kind;
      best_least = row_least kind;
    }
