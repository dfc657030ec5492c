-- A row value by one division, the products of which an error is made in their ranges, and a block's error from its totals.
-- Assumes nothing.
use Prim.Native.Nat.{ℕ, suc, ◌+◌, ◌*◌, ◌/◌, ◌≤◌, ◌<◌}
use mathlib.Core.List.{List}
use mathlib.Core.Path.{◌≡◌, refl}
use native.Mathlib.Nat.{mul-le-mul_right, le_antisymm, le_of_suc-le-suc, le-div_iff_mul-le, div-lt_iff_lt-mul}
use native.Mathlib.Omega.{arith}
use Rattle.model.specs.Spans.{Span}
use Rattle.model.specs.Blocks.{Totals, totals, nearest, value_for, row_value, block_error}
use Rattle.model.specs.Calls.{kind_number}
use Rattle.model.specs.Log.{greatest_kind}
use Rattle.model.specs.Questions.{most_value}
use Rattle.model.specs.Room.{Room, Block}
use Rattle.model.specs.declared.Kind.{Kind}
use Rattle.model.specs.declared.Kind.TheVariants.{Sum, Count, Least, Greatest, Mean, Other}
use Rattle.theory.proofs.Nearest.{error_pos, nearest_low, nearest_high, nearest_le}
use Rattle.theory.proofs.RowValues.{value_le}
use Rattle.theory.proofs.Bounds.{mul_le}
use Rattle.blocks.specs.Meaning.{error_by, error_from}

-- ---- the row value

-- kind 3 is that of the greatest load alone
pub other_kind : (kind : Kind) → (kind ≡ Greatest → ⊥) → kind_number kind ≡ greatest_kind → ⊥
unfolding kind_number
other_kind Sum other is = absurd (omega (arith, is))
other_kind Count other is = absurd (omega (arith, is))
other_kind Least other is = absurd (omega (arith, is))
other_kind Greatest other is = other refl
other_kind Mean other is = absurd (omega (arith, is))
other_kind (Other o) other is = absurd (omega (arith, o.above, is))

pub nearest_none : (sum frames : ℕ) → sum ≤ most_value * frames → frames ≡ 0 → 0 ≡ nearest sum frames
nearest_none sum frames le none_here = omega (arith, nearest_le 0 sum frames (omega arith))

-- the mean with half a frame's worth added, rounded down
pub nearest_by_division : (sum frames : ℕ) → 0 < frames → (2 * sum + frames) / (2 * frames) ≡ nearest sum frames
nearest_by_division sum frames pos-frames =
    let two : 0 < 2 * frames = omega arith in
    le_antisymm
    (le_of_suc-le-suc
    ((div-lt_iff_lt-mul {x = 2 * sum + frames} {y = suc (nearest sum frames)} two).1 (omega (arith, nearest_low sum frames pos-frames))))
    ((le-div_iff_mul-le {x = nearest sum frames} {y = 2 * sum + frames} two).1 (omega (arith, nearest_high sum frames pos-frames)))

-- a row value of totals in range is in range
pub value_in_range : (kind : ℕ) {r : ℕ} {t : Totals} → Room t → r ≡ value_for kind t → r ≤ most_value
value_in_range kind {t = t} room is = rw is (value_le kind t most_value room.sum_le room.greatest_le)

-- the products of which an error is made, for a row value r
pub record Products (r : ℕ) (t : Totals) : Type 0 where
  pub value : r ≤ most_value
  pub square : r * r ≤ most_value * most_value
  pub square_frames : r * r * t.frames ≤ most_value * most_value * t.frames
  pub value_sum : r * t.sum ≤ most_value * most_value * t.frames
  pub positive : 2 * (r * t.sum) ≤ t.squares + r * r * t.frames

pub products : (kind : ℕ) {r : ℕ} {t : Totals} → Block t → r ≡ value_for kind t → Products r t
products kind {r} {t} ok is =
    let value = value_in_range kind ok.room is in
    let square = mul_le value value in
    let value_sum = mul_le value ok.room.sum_le in
    record {
      value = value;
      square = square;
      square_frames = mul-le-mul_right t.frames square;
      value_sum = omega arith;
      positive = ok.error_pos r;
    }

-- ---- a block's error

pub error_from-block : (kind : ℕ) (b : List (Span ℕ)) → error_from kind (totals b) ≡ block_error kind b
unfolding error_from error_by block_error row_value
error_from-block kind b = omega (arith, error_pos (value_for kind (totals b)) b)
