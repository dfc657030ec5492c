-- The places of the blocks' errors: where a row begins, that the rows are apart, and how much room they need. Assumes nothing.
use Prim.Native.Nat.{ℕ, zero, suc, ◌+◌, ◌-◌, ◌*◌, ◌/◌, ◌≤◌, ◌<◌}
use mathlib.Core.Path.{◌≡◌, refl}
use native.Mathlib.Decide.{dec_le}
use native.Mathlib.Omega.{arith}
use Rattle.theory.proofs.Bounds.{mul_le}
use Rattle.triangle.specs.Places.{row_start}

-- twice the start, and one place for each block that ends there
pub start_square : (i : ℕ) → 2 * row_start i + i ≡ i * i
unfolding row_start
start_square zero = refl
start_square (suc i) = let before = start_square i in omega arith

pub start_by_division : (i : ℕ) → 1 ≤ i → i * (i - 1) / 2 ≡ row_start i
start_by_division zero le = absurd (omega arith)
start_by_division (suc i) le =
    let back : suc i - 1 ≡ i = omega arith in
    let square = start_square (suc i) in
    let product : suc i * i ≡ 2 * row_start (suc i) = omega arith in
    rw (back, product) (omega arith)

-- the starts of few rows are small
pub start_le : (i : ℕ) → i ≤ 255 → row_start i + i ≤ 65025
start_le i le = omega (arith, start_square i, mul_le le le)

pub start_next : (i : ℕ) → row_start (i + 1) ≡ row_start i + i
unfolding row_start
start_next i =
    let one : i + 1 ≡ suc i = omega arith in
    rw one

pub start_mono : (i k : ℕ) → i ≤ k → row_start i ≤ row_start k
unfolding row_start
start_mono i zero le =
    let same : i ≡ 0 = omega arith in
    rw same (omega arith)
start_mono i (suc k) le =
    elim (dec_le i k) [
      | yes before ↦ (let ih = start_mono i k before in omega arith)
      | no far ↦
          (let same : i ≡ suc k = omega arith in
          rw same (omega arith))
    ]

-- the place of a block of the first n segments is among those that n segments need
pub in_room : (n i j : ℕ) → i ≤ n → j < i → row_start i + j < row_start (n + 1)
unfolding row_start
in_room n i j le lt =
    let one : n + 1 ≡ suc n = omega arith in
    rw one (let more = start_mono (suc i) (suc n) (omega arith) in omega arith)

-- blocks that end elsewhere stand elsewhere
pub rows_apart : (i k j x : ℕ) → i < k → j < i → row_start i + j < row_start k + x
unfolding row_start
rows_apart i k j x lt inside = let more = start_mono (suc i) k lt in omega arith
