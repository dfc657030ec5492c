-- The nearest whole number to a block's mean, the upper one at a half: it lies between the block's least and greatest value. No whole
-- number, negative ones included, has a smaller squared error than one that is at most a half away from the mean. Assumes nothing.
use Prim.Native.Nat.{ℕ, zero, suc, ◌+◌, ◌-◌, ◌*◌, ◌%◌, ◌≤◌, ◌<◌, zero-le}
use mathlib.Core.List.{List, [], ◌∷◌, Memᴰ}
use mathlib.Core.Logic.{◌⊎◌, inl, inr}
use mathlib.Core.Path.{◌≡◌, refl, ap}
use native.Mathlib.Decide.{dec_le}
use native.Mathlib.Nat.{le_of_lt, le_of_suc-le-suc, mul-le-mul_left, lt_of_mul-lt-mul_right, div-add-mod', mod-lt}
use native.Mathlib.Omega.{arith}
use lib.Dec.{leb, ltb}
use lib.IntN.{ℤ, pos, negsuc}
use borrow.Author.Tests.{leb-true, leb-false, ltb-true, ltb-false}
use Rattle.model.specs.Common.{sum_of}
use Rattle.model.specs.Spans.{Span, span_length}
use Rattle.model.specs.Blocks.{empty, totals_of, add, totals, nearest, squared, error_with}
use Rattle.theory.proofs.Tests.{cases}

-- ---- the squared difference, without subtraction

-- d is the difference of v and r, whichever is greater
apart : (v r d : ℕ) → (v ≡ r + d) ⊎ (r ≡ v + d) → d * d + 2 * (v * r) ≡ v * v + r * r
apart v r d (inl e) = rw e (omega arith)
apart v r d (inr e) = rw e (omega arith)

pub squared_pos : (v r : ℕ) → squared v (pos r) + 2 * (v * r) ≡ v * v + r * r
unfolding squared
squared_pos v zero = apart v 0 (v + 0) (inl (omega arith))
squared_pos v (suc r) =
    cases (ltb v (suc r))
    (λ e. rw e (apart v (suc r) (suc (suc r - suc v)) (inr (let h = ltb-true v (suc r) e in omega arith))))
    (λ e. rw e (apart v (suc r) (v - suc r) (inl (let h = ltb-false v (suc r) e in omega arith))))

pub squared_neg : (v r : ℕ) → squared v (negsuc r) ≡ (v + suc r) * (v + suc r)
unfolding squared
squared_neg v r = refl

-- ---- a block's squared error from its totals

pub error_pos : (r : ℕ) (b : List (Span ℕ))
    → error_with (pos r) b + 2 * (r * (totals b).sum) ≡ (totals b).squares + r * r * (totals b).frames
unfolding error_with sum_of totals empty add totals_of
error_pos r [] = omega arith
error_pos r (s ∷ b) =
    let ih = error_pos r b in
    let one = ap (λ (x : ℕ). span_length s * x) (squared_pos s.value r) in
    omega arith

error_neg : (r : ℕ) (b : List (Span ℕ)) → (totals b).squares ≤ error_with (negsuc r) b
unfolding error_with sum_of totals empty add totals_of
error_neg r [] = zero-le
error_neg r (s ∷ b) =
    let ih = error_neg r b in
    let one = ap (λ (x : ℕ). span_length s * x) (squared_neg s.value r) in
    omega arith

-- a block of no frames has totals of 0
pub no_frames_lem : (b : List (Span ℕ)) → (totals b).frames ≡ 0 → ((totals b).sum ≡ 0) × ((totals b).squares ≡ 0)
unfolding totals empty add totals_of
no_frames_lem [] h = (refl, refl)
no_frames_lem (s ∷ b) h =
    let none_here : span_length s ≡ 0 = omega arith in
    let rest = no_frames_lem b (omega arith) in
    (rw (none_here, rest.0) (zero_mul_add s.value), rw (none_here, rest.1) (zero_mul_add (s.value * s.value)))
  where
    zero_mul_add : (x : ℕ) → 0 * x + 0 ≡ 0
    zero_mul_add x = omega arith

-- ---- the nearest whole number

-- a number at most a half away from sum / frames, above or below it
pub record Near (sum frames n : ℕ) : Type 0 where
  pub low : 2 * sum ≤ (2 * n + 1) * frames
  pub high : 2 * (n * frames) ≤ 2 * sum + frames

-- the upper one at a half: less than a half below the mean, and at most a half above it
pub nearest_low : (sum frames : ℕ) → 0 < frames → 2 * sum < (2 * nearest sum frames + 1) * frames
unfolding nearest
nearest_low sum zero pos-frames = absurd (omega arith)
nearest_low sum (suc n) pos-frames =
    let parts = div-add-mod' sum (suc n) in
    let left = mod-lt sum pos-frames in
    cases (leb (suc n) (2 * (sum % suc n)))
    (λ e. rw e (omega arith))
    (λ e. rw e (let small = leb-false (suc n) (2 * (sum % suc n)) e in omega arith))

pub nearest_high : (sum frames : ℕ) → 0 < frames → 2 * (nearest sum frames * frames) ≤ 2 * sum + frames
unfolding nearest
nearest_high sum zero pos-frames = absurd (omega arith)
nearest_high sum (suc n) pos-frames =
    let parts = div-add-mod' sum (suc n) in
    cases (leb (suc n) (2 * (sum % suc n)))
    (λ e. rw e (let large = leb-true (suc n) (2 * (sum % suc n)) e in omega arith))
    (λ e. rw e (omega arith))

pub nearest_near : (sum frames : ℕ) → 0 < frames → Near sum frames (nearest sum frames)
nearest_near sum frames pos-frames =
    record { low = le_of_lt (nearest_low sum frames pos-frames); high = nearest_high sum frames pos-frames }

-- no other number r has a smaller r² × frames − 2 × r × sum than a near one
near_least : (sum frames n r : ℕ) → Near sum frames n → n * n * frames + 2 * (r * sum) ≤ r * r * frames + 2 * (n * sum)
near_least sum frames n r near =
    elim (dec_le n r) [
      | yes h ↦ above (r - n) (omega arith)
      | no h ↦ under (n - suc r) (omega arith)
    ]
  where
    -- r is d above n
    above : (d : ℕ) → r ≡ n + d → n * n * frames + 2 * (r * sum) ≤ r * r * frames + 2 * (n * sum)
    above zero e = rw e (omega arith)
    above (suc d) e = rw e (let h = mul-le-mul_left (suc d) near.low in omega arith)

    -- n is 1 + d above r
    under : (d : ℕ) → n ≡ suc (r + d) → n * n * frames + 2 * (r * sum) ≤ r * r * frames + 2 * (n * sum)
    under d e =
        let h = mul-le-mul_left (suc d) (rw e at near.high) in
        rw e (omega arith)

-- so the error of a number near a block's mean is least among all whole numbers, negative ones included
module _ (b : List (Span ℕ)) (n : ℕ) (near : 0 < (totals b).frames → Near (totals b).sum (totals b).frames n) where
  mean_least_pos : (r : ℕ) → error_with (pos n) b ≤ error_with (pos r) b
  mean_least_pos r =
      elim (dec_le 1 (totals b).frames) [
        | yes h ↦
            (let here = error_pos n b in
            let there = error_pos r b in
            let less = near_least (totals b).sum (totals b).frames n r (near h) in
            omega arith)
        | no h ↦
            (let here = void (omega arith) in
            omega arith)
      ]
    where
      void : (totals b).frames ≡ 0 → error_with (pos n) b ≡ 0
      void none =
          let zeros = no_frames_lem b none in
          let here = rw (zeros.0, zeros.1, none) at (error_pos n b) in
          omega arith

  pub mean_least : (z : ℤ) → error_with (pos n) b ≤ error_with z b
  mean_least (pos r) = mean_least_pos r
  mean_least (negsuc r) =
      let zero_row = mean_least_pos 0 in
      let squares-row = error_pos 0 b in
      let neg = error_neg r b in
      omega arith

-- the nearest whole number to a mean is no more than what the mean is at most, and no less than what it is at least
pub nearest_le : (hi sum frames : ℕ) → sum ≤ hi * frames → nearest sum frames ≤ hi
unfolding nearest
nearest_le hi sum zero le = zero-le
nearest_le hi sum (suc frames) le =
    le_of_suc-le-suc (lt_of_mul-lt-mul_right (suc frames) (omega (arith, nearest_high sum (suc frames) (omega arith))))

pub le_nearest : (lo sum frames : ℕ) → 0 < frames → lo * frames ≤ sum → lo ≤ nearest sum frames
le_nearest lo sum frames pos-frames le =
    le_of_suc-le-suc (lt_of_mul-lt-mul_right frames (omega (arith, nearest_low sum frames pos-frames)))

-- the sum of a block's values lies between its bounds
module _ (lo hi : ℕ) where
  pub sum_between : (b : List (Span ℕ)) → ((s : Span ℕ) → Memᴰ s b → (lo ≤ s.value) × (s.value ≤ hi))
      → (lo * (totals b).frames ≤ (totals b).sum) × ((totals b).sum ≤ hi * (totals b).frames)
  unfolding totals empty add totals_of
  sum_between [] h = (omega arith, omega arith)
  sum_between (s ∷ b) h =
      let ih = sum_between b (λ t m. h t (Memᴰ.tail m)) in
      let here = h s (Memᴰ.head refl) in
      let low = mul-le-mul_left (span_length s) here.0 in
      let high = mul-le-mul_left (span_length s) here.1 in
      (omega arith, omega arith)
