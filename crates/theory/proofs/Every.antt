-- A test of so many numbers. Assumes nothing.
use Prim.Native.Nat.{ℕ, zero, suc, ◌+◌, ◌-◌, ◌≤◌, ◌<◌}
use mathlib.Core.Bool.{Bool, true, false, ◌&&◌, and_assoc, and-true}
use mathlib.Core.Path.{◌≡◌, refl, sym, ap, ap₂, ◌∙◌, subst}
use native.Mathlib.Numerals.{add-one}
use native.Mathlib.Omega.{arith}
use lib.Dec.{eqb}
use borrow.Author.Tests.{eqb-true, eqb-false}
use Rattle.model.specs.Common.{every}
use Rattle.theory.proofs.Tests.{true≢false, cases, and-true as both_true, true_and}
use Rattle.theory.proofs.Lists.{one_more, none_left}

-- what a test holds of
pub every_at : (test : ℕ → Bool) (from count : ℕ) → every test from count ≡ true → (i : ℕ) → from ≤ i → i < from + count
    → test i ≡ true
unfolding every
every_at test from zero all i a b = absurd (omega arith)
every_at test from (suc count) all i a b =
    let both = both_true (test from) (every test (suc from) count) all in
    cases (eqb from i) (λ e. subst (λ (k : ℕ). test k ≡ true) (eqb-true from i e) both.0)
    (λ e. every_at test (suc from) count both.1 i (omega (arith, eqb-false from i e)) (omega arith))

-- a test that holds of each number
pub every_of : (test : ℕ → Bool) (from count : ℕ) → ((i : ℕ) → from ≤ i → i < from + count → test i ≡ true) → every test from count ≡ true
unfolding every
every_of test from zero each = refl
every_of test from (suc count) each =
    true_and (test from) _ (each from (omega arith) (omega arith))
    (every_of test (suc from) count (λ i a b. each i (omega arith) (omega arith)))

-- one that does not fails of some number
pub every_not : (test : ℕ → Bool) (from count : ℕ) → every test from count ≡ false
    → (i : ℕ) × (from ≤ i) × (i < from + count) × (test i ≡ false)
unfolding every
every_not test from zero none = absurd (true≢false none)
every_not test from (suc count) none =
    cases (test from)
    (λ t. let (i, low, high, is) = every_not test (suc from) count (rw t at none) in (i, omega arith, omega arith, is))
    (λ t. (from, omega arith, omega arith, t))

-- two tests that say the same of each number
pub every_same : (p q : ℕ → Bool) (from count : ℕ) → ((i : ℕ) → from ≤ i → i < from + count → p i ≡ q i)
    → every p from count ≡ every q from count
unfolding every
every_same p q from zero same = refl
every_same p q from (suc count) same =
    ap₂ {C = Bool} ◌&&◌ (same from (omega arith) (omega arith))
    (every_same p q (suc from) count (λ i a b. same i (omega arith) (omega arith)))

-- the numbers left pass a test
module _ (test : ℕ → Bool) (i count : ℕ) where
  pub every_more : (so_far now : Bool) → i < count → now ≡ test i
      → so_far && now && every test (i + 1) (count - (i + 1)) ≡ so_far && every test i (count - i)
  unfolding every
  every_more so_far now lt e =
      rw (add-one i, e)
      (and_assoc so_far (test i) (every test (suc i) (count - suc i))
      ∙ ap (λ (b : Bool). so_far && b) (sym (one_more (every test i) i count lt)))

  pub every_done : (so_far : Bool) → count ≤ i → so_far ≡ so_far && every test i (count - i)
  unfolding every
  every_done so_far past =
      sym (and-true so_far) ∙ ap (λ (b : Bool). so_far && b) (sym (none_left (every test i) i count past))
