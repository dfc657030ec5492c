-- Numbers in bytes, of any width: a wider one is made of two narrower ones, and its bytes are its digits to the base 256.
-- Assumes nothing.
use Prim.Native.Nat.{ℕ, zero, suc, ◌+◌, ◌*◌, ◌/◌, ◌%◌, ◌^◌}
use mathlib.Core.List.{List, [], ◌∷◌}
use mathlib.Core.Path.{◌≡◌, refl, ap, ◌∙◌}
use native.Mathlib.Omega.{arith}
use native.Mathlib.Nat.{add-zero, suc-add, zero-add, pow-suc, pow-succ', div-div-eq-div-mul}
use Rattle.model.specs.Common.{list_from, number_at, bytes_of}

-- the number in a + b bytes is that in the first a, and that in the next b times 256 to the power a
pub number_add : (a b : ℕ) (bytes : List ℕ) (p : ℕ)
    → number_at (a + b) bytes p ≡ number_at a bytes p + 256 ^ a * number_at b bytes (p + a)
unfolding number_at
number_add zero b bytes p = rw (zero-add b, add-zero p) (omega arith)
number_add (suc a) b bytes p =
    let next : p + suc a ≡ suc p + a = omega arith in
    rw (suc-add, next, number_add a b bytes (suc p), pow-succ' 256 a) (omega arith)

-- the bytes of a number from digit k on
pub digits : (count k x : ℕ) → bytes_of count (x / 256 ^ k) ≡ list_from k count (λ j. x / 256 ^ j % 256)
unfolding bytes_of list_from
digits zero k x = refl
digits (suc count) k x =
    ap (λ (l : List ℕ). x / 256 ^ k % 256 ∷ l)
    (ap (bytes_of count) (div-div-eq-div-mul x (256 ^ k) 256 ∙ rw (pow-suc 256 k)) ∙ digits count (suc k) x)

-- the bytes of a number, digit by digit
pub two_bytes : (x : ℕ) → bytes_of 2 x ≡ x % 256 ∷ x / 0x100 % 256 ∷ []
unfolding bytes_of
two_bytes x = refl

pub four_bytes : (x : ℕ)
    → bytes_of 4 x ≡ x % 256 ∷ x / 0x100 % 256 ∷ x / 0x1_0000 % 256 ∷ x / 0x100_0000 % 256 ∷ []
unfolding bytes_of list_from
four_bytes x = ap (λ (l : List ℕ). x % 256 ∷ l) (digits 3 1 x)

pub eight_bytes : (x : ℕ)
    → bytes_of 8 x
    ≡ x % 256
    ∷ x / 0x100 % 256
    ∷ x / 0x1_0000 % 256
    ∷ x / 0x100_0000 % 256
    ∷ x / 0x1_0000_0000 % 256
    ∷ x / 0x100_0000_0000 % 256
    ∷ x / 0x1_0000_0000_0000 % 256
    ∷ x / 0x100_0000_0000_0000 % 256
    ∷ []
unfolding bytes_of list_from
eight_bytes x = ap (λ (l : List ℕ). x % 256 ∷ l) (digits 7 1 x)
