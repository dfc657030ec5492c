-- Laws of decimal digits. Assumes nothing.
use Prim.Native.Nat.{ℕ, zero, suc, ◌+◌, ◌/◌, ◌%◌, ◌^◌, ◌≤◌, ◌<◌, zero-le}
use mathlib.Core.Path.{◌≡◌, sym}
use mathlib.Core.List.{[], ◌∷◌}
use native.Mathlib.Omega.{arith}
use lib.Dec.{ltb}
use lib.ListN.{length, length-append}
use borrow.Author.Rules.{rules}
use Rattle.std.specs.Fmt as std
use Rattle.std.proofs.lemmas.Fmt.{AppendsLastDigit, decimal_from_appends, length-decimal-le}
use Rattle.theory.proofs.Tests.{cases}
use Rattle.text.specs.Text.{digits, decimal}

-- what the library writes of a number of 64 bits is these digits
appended : AppendsLastDigit digits
unfolding digits
appended = search rules

pub spelled : (n : ℕ) → n < 2 ^ 64 → std.decimal n ≡ decimal n
unfolding decimal
spelled n small = sym (decimal_from_appends digits appended 20 n small (length-decimal-le 20 n (omega arith) (omega arith) small))

-- a number below 10 ^ d has at most d digits
pub length_decimal : (d n : ℕ) → 0 < d → n < 10 ^ d → n < 2 ^ 64 → length (decimal n) ≤ d
length_decimal d n some below small = rw (spelled n small) at (length-decimal-le d n some below small)

length_digits : (most n : ℕ) → length (digits most n) ≤ most
unfolding digits
length_digits zero n = zero-le
length_digits (suc most) n =
    cases (ltb n 10)
    (λ e. rw e (omega arith))
    (λ e. rw e (omega (arith, length-append (digits most (n / 10)) ((48 + n % 10) ∷ []), length_digits most (n / 10))))

pub length_decimal_most : (n : ℕ) → length (decimal n) ≤ 20
unfolding decimal
length_decimal_most n = length_digits 20 n
