-- Bytes are zero if what is gathered from them is, of any width: the number in so many bytes is zero exactly if all of them are.
-- Assumes nothing.
use Prim.Native.Nat.{ℕ, zero, suc, ◌+◌, ◌-◌, ◌*◌, ◌≤◌}
use mathlib.Core.Bool.{Bool, true, false, ◌&&◌, and_assoc, and-false}
use mathlib.Core.List.{List}
use mathlib.Core.Path.{◌≡◌, refl, sym, ap, ap₂, ◌∙◌}
use native.Mathlib.Nat.{add-zero, suc-add, zero-add}
use native.Mathlib.Omega.{arith}
use borrow.Author.Tests.{eqb-true, eqb-false, eq-eqb, ne_eqb}
use lib.Bits.{bit_or, or_add_and, and_le_r}
use lib.Dec.{eqb}
use lib.ListN.{length, get_or, take, drop}
use lib.Seq.{drop-cons}
use Rattle.std.specs.List.{list_all}
use Rattle.model.specs.Common.{number_at}
use Rattle.model.specs.Questions.{zeros}
use Rattle.theory.proofs.Tests.{cases}

-- ---- stretches of bytes

-- the first a bytes, and the b behind them
pub zeros_add : (a b : ℕ) (bytes : List ℕ) (at : ℕ) → zeros bytes at (a + b) ≡ zeros bytes at a && zeros bytes (at + a) b
unfolding zeros
zeros_add zero b bytes at = rw (zero-add b, add-zero at)
zeros_add (suc a) b bytes at =
    let next : at + suc a ≡ suc at + a = omega arith in
    rw (suc-add, next, zeros_add a b bytes (suc at))
    (sym (and_assoc (eqb (get_or bytes at 0) 0) (zeros bytes (suc at) a) (zeros bytes (suc at + a) b)))

-- the bytes before `to` are the first a, the b behind them, and the rest
pub zeros_parts : (a b : ℕ) (bytes : List ℕ) (from to : ℕ) → from + a + b ≤ to
    → zeros bytes from (to - from)
    ≡ zeros bytes from a && zeros bytes (from + a) b && zeros bytes (from + a + b) (to - (from + a + b))
zeros_parts a b bytes from to le =
    let rest = to - (from + a + b) in
    let size : to - from ≡ a + (b + rest) = omega arith in
    ap (zeros bytes from) size
    ∙ zeros_add a (b + rest) bytes from
    ∙ ap (λ (z : Bool). zeros bytes from a && z) (zeros_add b rest bytes (from + a))
    ∙ sym (and_assoc (zeros bytes from a) (zeros bytes (from + a) b) (zeros bytes (from + a + b) rest))

-- the bytes of a stretch, all of them
pub zeros_listed : (n : ℕ) (bytes : List ℕ) (at : ℕ) → at + n ≤ length bytes
    → list_all (λ b. eqb b 0) (take n (drop at bytes)) ≡ zeros bytes at n
unfolding zeros
zeros_listed zero bytes at le = refl
zeros_listed (suc n) bytes at le =
    rw (drop-cons bytes at 0 (omega arith)) (ap (λ (rest : Bool). eqb (get_or bytes at 0) 0 && rest) (zeros_listed n bytes (suc at) (omega arith)))

-- ---- numbers

-- two numbers or-ed are zero if both are
pub or_zero : (a b : ℕ) → eqb (bit_or a b) 0 ≡ eqb a 0 && eqb b 0
or_zero a b =
    cases (eqb a 0) (λ p. rw (eqb-true a 0 p))
    (λ p. rw p (ne_eqb (bit_or a b) 0 (λ e. eqb-false a 0 p (omega (arith, or_add_and a b, and_le_r a b)))))

-- a number is zero if its least byte and the others are
byte_zero : (a b : ℕ) → eqb (a + 256 * b) 0 ≡ eqb a 0 && eqb b 0
byte_zero a b =
    cases (eqb a 0)
    (λ p. rw p
    (cases (eqb b 0) (λ q. rw q (eq-eqb (a + 256 * b) 0 (omega (arith, eqb-true))))
    (λ q. rw q (ne_eqb (a + 256 * b) 0 (λ e. eqb-false b 0 q (omega arith))))))
    (λ p. rw p (ne_eqb (a + 256 * b) 0 (λ e. eqb-false a 0 p (omega arith))))

-- the number in `width` bytes is zero exactly if all of them are
pub number_zero : (width : ℕ) (bytes : List ℕ) (at : ℕ) → eqb (number_at width bytes at) 0 ≡ zeros bytes at width
unfolding number_at zeros
number_zero zero bytes at = refl
number_zero (suc width) bytes at =
    byte_zero (get_or bytes at 0) (number_at width bytes (suc at))
    ∙ ap (λ (b : Bool). eqb (get_or bytes at 0) 0 && b) (number_zero width bytes (suc at))

-- ---- what is gathered so far, `size` bytes from `at` on

-- two tests of two each, in another order
two_pairs : (a b c d : Bool) → (a && b) && (c && d) ≡ (a && c) && (b && d)
two_pairs false b c d = refl
two_pairs true true c d = refl
two_pairs true false c d = sym (and-false c)

module _ (width : ℕ) (bytes : List ℕ) where
  -- a number that was read from the bytes at i
  number_at_lem : (number i : ℕ) → number ≡ number_at width bytes i → eqb number 0 ≡ zeros bytes i width
  number_at_lem number i e = rw e (number_zero width bytes i)

module _ (width : ℕ) (bytes : List ℕ) (at size : ℕ) where
  -- one number more
  pub gathered : (any number : ℕ) → number ≡ number_at width bytes (at + size) → eqb any 0 ≡ zeros bytes at size
      → eqb (bit_or any number) 0 ≡ zeros bytes at (size + width)
  gathered any number e before =
      or_zero any number
      ∙ ap₂ {C = Bool} ◌&&◌ before (number_at_lem width bytes number (at + size) e)
      ∙ sym (zeros_add size width bytes at)

  -- two numbers more, each to its own
  pub gathered_two : (one two number next : ℕ) → number ≡ number_at width bytes (at + size)
      → next ≡ number_at width bytes (at + size + width) → eqb one 0 && eqb two 0 ≡ zeros bytes at size
      → eqb (bit_or one number) 0 && eqb (bit_or two next) 0 ≡ zeros bytes at (size + (width + width))
  gathered_two one two number next e f before =
      ap₂ {C = Bool} ◌&&◌ (or_zero one number) (or_zero two next)
      ∙ two_pairs (eqb one 0) (eqb number 0) (eqb two 0) (eqb next 0)
      ∙ ap₂ {C = Bool} ◌&&◌ before
      (ap₂ {C = Bool} ◌&&◌ (number_at_lem width bytes number (at + size) e) (number_at_lem width bytes next (at + size + width) f)
      ∙ sym (zeros_add width width bytes (at + size)))
      ∙ sym (zeros_add size (width + width) bytes at)
