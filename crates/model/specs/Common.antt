-- Sums, lists and numbers in bytes: what the other definitions are written with.
use Rattle.std.specs.Prelude as std
use Rattle.std.specs.Prelude.{Some, None, ℕ, zero, suc, ◌+◌, ◌*◌, ◌/◌, ◌%◌, Bool, true, false, ◌&&◌, List, [], ◌∷◌, ◌++◌, get_or}
use Rattle.std.proofs.Math.Option.{Option, none, some}

-- h from + h (from + 1) + .., `count` summands
unfoldable pub sum_from : ℕ → ℕ → (ℕ → ℕ) → ℕ
sum_from from zero h = 0
sum_from from (suc count) h = h from + sum_from (suc from) count h

-- the sum of h over a list
unfoldable pub sum_of : {A : Type 0} → (A → ℕ) → List A → ℕ
sum_of h [] = 0
sum_of h (a ∷ rest) = h a + sum_of h rest

-- h from, h (from + 1), .., `count` elements
unfoldable pub list_from : {A : Type 0} → ℕ → ℕ → (ℕ → A) → List A
list_from from zero h = []
list_from from (suc count) h = h from ∷ list_from (suc from) count h

-- the test holds of `count` numbers from `from` on
unfoldable pub every : (ℕ → Bool) → ℕ → ℕ → Bool
every test from zero = true
every test from (suc count) = test from && every test (suc from) count

-- the lists h a, one after the other
unfoldable pub joined : {A B : Type 0} → (A → List B) → List A → List B
joined h [] = []
joined h (a ∷ rest) = h a ++ joined h rest

-- an option of the code as one of the definitions
unfoldable pub option_of : {A : Type 0} → std.Option A → Option A
option_of None = none
option_of (Some a) = some a

unfoldable pub is_some : {A : Type 0} → Option A → Bool
is_some none = false
is_some (some a) = true

-- the number that `count` bytes hold from place `at` on, least byte first
unfoldable pub number_at : ℕ → List ℕ → ℕ → ℕ
number_at zero bytes at = 0
number_at (suc count) bytes at = get_or bytes at 0 + 256 * number_at count bytes (suc at)

-- a number in `count` bytes, least byte first
unfoldable pub bytes_of : ℕ → ℕ → List ℕ
bytes_of zero x = []
bytes_of (suc count) x = x % 256 ∷ bytes_of count (x / 256)
