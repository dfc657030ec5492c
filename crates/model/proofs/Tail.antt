-- The tail of a slot, walked byte by byte from its first: what is read of a slot can then be computed in as many steps as it has bytes,
-- where looking each byte up by its place takes the square of that. Assumes nothing.
use Prim.Native.Nat.{ℕ, zero, suc, ◌-◌}
use mathlib.Core.Bool.{Bool, true, ◌&&◌}
use mathlib.Core.List.{List, [], ◌∷◌}
use mathlib.Core.Path.{◌≡◌, refl, ap, ◌∙◌}
use lib.Dec.{eqb}
use lib.ListN.{drop}
use Rattle.model.specs.Slot.{slot_length, row_place, slot_count}
use Rattle.model.specs.Questions.{zeros, tail_zero}

-- the first `count` bytes are zero, as far as there are so many
unfoldable pub walked : List ℕ → ℕ → Bool
walked bytes zero = true
walked [] (suc count) = true
walked (b ∷ bytes) (suc count) = eqb b 0 && walked bytes count

-- behind the first byte
zeros_shifted : (b : ℕ) (bytes : List ℕ) (i count : ℕ) → zeros (b ∷ bytes) (suc i) count ≡ zeros bytes i count
unfolding zeros
zeros_shifted b bytes i zero = refl
zeros_shifted b bytes i (suc count) = rw (zeros_shifted b bytes (suc i) count)

-- where there is no byte
zeros_none : (i count : ℕ) → zeros [] i count ≡ walked [] count
unfolding zeros walked
zeros_none i zero = refl
zeros_none i (suc zero) = refl
zeros_none i (suc (suc count)) = zeros_none (suc i) (suc count)

zeros_walked : (bytes : List ℕ) (i count : ℕ) → zeros bytes i count ≡ walked (drop i bytes) count
unfolding zeros walked
zeros_walked bytes zero zero = refl
zeros_walked [] zero (suc count) = zeros_none 0 (suc count)
zeros_walked (b ∷ bytes) zero (suc count) = ap (λ t. eqb b 0 && t) (zeros_shifted b bytes 0 count ∙ zeros_walked bytes zero count)
zeros_walked [] (suc i) count = zeros_none (suc i) count
zeros_walked (b ∷ bytes) (suc i) count = zeros_shifted b bytes i count ∙ zeros_walked bytes i count

pub tail_walked : (slot : List ℕ)
    → tail_zero slot ≡ walked (drop (row_place (slot_count slot)) slot) (slot_length - row_place (slot_count slot))
unfolding tail_zero
tail_walked slot = zeros_walked slot (row_place (slot_count slot)) (slot_length - row_place (slot_count slot))
