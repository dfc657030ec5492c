-- A walk of several steps over a slot.
use Rattle.std.specs.Prelude.{ℕ, zero, suc, List}
use Rattle.model.specs.Calls.{step_next}

-- the number of the row that comes next, so many steps from the first row on
unfoldable pub number_after : List ℕ → ℕ → ℕ
number_after slot zero = 0
number_after slot (suc steps) = step_next slot (number_after slot steps)
