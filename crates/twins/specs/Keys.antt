-- The keys of a log's records, and the places of their remainders.
use Rattle.std.specs.Prelude.{ℕ, ◌+◌, ◌*◌, ◌%◌, ◌≤◌, ◌<◌, Bool, not, List, ◌≡◌, eqb, length, get_or}
use Rattle.model.specs.Common.{every, number_at}
use Rattle.model.specs.Log.{record_length}

-- the record with this index, and so many records, end within these bytes
abbrev pub HasRecord : List ℕ → ℕ → Type 0
HasRecord bytes index = 9 * index + 9 ≤ length bytes

abbrev pub HasRecords : List ℕ → ℕ → Type 0
HasRecords bytes count = 9 * count ≤ length bytes

-- each of the first `count` records begins with the first byte of a mark, whatever the second one is
abbrev pub Begun : List ℕ → ℕ → Type 0
Begun log count = (i : ℕ) → i < count → get_or log (record_length * i) 0 ≡ 0x4C

-- the last eight bytes of the record with index i, as one number
unfoldable pub key_of : List ℕ → ℕ → ℕ
key_of log i = number_at 8 log (record_length * i + 1)

-- the key of the record with index i is equal to none of those ahead of it
unfoldable pub new_in : List ℕ → ℕ → Bool
new_in log i = every (λ j. not (eqb (key_of log j) (key_of log i))) 0 i

-- the places of the remainders of the first `count` keys are not 0, and no place holds more than `count`
pub record Noted (log : List ℕ) (count : ℕ) (firsts : List ℕ) : Type 0 where
  pub sized : length firsts ≡ 1021
  pub each : (i : ℕ) → i < count → get_or firsts (key_of log i % 1021) 0 ≡ 0 → ⊥
  pub within : (place : ℕ) → get_or firsts place 0 ≤ count
