-- Where a slot's rows stand, and the order of the frames of all groups, in which question 16 compares a row with the one before it.
use Rattle.std.specs.Prelude.{ℕ, zero, suc, ◌+◌, ◌*◌, ◌≤◌, ◌<◌, List, length}
use Rattle.model.specs.Slot.{slot_row}

-- a slot is long enough: it has a header, and a place for a row i, or for so many rows
abbrev pub HasHeader : List ℕ → Type 0
HasHeader slot = 768 ≤ length slot

abbrev pub HasRow : List ℕ → ℕ → Type 0
HasRow slot i = HasHeader slot × (i < 64)

abbrev pub HasRows : List ℕ → ℕ → Type 0
HasRows slot count = HasHeader slot × (count ≤ 64)

-- the place of a frame in the order of the frames of all groups: 131,072 places for each group, of which the first 65,536 are frames
unfoldable pub place_of : ℕ → ℕ → ℕ
place_of group frame = 131072 * group + frame

-- the least place at which row i of a slot may begin: 0 for row 0, else the place after the last frame of the row before
unfoldable pub least_place : List ℕ → ℕ → ℕ
least_place slot zero = 0
least_place slot (suc i) = place_of (slot_row slot i).group (slot_row slot i).last + 1
