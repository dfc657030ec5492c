-- Where rows end, in the order of the frames of all groups. Assumes nothing.
use Rattle.std.specs.Prelude.{ℕ, ◌≤◌, ◌<◌, List}
use Rattle.model.specs.Slot.{slot_row}
use Rattle.slot.specs.Places.{place_of}

-- the place of the last frame of row i of a slot
unfoldable pub end_of : List ℕ → ℕ → ℕ
end_of slot i = place_of (slot_row slot i).group (slot_row slot i).last

-- the first `count` rows end in order
abbrev pub EndInOrder : List ℕ → ℕ → Type 0
EndInOrder slot count = (i j : ℕ) → i ≤ j → j < count → end_of slot i ≤ end_of slot j

-- r is the number of the first of them that does not end before a place
abbrev pub Reached : List ℕ → ℕ → ℕ → ℕ → Type 0
Reached slot count place r =
    (r ≤ count) × ((i : ℕ) → i < r → end_of slot i < place) × (r < count → place ≤ end_of slot r)
