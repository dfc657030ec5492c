-- Rows that end in order, halved: what a row in the middle tells of those before it and behind it. Assumes nothing.
use Prim.Native.Nat.{ℕ, ◌+◌, ◌-◌, ◌/◌, ◌≤◌, ◌<◌}
use mathlib.Core.List.{List}
use native.Mathlib.Omega.{arith}
use Rattle.lookups.specs.Ends.{end_of, EndInOrder}

module _ (slot : List ℕ) (count place : ℕ) where
  -- rows below `at` end before the place, and those behind the `size` from there on do not
  abbrev pub Between : ℕ → ℕ → Type 0
  Between at size =
      (at + size ≤ count)
      × ((i : ℕ) → i < at → end_of slot i < place)
      × ((i : ℕ) → at + size ≤ i → i < count → place ≤ end_of slot i)

  module _ (ends : EndInOrder slot count) (at size : ℕ) (some : 0 < size) (between : Between at size) where
    -- the row in the middle
    abbrev middle : ℕ
    middle = at + (size - size / 2) - 1

    -- it ends before the place: the upper half
    pub upper : end_of slot middle < place → Between (at + (size - size / 2)) (size / 2)
    upper before = (
      omega (arith, between.0),
      λ i lt. let up = ends i middle (omega (arith, lt)) (omega (arith, some, between.0)) in omega (arith, up, before),
      λ i le lt. between.2 i (omega (arith, le)) lt,
    )

    -- it does not: the lower half
    pub lower : place ≤ end_of slot middle → Between at (size / 2)
    lower reaches = (
      omega (arith, between.0),
      between.1,
      λ i le lt. let up = ends middle i (omega (arith, le, some)) lt in omega (arith, up, reaches),
    )
