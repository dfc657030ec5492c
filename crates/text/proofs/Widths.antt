-- What an array of rows by value tells of each row: its fields fit their types. Assumes nothing.
use Prim.Native.Nat.{ℕ, zero, suc, ◌<◌, ◌^◌}
use mathlib.Core.List.{List, [], ◌∷◌}
use native.Mathlib.Omega.{arith}
use lib.ListN.{length, get_or}
use mir.Val.{Val}
use denote.Shadow.{shadow}
use denote.Laws.{Is}
use denote.Array.{Array, each}
use denote.Struct.Declared.{row}
use Rattle.model.specs.declared.Row.{Row}
use Rattle.model.specs.contracts.Row.{the_type}

pub record Narrow (r : Row) : Type 0 where
  pub group : r.group < 2 ^ 8
  pub first : r.first < 2 ^ 16
  pub last : r.last < 2 ^ 16
  pub value : r.value < 2 ^ 32

narrow : (r : Row) (vs : List Val) → Is (row the_type) r vs → Narrow r
narrow r vs p = record { group = omega arith; first = omega arith; last = omega arith; value = omega arith }

each_narrow : (rows : List Row) (us : List Val) → shadow (each Row (row the_type).own_val rows us)
    → (i : ℕ) (r : Row) → i < length rows → Narrow (get_or rows i r)
each_narrow [] us p i r below = absurd (omega arith)
each_narrow (x ∷ rows) [] p i r below = absurd p
each_narrow (x ∷ rows) (u ∷ us) p zero r below = narrow x (u ∷ []) p.0
each_narrow (x ∷ rows) (u ∷ us) p (suc i) r below = each_narrow rows us p.1 i r (omega arith)

pub rows_narrow : (rows : List Row) (vs : List Val) → Is (Array (row the_type) 64) rows vs → (i : ℕ) (r : Row) → i < 64
    → Narrow (get_or rows i r)
rows_narrow rows vs p i r below = each_narrow rows p.0 p.1.1 i r (omega (arith, p.1.0.1))
