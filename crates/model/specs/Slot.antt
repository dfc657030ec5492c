-- The slot: its layout, and what a slot's bytes say.
use Rattle.std.specs.Prelude.{ℕ, ◌+◌, ◌-◌, ◌*◌, cond, List, [], ◌∷◌, ◌++◌, length, get_or, replicate}
use Rattle.std.proofs.Math.Option.{Option, none, some}
use Rattle.model.specs.Common.{list_from, number_at, bytes_of}
use Rattle.model.specs.Spans.{Span, holds}

unfoldable pub slot_length : ℕ
slot_length = 768

-- a row is 11 bytes: the mark 50 52, group, first frame, last frame and value
unfoldable pub row_bytes : Span ℕ → List ℕ
row_bytes r = 0x50 ∷ 0x52 ∷ r.group ∷ (bytes_of 2 r.first ++ bytes_of 2 r.last ++ bytes_of 4 r.value)

unfoldable pub rows_bytes : List (Span ℕ) → List ℕ
rows_bytes [] = []
rows_bytes (r ∷ rs) = row_bytes r ++ rows_bytes rs

-- the second byte of a header's mark tells how the rows were made: 48 by a bound, 53 by windows
abbrev pub by_bound : ℕ
by_bound = 0x48

abbrev pub by_windows : ℕ
by_windows = 0x53

-- the header is 12 bytes: the mark 50 48 or 50 53, kind, row count and error; the rows follow
unfoldable pub used_bytes : ℕ → ℕ → ℕ → List (Span ℕ) → List ℕ
used_bytes mark kind error rows = 0x50 ∷ mark ∷ kind ∷ length rows ∷ (bytes_of 8 error ++ rows_bytes rows)

-- a whole slot: header, rows, then zeros
unfoldable pub slot_bytes : ℕ → ℕ → ℕ → List (Span ℕ) → List ℕ
slot_bytes mark kind error rows =
    used_bytes mark kind error rows ++ replicate (slot_length - length (used_bytes mark kind error rows)) 0

-- the place of a slot's row i
unfoldable pub row_place : ℕ → ℕ
row_place i = 12 + 11 * i

unfoldable pub slot_mark : List ℕ → ℕ
slot_mark slot = get_or slot 1 0

unfoldable pub slot_kind : List ℕ → ℕ
slot_kind slot = get_or slot 2 0

unfoldable pub slot_count : List ℕ → ℕ
slot_count slot = get_or slot 3 0

unfoldable pub slot_error : List ℕ → ℕ
slot_error slot = number_at 8 slot 4

unfoldable pub slot_row : List ℕ → ℕ → Span ℕ
slot_row slot i =
    record {
      group = get_or slot (row_place i + 2) 0;
      first = number_at 2 slot (row_place i + 3);
      last = number_at 2 slot (row_place i + 5);
      value = number_at 4 slot (row_place i + 7);
    }

unfoldable pub slot_rows : List ℕ → List (Span ℕ)
slot_rows slot = list_from 0 (slot_count slot) (slot_row slot)

-- the value of the first row of group g that contains frame f
unfoldable pub value_in : {A : Type 0} → List (Span A) → ℕ → ℕ → Option A
value_in [] g f = none
value_in (r ∷ rs) g f = cond (holds r g f) (some r.value) (value_in rs g f)
