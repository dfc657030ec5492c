-- The front of a row and a segment, in the order of all groups' frames.
use Rattle.std.specs.Prelude.{ℕ, ◌+◌, min, max, eqb, cond, Option, Some, None}
use Rattle.model.specs.Spans.{Span}
use Rattle.slot.specs.Places.{place_of}
use Rattle.compare.specs.declared.Front.{Front}

-- the places of a span's first and last frame; what lies before place p is taken off
abbrev pub first_place : ℕ → Span ℕ → ℕ
first_place p s = max (place_of s.group s.first) p

abbrev pub last_place : Span ℕ → ℕ
last_place s = place_of s.group s.last

-- where the earlier of two ends
abbrev pub end_place : Span ℕ → Span ℕ → ℕ
end_place r s = min (last_place r) (last_place s)

-- none where they do not begin together
unfoldable pub front_of : Span ℕ → Span ℕ → ℕ → Option Front
front_of r s p =
    cond (eqb (first_place p r) (first_place p s))
    (Some
    (record {
      first = first_place p s;
      next = end_place r s + 1;
      row_done = eqb (last_place r) (end_place r s);
      segment_done = eqb (last_place s) (end_place r s);
    }))
    None
