-- The code's arrays as lists of spans, and back: what each place holds, zeros past the last span.
use Rattle.std.specs.Prelude.{ℕ, ◌-◌, List, ◌++◌, map, length, get_or, replicate}
use Rattle.model.specs.Common.{list_from}
use Rattle.model.specs.Spans.{Span, nowhere}
use Rattle.model.specs.Calls.{row_span, row_of_span}
use Rattle.model.specs.declared.Records.{Records}
use Rattle.model.specs.declared.Segments.{Segments}
use Rattle.model.specs.declared.Row.{Row}

-- span i, from a list for each field
unfoldable pub span_in : List ℕ → List ℕ → List ℕ → List ℕ → ℕ → Span ℕ
span_in groups firsts lasts values i =
    record { group = get_or groups i 0; first = get_or firsts i 0; last = get_or lasts i 0; value = get_or values i 0 }

-- the first `count` spans, from a list for each field
abbrev pub spans_in : List ℕ → List ℕ → List ℕ → List ℕ → ℕ → List (Span ℕ)
spans_in groups firsts lasts values count = list_from 0 count (span_in groups firsts lasts values)

-- segment i
abbrev pub segment_in : Segments → ℕ → Span ℕ
segment_in s = span_in s.groups s.firsts s.lasts s.values

-- `size` places: one field of each span, then zeros
unfoldable pub column : ℕ → (Span ℕ → ℕ) → List (Span ℕ) → List ℕ
column size field spans = map field spans ++ replicate (size - length spans) 0

unfoldable pub records_in : Records → List (Span ℕ)
records_in r = spans_in r.groups r.firsts r.lasts r.loads r.count

unfoldable pub record_arrays : List (Span ℕ) → Records
record_arrays spans =
    record {
      groups = column 128 (λ s. s.group) spans;
      firsts = column 128 (λ s. s.first) spans;
      lasts = column 128 (λ s. s.last) spans;
      loads = column 128 (λ s. s.value) spans;
      count = length spans;
    }

unfoldable pub segments_in : Segments → List (Span ℕ)
segments_in s = spans_in s.groups s.firsts s.lasts s.values s.count

unfoldable pub segment_arrays : List (Span ℕ) → Segments
segment_arrays spans =
    record {
      groups = column 255 (λ s. s.group) spans;
      firsts = column 255 (λ s. s.first) spans;
      lasts = column 255 (λ s. s.last) spans;
      values = column 255 (λ s. s.value) spans;
      count = length spans;
    }

-- the first `count` rows of an array of rows
unfoldable pub rows_in : List Row → ℕ → List (Span ℕ)
rows_in rows count = list_from 0 count (λ i. row_span (get_or rows i (row_of_span nowhere)))

-- the 64 places of an array of rows: these, then rows of zeros
unfoldable pub row_array : List (Span ℕ) → List Row
row_array rows = map row_of_span rows ++ replicate (64 - length rows) (row_of_span nowhere)
