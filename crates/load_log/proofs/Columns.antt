-- The code's arrays against lists of spans: what a store does to a column, and that arrays hold the spans that they were
-- made of. Assumes nothing.
use Prim.Native.Nat.{ℕ, zero, suc, ◌+◌, ◌-◌, ◌<◌}
use mathlib.Core.List.{List, [], ◌∷◌, ◌++◌, map}
use mathlib.Core.Path.{◌≡◌, refl, sym}
use native.Mathlib.Omega.{arith}
use native.Mathlib.Nat.{zero-add}
use lib.ListN.{length, get_or, set, replicate, length-append}
use Rattle.model.specs.Common.{list_from}
use Rattle.model.specs.Spans.{Span, nowhere}
use Rattle.model.specs.Arrays.{span_in, column, records_in, record_arrays, segments_in, segment_arrays}
use Rattle.model.specs.declared.Records.{Records}
use Rattle.theory.proofs.SlotLaws.{list_from-of}
use Rattle.theory.proofs.Lists.{padded_snoc, padded_again, padded_more}

module _ {A B : Type 0} (field : A → B) where
  -- the field of the span at a place
  pub map_at : (l : List A) (rest : List B) (i : ℕ) (d : A) (e : B) → i < length l
      → get_or (map field l ++ rest) i e ≡ field (get_or l i d)
  map_at [] rest i d e lt = absurd (omega arith)
  map_at (a ∷ l) rest zero d e lt = refl
  map_at (a ∷ l) rest (suc i) d e lt = map_at l rest i d e (omega arith)

module _ (size : ℕ) (field : Span ℕ → ℕ) where
  -- a column whose last span is known
  pub column_snoc : (spans : List (Span ℕ)) (s : Span ℕ)
      → column size field (spans ++ (s ∷ [])) ≡ map field spans ++ field s ∷ replicate (size - suc (length spans)) 0
  unfolding column
  column_snoc = padded_snoc field 0 size

  -- the last span is another
  pub column_again : (spans : List (Span ℕ)) (s t : Span ℕ)
      → set (column size field (spans ++ (s ∷ []))) (length spans) (field t) ≡ column size field (spans ++ (t ∷ []))
  unfolding column
  column_again = padded_again field 0 size

  -- one span more
  pub column_more : (spans : List (Span ℕ)) (s : Span ℕ) → length spans < size
      → set (column size field spans) (length spans) (field s) ≡ column size field (spans ++ (s ∷ []))
  unfolding column
  column_more = padded_more field 0 size

-- arrays hold the spans that they were made of
columns_held : (size : ℕ) (spans : List (Span ℕ))
    → list_from 0 (length spans) (span_in (column size (λ s. s.group) spans) (column size (λ s. s.first) spans)
    (column size (λ s. s.last) spans) (column size (λ s. s.value) spans)) ≡ spans
unfolding span_in column
columns_held size spans =
    let rest : List ℕ = replicate (size - length spans) 0 in
    list_from-of nowhere 0 _ spans
    (λ i lt. rw (zero-add i) (λ j.
    record {
      group = map_at (λ s. s.group) spans rest i nowhere 0 lt j;
      first = map_at (λ s. s.first) spans rest i nowhere 0 lt j;
      last = map_at (λ s. s.last) spans rest i nowhere 0 lt j;
      value = map_at (λ s. s.value) spans rest i nowhere 0 lt j;
    }))

pub records_held : (spans : List (Span ℕ)) → records_in (record_arrays spans) ≡ spans
unfolding records_in record_arrays
records_held spans = columns_held 128 spans

pub segments_held : (spans : List (Span ℕ)) → segments_in (segment_arrays spans) ≡ spans
unfolding segments_in segment_arrays
segments_held spans = columns_held 255 spans

-- a record stored at the first free place
pub record_stored : (arrays : Records) (spans : List (Span ℕ)) (s : Span ℕ) (i : ℕ) → arrays ≡ record_arrays spans
    → length spans ≡ i → i < 128
    → ◌≡◌ {A = Records}
    (record {
      groups = set arrays.groups i s.group;
      firsts = set arrays.firsts i s.first;
      lasts = set arrays.lasts i s.last;
      loads = set arrays.loads i s.value;
      count = i + 1;
    })
    (record_arrays (spans ++ (s ∷ [])))
unfolding record_arrays
record_stored arrays spans s i held count room =
    let fits : length spans < 128 = omega arith in
    rw (held, ← count) (λ j.
    record {
      groups = column_more 128 (λ s. s.group) spans s fits j;
      firsts = column_more 128 (λ s. s.first) spans s fits j;
      lasts = column_more 128 (λ s. s.last) spans s fits j;
      loads = column_more 128 (λ s. s.value) spans s fits j;
      count = sym (length-append spans (s ∷ [])) j;
    })
