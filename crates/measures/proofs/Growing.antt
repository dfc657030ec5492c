-- Blocks of the code's segments: their groups play no part, and a block grows by a segment in front. Assumes nothing.
use Prim.Native.Nat.{ℕ, zero, suc, ◌-◌, ◌≤◌, ◌<◌}
use mathlib.Core.List.{[]}
use mathlib.Core.Path.{◌≡◌, refl, sym, ap, ◌∙◌, subst}
use native.Mathlib.Omega.{arith}
use lib.ListN.{get_or}
use Rattle.model.specs.Common.{list_from}
use Rattle.model.specs.Spans.{Span, span_length}
use Rattle.model.specs.Blocks.{Totals, totals, totals_of, add, block, block_error}
use Rattle.model.specs.Split.{error_of}
use Rattle.model.specs.Arrays.{span_in, segments_in}
use Rattle.model.specs.Room.{Measured, Block}
use Rattle.model.specs.declared.Segments.{Segments}
use Rattle.theory.proofs.SlotLaws.{length-list_from}
use Rattle.theory.proofs.Converse.{list_from_member}
use Rattle.theory.proofs.Lists.{list_from_cong, segment_at_lem}
use Rattle.theory.proofs.Bounds.{measured_block, totals_cons}
use Rattle.blocks.specs.Meaning.{error_from}
use Rattle.blocks.proofs.Bounds.{error_from-block}
use Rattle.measures.specs.Held.{block_in, segment_totals, Growing, Measurable}

-- ---- groups play no part

module _ (s : Segments) where
  -- the segments, with their groups
  abbrev seg : ℕ → Span ℕ
  seg = span_in s.groups s.firsts s.lasts s.values

  totals_from : (from count : ℕ) → totals (list_from from count seg) ≡ totals (list_from from count (span_in [] s.firsts s.lasts s.values))
  unfolding totals list_from span_in span_length
  totals_from from zero = refl
  totals_from from (suc count) =
      ap (add (totals_of (suc (get_or s.lasts from 0) - get_or s.firsts from 0) (get_or s.values from 0))) (totals_from (suc from) count)

  pub totals_plain : (j i : ℕ) → totals (block seg j i) ≡ totals (block_in s j i)
  unfolding block
  totals_plain j i = totals_from j (i - j)

  -- a block's error among the segments
  pub error_plain : (kind j i : ℕ) → i ≤ s.count → error_of kind (segments_in s) j i ≡ block_error kind (block_in s j i)
  unfolding error_of block segments_in
  error_plain kind j i le =
      ap (block_error kind) (list_from_cong _ seg j (i - j) (λ x lo hi. segment_at_lem seg s.count x (omega arith)))
      ∙ sym (error_from-block kind (block seg j i)) ∙ ap (error_from kind) (totals_plain j i)
      ∙ error_from-block kind (block_in s j i)

  pub measurable : Measured (segments_in s) → Measurable s s.count
  unfolding span_in segments_in
  measurable ok =
      record {
        few = omega (arith, ok.few, length-list_from 0 s.count seg);
        proper = λ i lt. ok.proper (seg i) (list_from_member seg 0 s.count i (omega arith) (omega arith));
        low_values = λ i lt. ok.low_values (seg i) (list_from_member seg 0 s.count i (omega arith) (omega arith));
        blocks = λ j i le le'. subst Block (totals_plain j i) (measured_block seg s.count ok j i le le');
      }

-- ---- a block grows

module _ {s : Segments} {n : ℕ} (ok : Measurable s n) where
  pub measurable_prefix : (i : ℕ) → i ≤ n → Measurable s i
  measurable_prefix i le =
      record {
        few = omega (arith, ok.few);
        proper = λ x lt. ok.proper x (omega arith);
        low_values = λ x lt. ok.low_values x (omega arith);
        blocks = λ j x le' le''. ok.blocks j x le' (omega arith);
      }

  -- by the segment before it
  module _ (at i : ℕ) (t : Totals) (lo : 0 < at) (hi : at ≤ i) (le : i ≤ n) (before : t ≡ totals (block_in s at i)) where
    pub grown : add (segment_totals s (at - 1)) t ≡ totals (block_in s (at - 1) i)
    unfolding segment_totals span_in
    grown =
        let next : suc (at - 1) ≡ at = omega arith in
        rw before (sym (totals_cons (span_in [] s.firsts s.lasts s.values) (at - 1) i (omega arith) ∙ rw next))

    pub growing : Growing s (at - 1) t
    growing =
        record {
          place = omega (arith, ok.few);
          proper = ok.proper (at - 1) (omega arith);
          low_value = ok.low_values (at - 1) (omega arith);
          room = rw grown (ok.blocks (at - 1) i (omega arith) le).room;
        }
