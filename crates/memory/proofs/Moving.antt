-- Arrays of records whose last frames are moved one after the other: once all are, they hold the log's records made longer, and so
-- have at width 1 what these have at the width. Assumes nothing.
use Prim.Native.Nat.{ℕ, ◌+◌, ◌-◌, ◌≤◌, ◌<◌, min}
use mathlib.Core.List.{List, map}
use mathlib.Core.Path.{◌≡◌, refl, sym, ap, ◌∙◌}
use native.Mathlib.Omega.{arith}
use lib.Dec.{eqb}
use lib.ListN.{length, get_or, set, length-set, length-append, length-map, length-replicate}
use Rattle.model.specs.Spans.{Span, group_count, frame_count}
use Rattle.model.specs.Log.{record_count, records, value}
use Rattle.model.specs.Segments.{segments_of, segments}
use Rattle.model.specs.Questions.{most_records}
use Rattle.model.specs.Calls.{log_segments}
use Rattle.model.specs.Arrays.{span_in, column, records_in, record_arrays}
use Rattle.model.specs.declared.Records.{Records}
use Rattle.theory.proofs.Memory.{later, longer, value_longer}
use Rattle.theory.proofs.Count.{length_records}
use Rattle.theory.proofs.Lists.{list_from_cong, map-list_from, after_set}
use Rattle.load_log.proofs.Columns.{records_held}
use Rattle.memory.specs.Remembered.{Remembers}

-- the last frames of the first `index` records are moved, and nothing else is
pub record Moved (width : ℕ) (was now : Records) (index : ℕ) : Type 0 where
  pub groups : now.groups ≡ was.groups
  pub firsts : now.firsts ≡ was.firsts
  pub loads : now.loads ≡ was.loads
  pub count : now.count ≡ was.count
  pub places : length now.lasts ≡ length was.lasts
  pub moved : (i : ℕ) → i < index → get_or now.lasts i 0 ≡ later width (get_or was.lasts i 0)
  pub kept : (i : ℕ) → index ≤ i → get_or now.lasts i 0 ≡ get_or was.lasts i 0

pub none_moved : (width : ℕ) (was : Records) → Moved width was was 0
none_moved width was =
    record {
      groups = refl;
      firsts = refl;
      loads = refl;
      count = refl;
      places = refl;
      moved = λ i lt. absurd (omega arith);
      kept = λ i le. refl;
    }

pub one_more : (width : ℕ) (was now : Records) (index v : ℕ) → Moved width was now index → index < length was.lasts
    → v ≡ min (get_or now.lasts index 0 + (width - 1)) 65535
    → Moved width was
    (record { groups = now.groups; firsts = now.firsts; lasts = set now.lasts index v; loads = now.loads; count = now.count })
    (index + 1)
unfolding later
one_more width was now index v m room is =
    record {
      groups = m.groups;
      firsts = m.firsts;
      loads = m.loads;
      count = m.count;
      places = length-set now.lasts index v ∙ m.places;
      moved = λ i lt.
          after_set (λ j x. j < index + 1 → x ≡ later width (get_or was.lasts j 0)) now.lasts index v (omega (arith, m.places))
          (λ below. is ∙ ap (λ x. min (x + (width - 1)) 65535) (m.kept index (omega arith))) i
          (λ other below. m.moved i (omega (arith, other))) lt;
      kept = λ i le.
          after_set (λ j x. index + 1 ≤ j → x ≡ get_or was.lasts j 0) now.lasts index v (omega (arith, m.places))
          (λ above. absurd (omega arith)) i (λ other above. m.kept i (omega arith)) le;
    }

-- the arrays of a log with few enough records: their count, and the places for last frames
pub count_and_places : (log : List ℕ) (was : Records) → record_count log ≤ most_records → was ≡ record_arrays (records log)
    → (was.count ≤ 128) × (length was.lasts ≡ 128)
unfolding record_arrays column most_records
count_and_places log was few held =
    let count = length_records log in
    let spans : List (Span ℕ) = records log in (
      rw held (omega arith),
      rw held
          (length-append (map (λ s. s.last) spans) _
          ∙ rw (length-map spans (λ s. s.last), length-replicate {A = ℕ} (128 - length spans) 0) (omega arith)),
    )

pub all_moved : (width : ℕ) (log : List ℕ) (was now : Records) → was ≡ record_arrays (records log) → was.count ≤ 128
    → Moved width was now was.count → Remembers width log now
unfolding records_in span_in longer most_records
all_moved width log was now held few m =
    let longer-held : records_in now ≡ map (longer width) (records log) =
    rw (m.groups, m.firsts, m.loads, m.count)
    (list_from_cong _ (λ i. longer width (span_in was.groups was.firsts was.lasts was.loads i)) 0 was.count
    (λ i le lt j.
    record {
      group = get_or was.groups i 0;
      first = get_or was.firsts i 0;
      last = m.moved i (omega arith) j;
      value = get_or was.loads i 0;
    })
    ∙ sym (map-list_from (longer width) _ 0 was.count)
    ∙ ap (map (longer width)) (ap records_in held ∙ records_held (records log))) in
    record {
      few = rw m.count few;
      same = λ kind. ap (value kind 1) longer-held ∙ sym (value_longer kind width (records log));
    }

-- with width 1 there is nothing to move
pub none_to_move : (width : ℕ) (log : List ℕ) (was : Records) → width ≡ 1 → was ≡ record_arrays (records log) → was.count ≤ 128
    → Remembers width log was
unfolding most_records
none_to_move width log was is held few =
    record { few = few; same = λ kind. rw is (ap (value kind 1) (ap records_in held ∙ records_held (records log))) }

-- the segments of such records at width 1 are the log's at the width
pub same_segments : (width : ℕ) (log : List ℕ) (arrays : Records) → Remembers width log arrays → (kind : ℕ)
    → segments kind 1 (records_in arrays) ≡ log_segments kind width log
unfolding segments log_segments
same_segments width log arrays r kind = ap (λ val. segments_of eqb val group_count frame_count) (r.same kind)
