-- What the tool owes its user, as statements about the definitions. The proofs are in the crate `theory`; the calls of the
-- tool promise to answer as the definitions do, so that each statement is one about the calls.
use Rattle.std.specs.Prelude.{ℕ, suc, ◌+◌, ◌-◌, ◌*◌, ◌^◌, ◌≤◌, ◌<◌, min, true, false, ◌⊎◌, ◌↔◌, ◌≡◌, ℤ, length, get_or, take, drop}
use mathlib.Core.List.{List, [], ◌∷◌, ◌++◌, map, Memᴰ, Permᴰ}
use Rattle.std.proofs.Math.Option.{Option, none, some}
use Rattle.model.specs.Common.{sum_of, list_from, joined}
use Rattle.model.specs.Spans.{Span, group_count, frame_count, span_length, meets, adjacent}
use Rattle.model.specs.Log.{record_length, record_at, record_count, records, record_part, without_twins, meeting, sum, greatest_kind, aggregated, value}
use Rattle.model.specs.Blocks.{segment_at, gap, totals, row_value, error_with, block_error}
use Rattle.model.specs.Split.{Reduced, error_of, gap_below, runs, rows_of, most_rows}
use Rattle.model.specs.Reductions.{IsReduction, Merges, IsAnswer, reduction_error}
use Rattle.model.specs.Windows.{bound_in}
use Rattle.model.specs.Slot.{slot_length, by_bound, by_windows, slot_bytes, slot_mark, value_in}
use Rattle.model.specs.Questions.{Question, Outcome, refused, accepted, kind_known, bound_known, width_known, row_known, follows}
use Rattle.model.specs.Questions.{file_questions, log_questions, without_twins_questions, order_questions, write_questions, segments_questions, query_questions, slot_questions, lookup_questions, most_segments}
use Rattle.model.specs.Questions.{rule_question, width_questions, query_by, with_bound, window_rows, ruled_order, ruled_questions}
use Rattle.model.specs.Calls.{Counts, Header, write_outcome, written_buffer, without_twins_outcome, without_twins_buffer, segments_outcome, filled_list, log_segments, query_segments, query_outcome, query_slot, answer_of, counts_of, read_outcome, read_rows, read_list_questions, read_list_outcome, read_list, step_outcome, step_next, lookup_outcome}
use Rattle.model.specs.Calls.{ruled_outcome, ruled_slot, beat_query}
use Rattle.model.specs.Calls.{cuts_weighed, query_weighed, bound_of, by_letter_questions, letter_outcome, letter_slot, letter_weighed}
use Rattle.model.specs.LowerHalves.{lower_value, lower_error, lower_error_of, lower_answer, lower_outcome}
use Rattle.model.specs.Guarantee.{Choices, LeastOfFewest, BestRows, NoRows}
use Rattle.model.specs.Fitting.{hits, due, AtMost, FitsFor, whole, row_lists}
use Rattle.model.specs.Check.{check_questions, check_outcome}
use Rattle.model.specs.NoMemory.{plain_value, plain_segments_outcome, plain_list, plain_outcome, plain_slot, plain_check}
use Rattle.model.specs.Lookups.{most_pairs, lookups_questions, lookups_outcome, value_shown, covered_shown, lookups_values, lookups_covered}
use Rattle.model.specs.declared.Bound.{Bound}
use Rattle.model.specs.declared.Bound.TheVariants as bound
use Rattle.model.specs.declared.Query.{Query}
use Rattle.model.specs.declared.Rule.{Rule}
use Rattle.model.specs.declared.Rule.TheVariants.{Rows, Share, Every, Scenes}
use Rattle.model.specs.declared.RuledQuery.{RuledQuery}
use Rattle.model.specs.declared.Segment.{Segment}
use Rattle.model.specs.declared.Row.{Row}

-- Demand 1. Every function of the tool is proved to end without fault; what is left to say is what a refusal is.

abbrev pub AllPass : List Question → Type 0
AllPass questions = (q : Question) → Memᴰ q questions → q.passed ≡ true

-- the first question that is answered 'no' has this number and index
pub record FirstNo (questions : List Question) (number index : ℕ) : Type 0 where
  pub before : List Question
  pub failed : Question
  pub after : List Question
  pub parts : questions ≡ before ++ (failed ∷ after)
  pub passed : AllPass before
  pub denied : failed.passed ≡ false
  pub numbered : failed.number ≡ number
  pub indexed : failed.index ≡ index

-- a call with these questions: it is refused with its first 'no', and then what was lent is as it was; it is accepted where
-- every question is passed
pub record Asks {A B : Type 0} (questions : List Question) (says : Outcome A) (was is : B) : Type 0 where
  pub refusal : (number index : ℕ) → says ≡ refused number index → FirstNo questions number index × (is ≡ was)
  pub acceptance : (a : A) → says ≡ accepted a → AllPass questions

pub record Demand1 : Type 0 where
  pub write : (r : Span ℕ) (buffer : List ℕ)
      → Asks (write_questions r (length buffer)) (write_outcome r (length buffer)) buffer (written_buffer r buffer)
  pub without_twins : (log buffer : List ℕ)
      → Asks (without_twins_questions log (length buffer)) (without_twins_outcome log (length buffer)) buffer
      (without_twins_buffer log buffer)
  pub segments : (kind width : ℕ) (log : List ℕ) (list : List Segment)
      → Asks (segments_questions kind width log (length list)) (segments_outcome kind width log (length list)) list
      (filled_list kind width log list)
  pub query : (q : Query) (log slot : List ℕ)
      → Asks (query_questions q log (length slot)) (query_outcome q log (length slot)) slot (query_slot q log slot)
  pub ruled : (q : RuledQuery) (log slot : List ℕ)
      → Asks (ruled_questions q log (length slot)) (ruled_outcome q log (length slot)) slot (ruled_slot q log slot)
  pub letter : (kind letter x width : ℕ) (log slot : List ℕ)
      → Asks (by_letter_questions kind letter x width log (length slot)) (letter_outcome kind letter x width log (length slot)) slot
      (letter_slot kind letter x width log slot)
  pub read : (slot : List ℕ) → Asks (slot_questions slot) (read_outcome slot) slot slot
  pub read_list : (slot : List ℕ) (list : List Row)
      → Asks (read_list_questions slot (length list)) (read_list_outcome slot (length list)) list (read_list slot list)
  pub step : (slot : List ℕ) (number : ℕ)
      → Asks (slot_questions slot) (step_outcome slot number) number (step_next slot number)
  pub lookup : (slot : List ℕ) (group frame : ℕ)
      → Asks (lookup_questions slot group) (lookup_outcome slot group frame) slot slot
  pub check : (width : ℕ) (log slot : List ℕ)
      → Asks (check_questions width log slot) (check_outcome width log slot) slot slot
  pub lookups : (slot groups frames values covered : List ℕ)
      → Asks {B = List ℕ × List ℕ} (lookups_questions slot groups (length frames) (length values) (length covered))
      (lookups_outcome slot groups (length frames) (length values) (length covered)) (values, covered)
      (lookups_values slot groups frames values covered, lookups_covered slot groups frames values covered)

-- Demand 2.

-- one span stands before another: by group, then by first frame, with no frame in common
abbrev pub Before : Span ℕ → Span ℕ → Type 0
Before s t = (s.group < t.group) ⊎ ((s.group ≡ t.group) × (s.last < t.first))

-- the spans are the longest stretches of consecutive covered frames of one group with equal value, in order, so that
-- neighbours in a run differ in value
pub record Segmentation (val : ℕ → ℕ → Option ℕ) (segs : List (Span ℕ)) : Type 0 where
  pub ordered : (s : Span ℕ) → Memᴰ s segs → s.first ≤ s.last
  pub constant : (s : Span ℕ) → Memᴰ s segs → (f : ℕ) → s.first ≤ f → f ≤ s.last
      → val s.group f ≡ some s.value
  pub exact : (g f : ℕ) → hits segs g f ≡ due (val g f)
  pub sorted : (i : ℕ) → suc i < length segs → Before (segment_at segs i) (segment_at segs (suc i))
  pub longest : (s : Span ℕ) → Memᴰ s segs
      → (val s.group (suc s.last) ≡ some s.value → ⊥)
      × ((f : ℕ) → suc f ≡ s.first → val s.group f ≡ some s.value → ⊥)
  pub differ : (i : ℕ) → suc i < length segs → adjacent (segment_at segs i) (segment_at segs (suc i)) ≡ true
      → (segment_at segs i).value ≡ (segment_at segs (suc i)).value → ⊥

-- v is the mean of these loads in hundredths: at most 100,000, not above the true mean, and less than one hundredth below it
pub record MeanInHundredths (loads : List ℕ) (v : ℕ) : Type 0 where
  pub most : v ≤ 100000
  pub not_above : v * length loads ≤ 100 * sum loads
  pub less_than_one_below : 100 * sum loads < suc v * length loads

-- the rows and error of a reduction with these cuts, where blocks have these row values and errors
pub record CutBy (value_of : List (Span ℕ) → ℕ) (err : ℕ → ℕ → ℕ) (segs : List (Span ℕ)) (a : Reduced) (cuts : List ℕ) : Type 0 where
  pub rows : a.rows ≡ rows_of value_of (segment_at segs) (length segs) cuts
  pub error : a.error ≡ reduction_error err (length segs) cuts

-- by the kind's row values
abbrev pub Cut : ℕ → List (Span ℕ) → Reduced → List ℕ → Type 0
Cut kind segs a cuts = CutBy (row_value kind) (error_of kind segs) segs a cuts

-- and by those of before halves went up
abbrev pub LowerCut : ℕ → List (Span ℕ) → Reduced → List ℕ → Type 0
LowerCut kind segs a cuts = CutBy (lower_value kind) (lower_error_of kind segs) segs a cuts

-- the reduction that a bound asks for, of these segments
abbrev pub Reduces : ℕ → Bound → List (Span ℕ) → List ℕ → Type 0
Reduces kind bound segs cuts = IsAnswer (error_of kind segs) (gap_below segs) (length segs) (runs segs) bound cuts

-- the windows of a rule, from frame a to frame b. Every `length` frames from frame `start` on: those that begin at a frame, the
-- last cut off at 65,535. Scenes: those given. A bound has none.
abbrev pub WindowOf : Rule → List ℕ → List ℕ → ℕ → ℕ → Type 0
WindowOf (Rows c) firsts lasts a b = ⊥
WindowOf (Share p) firsts lasts a b = ⊥
WindowOf (Every length start) firsts lasts a b =
    (i : ℕ) × (a ≡ start + length * i) × (a < frame_count) × (suc b ≡ min (a + length) frame_count)
WindowOf (Scenes count) firsts lasts a b =
    (i : ℕ) × (i < count) × (a ≡ get_or firsts i 0) × (b ≡ get_or lasts i 0)

abbrev pub IsWindow : RuledQuery → ℕ → ℕ → Type 0
IsWindow q a b = WindowOf q.rule q.firsts q.lasts a b

-- the span aggregation of a log. Every row is one of a group and a window, with the window's own first and last frame and the
-- kind's aggregate over all records of the group that meet the window. Every window that some record of a group meets has its row.
-- The rows stand by group, then by window.
pub record SpanAggregation (q : RuledQuery) (log : List ℕ) (rows : List (Span ℕ)) : Type 0 where
  pub is_due : (r : Span ℕ) → Memᴰ r rows
      → (r.group < group_count) × IsWindow q r.first r.last
      × (aggregated q.kind (meeting (records log) r.group r.first r.last) ≡ some r.value)
  pub is_there : (g a b : ℕ) → g < group_count → IsWindow q a b
      → (m : Span ℕ) → Memᴰ m (records log) → meets m g a b ≡ true
      → (v : ℕ) × Memᴰ (record { group = g; first = a; last = b; value = v }) rows
  pub sorted : (i : ℕ) → suc i < length rows → Before (segment_at rows i) (segment_at rows (suc i))

-- what a slot can hold, by a bound or, without an error, by windows
pub record Storable (mark kind error : ℕ) (rows : List (Span ℕ)) : Type 0 where
  pub made : (mark ≡ by_bound) ⊎ ((mark ≡ by_windows) × (error ≡ 0))
  pub known : kind_known kind ≡ true
  pub error64 : error < 2 ^ 64
  pub count : length rows ≤ most_rows
  pub rows_known : (r : Span ℕ) → Memᴰ r rows → (row_known r ≡ true) × (r.last < 2 ^ 16)
  pub sorted : (i : ℕ) → suc i < length rows → follows (segment_at rows (suc i)) (segment_at rows i) ≡ true

abbrev pub Bytes : List ℕ → Type 0
Bytes bytes = (i : ℕ) → get_or bytes i 0 < 256

-- the slot is read to this header, kind, error and rows
pub record Reads (slot : List ℕ) (mark kind error : ℕ) (rows : List (Span ℕ)) : Type 0 where
  pub header : read_outcome slot ≡ accepted (record { mark = mark; kind = kind; error = error; rows = length rows })
  pub body : read_rows slot ≡ rows

pub record Demand2 : Type 0 where
  -- these hold at every width
  pub segmentation : (kind width : ℕ) (log : List ℕ)
      → Segmentation (value kind width (records log)) (log_segments kind width log)
  -- and these of every log that passes 4 to 9, with twins or without
  pub count : (kind width : ℕ) (log : List ℕ) → AllPass (file_questions log) → length (log_segments kind width log) ≤ most_segments
  -- kind 4 of a frame is the mean of the loads of the records that contain at least one of the last `width` frames
  pub mean : (width : ℕ) (log : List ℕ) → AllPass (file_questions log) → (g f v : ℕ) → value 4 width (records log) g f ≡ some v
      → MeanInHundredths (meeting (records log) g (f - (width - 1)) f) v
  -- the sum over records keeps to width 1
  pub conserved : (log : List ℕ) → Bytes log → AllPass (file_questions log)
      → sum_of (λ s. span_length s * s.value) (log_segments 0 1 log)
      ≡ sum_of (λ r. span_length r * r.value) (records log)
  pub merging : (kind width : ℕ) (log cuts : List ℕ)
      → IsReduction (gap_below (log_segments kind width log)) (length (log_segments kind width log)) cuts
      ↔ Merges (gap (segment_at (log_segments kind width log))) (length (log_segments kind width log)) cuts
  -- no whole number that the kind allows has a smaller squared error than a block's row value: every one but for kind 3, and for
  -- that those that no value of the block is above
  pub least : (kind : ℕ) (b : List (Span ℕ)) (z : ℤ)
      → ((s : Span ℕ) → Memᴰ s b → kind ≡ greatest_kind → AtMost s.value z) → block_error kind b ≤ error_with z b
  -- a block's row value lies between the least and the greatest value in it, and for kind 3 it is the greatest
  pub between : (kind lo hi : ℕ) (b : List (Span ℕ)) → 0 < (totals b).frames
      → ((s : Span ℕ) → Memᴰ s b → (lo ≤ s.value) × (s.value ≤ hi)) → (lo ≤ row_value kind b) × (row_value kind b ≤ hi)
  pub greatest : (b : List (Span ℕ)) (s : Span ℕ) → Memᴰ s b → s.value ≤ row_value greatest_kind b
  pub reduction : (q : Query) (log : List ℕ) (room : ℕ) (counts : Counts) → query_outcome q log room ≡ accepted counts
      → (cuts : List ℕ) × Cut q.kind (query_segments q log) (answer_of q log) cuts
      × Reduces q.kind q.bound (query_segments q log) cuts × (counts_of (answer_of q log) ≡ counts)
  -- the empty log gives 0 rows and error 0, for every kind, every bound that passes question 3 and every width that passes 25
  pub empty_log : (q : Query) (room : ℕ) → slot_length ≤ room → kind_known q.kind ≡ true → bound_known q.bound ≡ true
      → width_known q.width ≡ true
      → (answer_of q [] ≡ record { rows = []; error = 0; weighed = 0 })
      × (query_outcome q [] room ≡ accepted (record { rows = 0; error = 0; weighed = 0 }))
  pub written : (q : Query) (log slot : List ℕ) (counts : Counts) → query_outcome q log (length slot) ≡ accepted counts
      → Reads (query_slot q log slot) by_bound q.kind (answer_of q log).error (answer_of q log).rows
  pub round_trip : (mark kind error : ℕ) (rows : List (Span ℕ)) (rest : List ℕ) → Storable mark kind error rows
      → Reads (slot_bytes mark kind error rows ++ rest) mark kind error rows
  -- slots that were written before still read: of logs with twins too, with the lower number at a half and, whatever the kind, by
  -- the rule of any kind, as those of kind 3 held nearest whole numbers at first
  pub still_read : (rule kind : ℕ) (log cuts rest : List ℕ) (a : Reduced) → kind_known kind ≡ true
      → AllPass (file_questions log) → LowerCut rule (log_segments kind 1 log) a cuts
      → IsReduction (gap_below (log_segments kind 1 log)) (length (log_segments kind 1 log)) cuts → length cuts ≤ most_rows
      → Reads (slot_bytes by_bound kind a.error a.rows ++ rest) by_bound kind a.error a.rows
  pub layout : (slot : List ℕ) (header : Header) → Bytes slot → read_outcome slot ≡ accepted header
      → take slot_length slot ≡ slot_bytes header.mark header.kind header.error (read_rows slot)
  -- rows by windows that pass 18 or 19 are the span aggregation of the log, and nothing else is
  pub windows : (q : RuledQuery) (log : List ℕ) → bound_in q.rule ≡ none → (rule_question q).passed ≡ true
      → (rows : List (Span ℕ)) → SpanAggregation q log rows ↔ (rows ≡ window_rows q log)
  -- windows of one frame give the frames' own values
  pub frame_by_frame : (kind start : ℕ) (log : List ℕ) (g f : ℕ) → start ≤ f
      → value_in (window_rows (beat_query kind 1 start) log) g f ≡ value kind 1 (records log) g f

-- Twin records: no log that is accepted holds a record twice, and what is written of a log on file.

-- no two records of a log have the same nine bytes
abbrev pub Distinct : List ℕ → Type 0
Distinct log = (i j : ℕ) → i < j → j < record_count log → record_part log i ≡ record_part log j → ⊥

-- these nine bytes appear in a log first as the record with index i
pub record FirstAt (log part : List ℕ) (i : ℕ) : Type 0 where
  pub inside : i < record_count log
  pub same : record_part log i ≡ part
  pub not_before : (j : ℕ) → j < i → record_part log j ≡ part → ⊥

-- whole records, no two of them equal: every record of the log and no other, in the order in which they first appear in it
pub record EachOnce (log out : List ℕ) : Type 0 where
  pub whole : length out ≡ record_length * record_count out
  pub once : Distinct out
  pub all : (i : ℕ) → i < record_count log → (k : ℕ) × (k < record_count out) × (record_part out k ≡ record_part log i)
  pub only : (k : ℕ) → k < record_count out → (i : ℕ) × FirstAt log (record_part out k) i
  pub in_order : (k l i j : ℕ) → k < l → l < record_count out → FirstAt log (record_part out k) i
      → FirstAt log (record_part out l) j → i < j

pub record TwinRecords : Type 0 where
  -- a log passes its questions exactly where it passes those of a log on file and no two of its records are equal
  pub exactly : (log : List ℕ) → AllPass (log_questions log) ↔ (AllPass (file_questions log) × Distinct log)
  -- so that no two of the records are equal that the values of its frames are made of
  pub none_twice : (log : List ℕ) → Bytes log → AllPass (log_questions log) → (i j : ℕ) → i < j → j < record_count log
      → record_at log (record_length * i) ≡ record_at log (record_length * j) → ⊥
  -- what is written of a log on file holds each of its records once, in the order of first appearance, and nothing else does
  pub each_once : (log out : List ℕ) → EachOnce log out ↔ (out ≡ without_twins log)
  -- it passes every question of a log
  pub passes : (log : List ℕ) → AllPass (file_questions log) → AllPass (log_questions (without_twins log))
  -- whole records no two of which are equal come out byte for byte
  pub unchanged : (log : List ℕ) → length log ≡ record_length * record_count log → Distinct log → without_twins log ≡ log
  -- twice is once
  pub twice : (log : List ℕ) → without_twins (without_twins log) ≡ without_twins log

-- Any order of the log: records that arrive shuffled give what they give in any other order.

-- two logs hold the same records, in whatever order
abbrev pub SameRecords : List ℕ → List ℕ → Type 0
SameRecords log other = Permᴰ (records log) (records other)

-- two logs that pass every question and hold the same records
pub record Shuffled (log other : List ℕ) : Type 0 where
  pub passes : AllPass (log_questions log)
  pub other_passes : AllPass (log_questions other)
  pub same_records : SameRecords log other

-- two queries that answer so and leave these slots: both are accepted, with as many rows, the same error and as many cuts weighed,
-- and the first 768 bytes of their slots are equal; or both are refused with the same one of 10 and 20
abbrev pub SameAnswer : Outcome Counts → List ℕ → Outcome Counts → List ℕ → Type 0
SameAnswer says slot otherSays otherSlot =
    ((counts : Counts) × (says ≡ accepted counts) × (otherSays ≡ accepted counts)
    × (take slot_length slot ≡ take slot_length otherSlot))
    ⊎ ((number : ℕ) × ((number ≡ 10) ⊎ (number ≡ 20)) × (says ≡ refused number 0) × (otherSays ≡ refused number 0))

pub record AnyOrder : Type 0 where
  -- logs that pass hold the same records exactly where each record of the one is a record of the other
  pub same_records : (log other : List ℕ) → Bytes log → Bytes other → AllPass (log_questions log) → AllPass (log_questions other)
      → SameRecords log other ↔ ((r : Span ℕ) → Memᴰ r (records log) ↔ Memᴰ r (records other))
  -- the records of a log that passes, nine bytes each, put one after the other by any order of their indices, are such another log
  pub any_shuffle : (log indices : List ℕ) → AllPass (log_questions log)
      → Permᴰ (list_from 0 (record_count log) (λ i. i)) indices → Shuffled log (joined (record_part log) indices)
  pub segments : (kind width : ℕ) (log other : List ℕ) → Shuffled log other
      → log_segments kind width log ≡ log_segments kind width other
  -- every query in order itself, by a bound or by windows, with slots long enough
  pub query : (q : RuledQuery) (log other slot otherSlot : List ℕ) → Shuffled log other
      → kind_known q.kind ≡ true → (rule_question q).passed ≡ true → AllPass (width_questions q)
      → slot_length ≤ length slot → slot_length ≤ length otherSlot
      → SameAnswer (ruled_outcome q log (length slot)) (ruled_slot q log slot)
      (ruled_outcome q other (length otherSlot)) (ruled_slot q other otherSlot)

-- Halves go up: what the upper number at a half changes, and what comes out equal. What was before is in `LowerHalves`, asked the
-- questions of now.

-- the mean of a block's values lies half way between k and k + 1
abbrev pub HalfAbove : ℕ → List (Span ℕ) → Type 0
HalfAbove k b = (0 < (totals b).frames) × (2 * (totals b).sum ≡ (2 * k + 1) * (totals b).frames)

-- the row of a block now, and before: the same frames of the same group, with the value that it had or, at a half, one more
pub record Risen (block : List (Span ℕ)) (row before : Span ℕ) : Type 0 where
  pub group : row.group ≡ before.group
  pub first : row.first ≡ before.first
  pub last : row.last ≡ before.last
  pub value : (row.value ≡ before.value) ⊎ ((row.value ≡ suc before.value) × HalfAbove before.value block)

-- block by block, each with its row now and its row before
abbrev pub AllRisen : List (List (Span ℕ)) → List (Span ℕ) → List (Span ℕ) → Type 0
AllRisen [] rows before = (rows ≡ []) × (before ≡ [])
AllRisen (block ∷ blocks) [] before = ⊥
AllRisen (block ∷ blocks) (r ∷ rs) [] = ⊥
AllRisen (block ∷ blocks) (r ∷ rs) (b ∷ bs) = Risen block r b × AllRisen blocks rs bs

-- the blocks of a reduction with these cuts, the first block first
abbrev pub blocks_of : List (Span ℕ) → List ℕ → List (List (Span ℕ))
blocks_of segs cuts = map (λ r. r.value) (rows_of (λ b. b) (segment_at segs) (length segs) cuts)

pub record HalvesUp : Type 0 where
  -- at a half, for every kind but 3, the row value is the upper one of the two nearest whole numbers, and was the lower one
  pub at_half : (kind k : ℕ) (b : List (Span ℕ)) → (kind ≡ greatest_kind → ⊥) → HalfAbove k b
      → (row_value kind b ≡ suc k) × (lower_value kind b ≡ k)
  -- for kind 3, and where there is no half, it is what it was
  pub elsewhere : (kind : ℕ) (b : List (Span ℕ)) → (kind ≡ greatest_kind) ⊎ ((k : ℕ) → HalfAbove k b → ⊥)
      → row_value kind b ≡ lower_value kind b
  -- every block has the error that it had
  pub same_error : (kind : ℕ) (b : List (Span ℕ)) → block_error kind b ≡ lower_error kind b
  -- every query is refused as it was, or has the number of rows, the error and the cuts weighed that it had
  pub same_outcome : (q : Query) (log : List ℕ) (room : ℕ) → query_outcome q log room ≡ lower_outcome q log room
  -- the same cuts, and so rows of the same frames, none of which has fallen, or risen by more than 1 or but at a half
  pub same_cuts : (q : Query) (log : List ℕ) (room : ℕ) (counts : Counts) → query_outcome q log room ≡ accepted counts
      → (cuts : List ℕ) × Cut q.kind (query_segments q log) (answer_of q log) cuts
      × LowerCut q.kind (query_segments q log) (lower_answer q log) cuts
      × AllRisen (blocks_of (query_segments q log) cuts) (answer_of q log).rows (lower_answer q log).rows

-- Demand 3.

-- the lists of rows that fit a log, by the values of a kind and a width
abbrev pub lists_for : ℕ → ℕ → List ℕ → Choices (List (Span ℤ))
lists_for kind width log = row_lists kind (value kind width (records log))

-- the slot is read to rows and an error that are the paper's answer to the query, and best
pub record BestSlot (q : Query) (log slot : List ℕ) : Type 0 where
  pub error : ℕ
  pub rows : List (Span ℕ)
  pub reads : Reads slot by_bound q.kind error rows
  pub answer_error : error ≡ (answer_of q log).error
  pub answer_rows : rows ≡ (answer_of q log).rows
  pub best : BestRows (lists_for q.kind q.width log) q.bound error (map whole rows)

-- rows of kind 3 never fall short of a log: for every covered frame they have a number, which is at least the frame's value
abbrev pub NeverShort : Query → List ℕ → List (Span ℕ) → Type 0
NeverShort q log rows =
    q.kind ≡ greatest_kind → (g f v : ℕ) → value q.kind q.width (records log) g f ≡ some v
    → (r : ℕ) × (value_in rows g f ≡ some r) × (v ≤ r)

-- 'too few rows' is said exactly where no rows do
abbrev pub SaysTooFew : Query → List ℕ → Outcome Counts → Type 0
SaysTooFew q log says = (says ≡ refused 10 0) ↔ NoRows (lists_for q.kind q.width log) q.bound

pub record Demand3 : Type 0 where
  pub best : (q : Query) (log slot : List ℕ) (counts : Counts) → query_outcome q log (length slot) ≡ accepted counts
      → BestSlot q log (query_slot q log slot)
  pub never_short : (q : Query) (log slot : List ℕ) (counts : Counts) → query_outcome q log (length slot) ≡ accepted counts
      → NeverShort q log (read_rows (query_slot q log slot))
  pub too_few : (q : Query) (log slot : List ℕ) → slot_length ≤ length slot → AllPass (order_questions q log)
      → SaysTooFew q log (query_outcome q log (length slot))
  -- with no covered frame only the list of 0 rows fits
  pub uncovered : (kind : ℕ) (val : ℕ → ℕ → Option ℕ) → ((g f : ℕ) → val g f ≡ none)
      → (rows : List (Span ℤ)) → FitsFor kind val rows ↔ (rows ≡ [])
  -- there is exactly one least squared error among the fitting lists with the fewest rows, so that every list is within the
  -- share or exceeds it
  pub one_least : (kind width : ℕ) (log : List ℕ)
      → (L : ℕ) × LeastOfFewest (lists_for kind width log) L × ((M : ℕ) → LeastOfFewest (lists_for kind width log) M → M ≡ L)

-- A slot against its log.

-- the width is known, the log passes its questions, the slot is read as one by a bound, and its rows are a list that fits the log for
-- its kind and the width, with its error as their squared error
pub record Agrees (width : ℕ) (log slot : List ℕ) : Type 0 where
  pub kind : ℕ
  pub error : ℕ
  pub rows : List (Span ℕ)
  pub known : width_known width ≡ true
  pub log_passes : AllPass (log_questions log)
  pub reads : Reads slot by_bound kind error rows
  pub fits : (lists_for kind width log).fits (map whole rows)
  pub has_error : (lists_for kind width log).error (map whole rows) ≡ error

-- the slot is no better than the tool's own: a query of its kind and of the width, for as many rows as it has, is accepted, with no
-- more rows and no greater an error
pub record NoBetter (width : ℕ) (log slot : List ℕ) (room : ℕ) : Type 0 where
  pub kind : ℕ
  pub error : ℕ
  pub rows : List (Span ℕ)
  pub reads : Reads slot by_bound kind error rows
  pub own : Counts
  pub answers : query_outcome (query_by kind (bound.Rows (length rows)) width) log room ≡ accepted own
  pub as_many_rows : own.rows ≤ length rows
  pub as_great_an_error : own.error ≤ error

pub record SlotAgainstLog : Type 0 where
  -- a slot is accepted exactly if it agrees with its log
  pub exactly : (width : ℕ) (log slot : List ℕ) → Bytes slot
      → (check_outcome width log slot ≡ accepted tt) ↔ Agrees width log slot
  -- whatever rows fit, cut as they may be, pass in a slot with their squared error
  pub whatever_fits : (width : ℕ) (log rest : List ℕ) (kind error : ℕ) (rows : List (Span ℕ)) → width_known width ≡ true
      → AllPass (log_questions log) → Storable by_bound kind error rows → (lists_for kind width log).fits (map whole rows)
      → (lists_for kind width log).error (map whole rows) ≡ error
      → check_outcome width log (slot_bytes by_bound kind error rows ++ rest) ≡ accepted tt
  -- so does every slot that the tool writes by a bound, with the log that it was written for and the query's width
  pub written : (q : Query) (log slot : List ℕ) (counts : Counts) → query_outcome q log (length slot) ≡ accepted counts
      → check_outcome q.width log (query_slot q log slot) ≡ accepted tt
  -- no slot that passes is better than the tool's own of the same width
  pub no_better : (width : ℕ) (log slot : List ℕ) → Bytes slot → check_outcome width log slot ≡ accepted tt
      → (room : ℕ) → slot_length ≤ room → NoBetter width log slot room
  -- a slot by windows is refused as 11, once width and log have passed
  pub not_by_windows : (width : ℕ) (log slot : List ℕ) → slot_length ≤ length slot → width_known width ≡ true
      → AllPass (log_questions log) → slot_mark slot ≡ by_windows → check_outcome width log slot ≡ refused 11 0
  -- any order of the log gives the same answer
  pub any_order : (width : ℕ) (log other slot : List ℕ) → Shuffled log other
      → check_outcome width log slot ≡ check_outcome width other slot

-- A memory.

-- the record is of group g and contains at least one of the last `width` frames up to frame f, itself included
abbrev pub Remembered : Span ℕ → ℕ → ℕ → ℕ → Type 0
Remembered r width g f =
    (r.group ≡ g) × ((e : ℕ) × (r.first ≤ e) × (e ≤ r.last) × (e ≤ f) × (f < e + width))

-- a query by a rule with another width
abbrev pub with_width : ℕ → RuledQuery → RuledQuery
with_width width q = record { kind = q.kind; rule = q.rule; width = width; firsts = q.firsts; lasts = q.lasts }

pub record Memory : Type 0 where
  -- the loads of a frame's value are those of the remembered records
  pub remembered : (r : Span ℕ) (width g f : ℕ) → r.first ≤ r.last → 1 ≤ width
      → (meets r g (f - (width - 1)) f ≡ true) ↔ Remembered r width g f
  -- a frame is covered exactly if there is such a record
  pub covered : (kind width : ℕ) (log : List ℕ) → 1 ≤ width → AllPass (file_questions log)
      → (g f : ℕ) → g < group_count → f < frame_count
      → ((v : ℕ) × (value kind width (records log) g f ≡ some v))
      ↔ ((r : Span ℕ) × Memᴰ r (records log) × Remembered r width g f)
  -- frames past 65,535 don't exist
  pub no_frame : (kind width : ℕ) (rs : List (Span ℕ)) (g f : ℕ) → frame_count ≤ f → value kind width rs g f ≡ none
  -- width 1 gives what the tool gave before: the same values, and so the same of every call
  pub as_before : (kind : ℕ) (rs : List (Span ℕ)) → value kind 1 rs ≡ plain_value kind rs
  pub segments_as_before : (kind : ℕ) (log : List ℕ) (list : List Segment)
      → (segments_outcome kind 1 log (length list) ≡ plain_segments_outcome kind log (length list))
      × (filled_list kind 1 log list ≡ plain_list kind log list)
  pub query_as_before : (kind : ℕ) (bound : Bound) (log slot : List ℕ)
      → (query_outcome (query_by kind bound 1) log (length slot) ≡ plain_outcome kind bound log (length slot))
      × (query_slot (query_by kind bound 1) log slot ≡ plain_slot kind bound log slot)
  pub check_as_before : (log slot : List ℕ) → check_outcome 1 log slot ≡ plain_check log slot
  -- a query by windows reads no width: whichever it has, the answer and the slot are the same
  pub windows : (q : RuledQuery) (width : ℕ) (log slot : List ℕ) → bound_in q.rule ≡ none
      → (ruled_outcome (with_width width q) log (length slot) ≡ ruled_outcome q log (length slot))
      × (ruled_slot (with_width width q) log slot ≡ ruled_slot q log slot)

-- Many lookups as a set.

-- what the single lookup says of the pair with index i
abbrev pub singly : List ℕ → List ℕ → List ℕ → ℕ → Outcome (Option ℕ)
singly slot groups frames i = lookup_outcome slot (get_or groups i 0) (get_or frames i 0)

-- every pair below index n is answered by the single lookup
abbrev pub AnsweredTo : ℕ → List ℕ → List ℕ → List ℕ → Type 0
AnsweredTo n slot groups frames = (i : ℕ) → i < n → (found : Option ℕ) × (singly slot groups frames i ≡ accepted found)

-- no list is shorter than the pairs: so many pairs, and lists of so many frames, values and flags
abbrev pub LongEnough : ℕ → ℕ → ℕ → ℕ → Type 0
LongEnough pairs frames values covered = (pairs ≤ frames) × (pairs ≤ values) × (pairs ≤ covered)

-- what a call of many lookups that answers so leaves in a list, in which a single lookup's answer is written as shown: either every
-- pair's answer, with later places kept, or the list stays untouched
pub record AnsweredInto (shown : Option ℕ → ℕ) (slot groups frames list : List ℕ) (says : Outcome (Unit {0})) (after : List ℕ) : Type 0 where
  pub answered : says ≡ accepted tt → (i : ℕ) → i < length groups
      → (found : Option ℕ) × (singly slot groups frames i ≡ accepted found) × (get_or after i 0 ≡ shown found)
  pub later : says ≡ accepted tt
      → (length after ≡ length list) × (drop (length groups) after ≡ drop (length groups) list)
  pub untouched : (number index : ℕ) → says ≡ refused number index → after ≡ list

-- What a call promises beyond the equations for its answer and its slot.

-- a call for logs on file that answers so and leaves this buffer: where it is accepted, the bytes that it says it wrote hold each
-- record of the log once, and pass every question of a log
pub record FilePromise (log : List ℕ) (says : Outcome ℕ) (after : List ℕ) : Type 0 where
  pub each_once : (n : ℕ) → says ≡ accepted n → EachOnce log (take n after)
  pub passes : (n : ℕ) → says ≡ accepted n → AllPass (log_questions (take n after))

-- what a call says of a log and leaves in what was lent is what the definitions give for every log with the same records
abbrev pub ForAnyOrder : {A B : Type 0} → List ℕ → (List ℕ → Outcome A) → (List ℕ → B) → Outcome A → B → Type 0
ForAnyOrder log says_of leaves says after =
    (other : List ℕ) → Shuffled log other → (says ≡ says_of other) × (after ≡ leaves other)

-- a segment call that answers so and leaves this list: the same for any order of the records
pub record SegmentsPromise (kind width : ℕ) (log : List ℕ) (list : List Segment) (says : Outcome ℕ) (after : List Segment) : Type 0 where
  pub any_order : ForAnyOrder log (λ other. segments_outcome kind width other (length list)) (λ other. filled_list kind width other list)
      says after

-- a query that answers so and leaves this slot: its number of cuts weighed; best rows where it is accepted, and for kind 3 none
-- that falls short; 'too few rows' where no rows do, and there alone; the same for any order of the records; and a slot that passes
-- the check with the log and the query's width
pub record QueryPromise (q : Query) (log slot : List ℕ) (says : Outcome Counts) (after : List ℕ) : Type 0 where
  pub weighed : cuts_weighed says ≡ query_weighed q log (length slot)
  pub best : (counts : Counts) → says ≡ accepted counts → BestSlot q log after
  pub never_short : (counts : Counts) → says ≡ accepted counts → NeverShort q log (read_rows after)
  pub too_few : slot_length ≤ length slot → AllPass (order_questions q log) → SaysTooFew q log says
  pub any_order : ForAnyOrder log (λ other. query_outcome q other (length slot)) (λ other. query_slot q other slot) says after
  pub passes : (counts : Counts) → says ≡ accepted counts → check_outcome q.width log after ≡ accepted tt

-- a check of a slot that answers so: it is accepted exactly if the slot agrees with its log, and then the slot is no better than the
-- tool's own of the same width; the same for any order of the records
pub record CheckPromise (width : ℕ) (log slot : List ℕ) (says : Outcome (Unit {0})) : Type 0 where
  pub exactly : (says ≡ accepted tt) ↔ Agrees width log slot
  pub no_better : says ≡ accepted tt → (room : ℕ) → slot_length ≤ room → NoBetter width log slot room
  pub any_order : (other : List ℕ) → Shuffled log other → says ≡ check_outcome width other slot

-- a call of many lookups that answers so and leaves these lists. It is accepted exactly if no list is too short, the slot is read, there
-- are at most 64 pairs and the single lookup answers each. A list that is too short is 1; then what the reader refuses is refused
-- alike; then more than 64 pairs are 26; then the first pair that the single lookup refuses is 7 with its index.
pub record LookupsPromise (slot groups frames values covered : List ℕ) (says : Outcome (Unit {0})) (values_after covered_after : List ℕ) : Type 0 where
  pub into_values : AnsweredInto value_shown slot groups frames values says values_after
  pub into_covered : AnsweredInto covered_shown slot groups frames covered says covered_after
  pub exactly : (says ≡ accepted tt)
      ↔ (LongEnough (length groups) (length frames) (length values) (length covered) × AllPass (slot_questions slot) × (length groups ≤ most_pairs)
      × AnsweredTo (length groups) slot groups frames)
  pub too_short : (LongEnough (length groups) (length frames) (length values) (length covered) → ⊥) → says ≡ refused 1 0
  pub as_read : LongEnough (length groups) (length frames) (length values) (length covered) → (number index : ℕ) → read_outcome slot ≡ refused number index
      → says ≡ refused number index
  pub too_many : LongEnough (length groups) (length frames) (length values) (length covered) → AllPass (slot_questions slot) → most_pairs < length groups → says ≡ refused 26 0
  pub first_bad : LongEnough (length groups) (length frames) (length values) (length covered) → AllPass (slot_questions slot) → length groups ≤ most_pairs
      → (i : ℕ) → (says ≡ refused 7 i)
      ↔ ((i < length groups) × (singly slot groups frames i ≡ refused 7 0) × AnsweredTo i slot groups frames)

-- the slot of a query by windows is read to the span aggregation of the log, with error 0, and no cut was weighed
pub record SpanSlot (q : RuledQuery) (log slot : List ℕ) (counts : Counts) : Type 0 where
  pub rows : List (Span ℕ)
  pub reads : Reads slot by_windows q.kind 0 rows
  pub aggregation : SpanAggregation q log rows
  pub counted : counts ≡ record { rows = length rows; error = 0; weighed = 0 }

-- 'too many rows' is said exactly where the span aggregation has more than 64
abbrev pub SaysTooMany : RuledQuery → List ℕ → Outcome Counts → Type 0
SaysTooMany q log says =
    (says ≡ refused 20 0) ↔ ((rows : List (Span ℕ)) × SpanAggregation q log rows × (most_rows < length rows))

-- a query by windows is never refused for too few rows
pub record WindowPromise (q : RuledQuery) (log slot : List ℕ) (says : Outcome Counts) (after : List ℕ) : Type 0 where
  pub spans : (counts : Counts) → says ≡ accepted counts → SpanSlot q log after counts
  pub not_too_few : (index : ℕ) → says ≡ refused 10 index → ⊥
  pub too_many : slot_length ≤ length slot → AllPass (ruled_order q log) → SaysTooMany q log says

-- a query by a rule: the promise of its bound, or of its windows; the same for any order of the records
pub record RuledPromise (q : RuledQuery) (log slot : List ℕ) (says : Outcome Counts) (after : List ℕ) : Type 0 where
  pub bounded : (bound : Bound) → bound_in q.rule ≡ some bound → QueryPromise (with_bound q bound) log slot says after
  pub windowed : bound_in q.rule ≡ none → WindowPromise q log slot says after
  pub any_order : ForAnyOrder log (λ other. ruled_outcome q other (length slot)) (λ other. ruled_slot q other slot) says after

-- the same of a query by letter, for the bound that the letter names; the same for any order of the records
pub record LetterPromise (kind letter x width : ℕ) (log slot : List ℕ) (says : Outcome Counts) (after : List ℕ) : Type 0 where
  pub weighed : cuts_weighed says ≡ letter_weighed kind letter x width log (length slot)
  pub named : (bound : Bound) → bound_of letter x ≡ some bound → QueryPromise (query_by kind bound width) log slot says after
  pub any_order : ForAnyOrder log (λ other. letter_outcome kind letter x width other (length slot))
      (λ other. letter_slot kind letter x width other slot) says after
