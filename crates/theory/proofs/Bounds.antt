-- Every number that the tool holds fits 64 bits. The loads of a log's records are at most 1,000 and its records at most 128,
-- so that a frame's value is at most 128,000, and a row's too; all segments together have no more frames than there are; so a
-- block's totals and the error of any reduction are below 2^53, and 1,000 times such an error is below 2^64. Assumes nothing.
use Prim.Native.Nat.{ℕ, zero, suc, ◌+◌, ◌-◌, ◌*◌, ◌^◌, ◌/◌, ◌≤◌, ◌<◌, zero-le, min, max}
use mathlib.Core.Bool.{◌&&◌}
use mathlib.Core.List.Memᴰ
use mathlib.Core.List.{List, [], ◌∷◌, ◌++◌, foldr, Memᴰ}
use mathlib.Core.Logic.{⊎_elim}
use mathlib.Core.Option.{Option, none, some}
use mathlib.Core.Path.{◌≡◌, refl, ap, ◌∙◌, subst}
use native.Mathlib.Decide.{dec_le}
use native.Mathlib.Nat.{le_refl, le_trans, le_of_lt, lt_of_not-le, mul-le-mul_left, mul-le-mul_right, zero-add, sub-zero, div-add-mod', mod-lt}
use native.Mathlib.Omega.{arith}
use lib.Dec.{ltb, eqb}
use lib.IntN.{pos}
use lib.ListN.{length}
use borrow.Author.Tests.{leb-true, eqb-true}
use Rattle.model.specs.Common.{sum_from, sum_of, list_from}
use Rattle.model.specs.Spans.{Span, group_count, frame_count, span_length, meets, nowhere}
use Rattle.model.specs.Log.{record_length, record_at, record_count, records, meeting, sum, aggregate, aggregated, value}
use Rattle.model.specs.Segments.{segments}
use Rattle.model.specs.Blocks.{segment_at, block, Totals, empty, totals_of, add, totals, row_value, squared, error_with, block_error}
use Rattle.model.specs.Split.{error_of}
use Rattle.model.specs.Reductions.{IsReduction, reduction_error}
use Rattle.model.specs.Fitting.{over_frames}
use Rattle.model.specs.Questions.{ask, group_known, span_questions, record_questions, file_questions, most_records, most_value, most_segments}
use Rattle.model.specs.Calls.{log_segments}
use Rattle.model.specs.Room.{most_frames, most_error, Room, Block, Measured}
use Rattle.model.specs.Demands.{AllPass, MeanInHundredths}
use Rattle.theory.proofs.Tests.{cases}
use Rattle.theory.proofs.Sums.{sum_from_const, sum_of_cong, sum_of-append, over_frames-le}
use Rattle.theory.proofs.Refusals.{all_head, all_tail, all_at}
use Rattle.theory.proofs.SlotLaws.{list_from-of, length-list_from}
use Rattle.theory.proofs.Frames.{worth, segments_weigh, segmentation}
use Rattle.theory.proofs.Count.{segment_count}
use Rattle.theory.proofs.Blocks.{block_cons, totals_append}
use Rattle.theory.proofs.Nearest.{squared_pos, error_pos}
use Rattle.theory.proofs.RowValues.{greatest_le, row_le}
use Rattle.theory.proofs.Table.{none≢some}
use Rattle.theory.proofs.Converse.{list_from-append, list_from_member, member_list_from}

-- ---- the records of a log whose questions are passed

-- 7 to 9, of one record
sound_record : (log : List ℕ) (i : ℕ) → AllPass (record_questions log i)
    → ((record_at log (record_length * i)).group ≤ 7)
    × ((record_at log (record_length * i)).first ≤ (record_at log (record_length * i)).last)
    × ((record_at log (record_length * i)).value ≤ 1000)
unfolding record_questions span_questions ask group_known
sound_record log i all =
    let span = all_tail _ _ all in (
      leb-true _ _ (all_head _ _ span),
      leb-true _ _ (all_head _ _ (all_tail _ _ span)),
      leb-true _ _ (all_head _ _ (all_tail _ _ (all_tail _ _ span))),
    )

-- at most 128 records, each with a known group, a first frame not behind its last, and a load of at most 1,000
pub sound_records : (log : List ℕ) → AllPass (file_questions log)
    → (length (records log) ≤ most_records)
    × ((r : Span ℕ) → Memᴰ r (records log) → (r.group ≤ 7) × (r.first ≤ r.last) × (r.value ≤ 1000))
unfolding file_questions records ask
sound_records log all =
    let rest = all_tail _ _ all in (
      rw (length-list_from 0 (record_count log) (λ i. record_at log (record_length * i)))
          (leb-true (record_count log) most_records (all_head _ _ rest)),
      λ r m.
          let x = member_list_from (λ i. record_at log (record_length * i)) 0 (record_count log) r m in
          rw x.3
          (sound_record log x.0
          (all_at (record_questions log) 0 (record_count log) (all_tail _ _ rest) x.0 x.1 x.2)),
    )

-- ---- a frame's value

-- loads of at most 1,000 sum to at most 1,000 for each of them
sum_le : (ys : List ℕ) → ((y : ℕ) → Memᴰ y ys → y ≤ 1000) → sum ys ≤ 1000 * length ys
unfolding sum
sum_le [] small = zero-le
sum_le (y ∷ ys) small =
    let ih = sum_le ys (λ z m. small z (Memᴰ.tail m)) in
    let here = small y (Memᴰ.head refl) in
    omega arith

-- neither the least nor the greatest load is above the sum
ends_le : (x : ℕ) (ys : List ℕ) → (foldr min x ys ≤ x + sum ys) × (foldr max x ys ≤ x + sum ys)
unfolding sum
ends_le x [] = (omega arith, omega arith)
ends_le x (y ∷ ys) = let ih = ends_le x ys in (omega arith, omega arith)

-- loads that sum to at most 1,000 for each of them have a mean of at most 1,000
mean_in_hundredths : (x : ℕ) (xs : List ℕ) → x + sum xs ≤ 1000 * suc (length xs) → MeanInHundredths (x ∷ xs) (aggregate 4 x xs)
unfolding aggregate sum
mean_in_hundredths x xs low =
    let count = suc (length xs) in
    let mean = 100 * (x + sum xs) / count in
    let parts = div-add-mod' (100 * (x + sum xs)) count in
    let some-loads : 0 < count = omega arith in
    let left = mod-lt (100 * (x + sum xs)) some-loads in
    record {
      most =
          elim (dec_le mean 100000) [
            | yes h ↦ h
            | no above ↦ absurd (omega (arith, mul-le-mul_right count (lt_of_not-le above)))
          ];
      not_above = omega arith;
      less_than_one_below = omega arith;
    }

-- at most 128 loads that sum to at most 1,000 for each of them have a value of at most 128,000, kind by kind
aggregate_le : (kind x : ℕ) (xs : List ℕ) → suc (length xs) ≤ 128 → x + sum xs ≤ 1000 * suc (length xs)
    → aggregate kind x xs ≤ most_value
unfolding aggregate
aggregate_le zero x xs short low = omega arith
aggregate_le (suc zero) x xs short low = omega arith
aggregate_le (suc (suc zero)) x xs short low = omega (arith, (ends_le x xs).0)
aggregate_le (suc (suc (suc zero))) x xs short low = omega (arith, (ends_le x xs).1)
aggregate_le (suc (suc (suc (suc zero)))) x xs short low = omega (arith, (mean_in_hundredths x xs low).most)
aggregate_le (suc (suc (suc (suc (suc k))))) x xs short low = zero-le

-- the loads that meet a stretch of frames are loads of the records, and no more than these
meeting_le : (rs : List (Span ℕ)) (g a b : ℕ) → ((r : Span ℕ) → Memᴰ r rs → r.value ≤ 1000)
    → (length (meeting rs g a b) ≤ length rs) × ((y : ℕ) → Memᴰ y (meeting rs g a b) → y ≤ 1000)
unfolding meeting
meeting_le [] g a b small = (zero-le, λ y m. absurd (Memᴰ.not-nil m))
meeting_le (r ∷ rs) g a b small =
    let ih = meeting_le rs g a b (λ s m. small s (Memᴰ.tail m)) in
    let here = small r (Memᴰ.head refl) in
    cases (meets r g a b)
    (λ e. rw e (
      omega arith,
      λ y m. ⊎_elim (λ (same : y ≡ r.value). omega arith) (ih.1 y) (Memᴰ.cases_cons m),
    ))
    (λ e. rw e (omega arith, ih.1))

-- a frame's value is that of the loads that meet the frames it remembers
pub frame_value : (kind width : ℕ) (rs : List (Span ℕ)) (g f v : ℕ) → value kind width rs g f ≡ some v
    → aggregated kind (meeting rs g (f - (width - 1)) f) ≡ some v
unfolding value
frame_value kind width rs g f v e =
    cases (ltb g group_count && ltb f frame_count) (λ t. rw t at e) (λ t. absurd (none≢some refl (rw t at e)))

module _ (kind : ℕ) (rs : List (Span ℕ)) (few : length rs ≤ most_records)
    (small : (r : Span ℕ) → Memᴰ r rs → r.value ≤ 1000) where
  -- what holds of at most 128 loads that sum to at most 1,000 for each of them, and of their value, holds of the loads that meet a
  -- stretch of frames and of their value
  at_stretch : (P : List ℕ → ℕ → Type 0)
      → ((x : ℕ) (xs : List ℕ) → suc (length xs) ≤ 128 → x + sum xs ≤ 1000 * suc (length xs) → P (x ∷ xs) (aggregate kind x xs))
      → (g a b v : ℕ) → aggregated kind (meeting rs g a b) ≡ some v → P (meeting rs g a b) v
  unfolding aggregated most_records sum
  at_stretch P each-has g a b v e =
      let loads = meeting_le rs g a b small in
      by (meeting rs g a b) (le_trans loads.0 few) (sum_le (meeting rs g a b) loads.1) e
    where
      by : (l : List ℕ) → length l ≤ 128 → sum l ≤ 1000 * length l → aggregated kind l ≡ some v → P l v
      by [] short low known = absurd (none≢some refl known)
      by (x ∷ xs) short low known = let is : aggregate kind x xs ≡ v = cc in subst (P (x ∷ xs)) is (each-has x xs short low)

  -- the value of what meets a stretch of frames is at most 128,000
  pub stretch_le : (g a b v : ℕ) → aggregated kind (meeting rs g a b) ≡ some v → v ≤ most_value
  stretch_le = at_stretch (λ l v. v ≤ most_value) (aggregate_le kind)

  -- so is a frame's
  pub value_le : (width g f v : ℕ) → value kind width rs g f ≡ some v → v ≤ most_value
  value_le width g f v e = stretch_le g (f - (width - 1)) f v (frame_value kind width rs g f v e)

  -- so is a segment's
  pub segment_value_le : (width : ℕ) (s : Span ℕ) → Memᴰ s (segments kind width rs) → s.value ≤ most_value
  segment_value_le width s m =
      value_le width s.group s.first s.value
      ((segmentation kind width rs).constant s m s.first (le_refl _) ((segmentation kind width rs).ordered s m))

-- kind 4 is the mean in hundredths
pub mean : (width : ℕ) (log : List ℕ) → AllPass (file_questions log) → (g f v : ℕ) → value 4 width (records log) g f ≡ some v
    → MeanInHundredths (meeting (records log) g (f - (width - 1)) f) v
mean width log all g f v e =
    let (few, sound) = sound_records log all in
    at_stretch 4 (records log) few (λ r m. (sound r m).2) MeanInHundredths (λ x xs short low. mean_in_hundredths x xs low) g _ f v
    (frame_value 4 width (records log) g f v e)

-- the segments have no more frames than there are
pub frames_le : (kind width : ℕ) (rs : List (Span ℕ)) → sum_of span_length (segments kind width rs) ≤ group_count * frame_count
unfolding segments over_frames worth
frames_le kind width rs =
    let ones = segments_weigh eqb eqb-true (value kind width rs) group_count frame_count (λ v. 1) in
    let most = over_frames-le group_count frame_count (λ g f. worth (λ v. 1) (value kind width rs g f)) (λ g f. 1)
    (λ g f a b. one_le (value kind width rs g f)) in
    let all = sum_from_const 0 group_count frame_count (λ g. sum_from 0 frame_count (λ f. 1))
    (λ g a b. sum_from_const 0 frame_count 1 (λ f. 1) (λ f c d. refl) ∙ omega arith) in
    let same = sum_of_cong span_length (λ s. span_length s * 1) (segments kind width rs) (λ s m. omega arith) in
    omega arith
  where
    one_le : (o : Option ℕ) → worth (λ v. 1) o ≤ 1
    one_le none = zero-le
    one_le (some v) = le_refl 1

-- ---- products

pub mul_le : {a b c d : ℕ} → a ≤ b → c ≤ d → a * c ≤ b * d
mul_le {a} {b} {c} {d} p q = le_trans (mul-le-mul_left a q) (mul-le-mul_right d p)

-- the squared difference of two values in range is at most the square of the greatest value
pub squared_le : (v r : ℕ) → v ≤ most_value → r ≤ most_value → squared v (pos r) ≤ most_value * most_value
squared_le v r small low =
    let apart = squared_pos v r in
    let most = mul_le small small in
    let most' = mul_le low low in
    elim (dec_le v r) [
      | yes h ↦ (let less = mul-le-mul_left v h in omega arith)
      | no h ↦ (let less = mul-le-mul_right r (le_of_lt (lt_of_not-le h)) in omega arith)
    ]

-- ---- measured segments

-- the segments of a log whose questions are passed are measured
pub logs_measured : (kind width : ℕ) (log : List ℕ) → AllPass (file_questions log) → Measured (log_segments kind width log)
unfolding log_segments group_count frame_count most_segments
logs_measured kind width log all =
    let sound = sound_records log all in
    record {
      few = segment_count kind width log all;
      proper = (segmentation kind width (records log)).ordered;
      low_values = segment_value_le kind (records log) sound.0 (λ r m. (sound.1 r m).2) width;
      frames = frames_le kind width (records log);
    }

-- ---- segments by number

module _ (segs : List (Span ℕ)) where
  -- the segments by number are the segments
  pub by_number : list_from 0 (length segs) (segment_at segs) ≡ segs
  unfolding segment_at
  by_number = list_from-of nowhere 0 (segment_at segs) segs (λ i lt. rw (zero-add i))

  -- a segment with a number below the count is one of them
  pub segment_member : (i : ℕ) → i < length segs → Memᴰ (segment_at segs i) segs
  segment_member i lt =
      rw by_number at (list_from_member (segment_at segs) 0 (length segs) i zero-le (omega arith))

-- ---- a block's totals

-- what holds of every segment of a block
pub frames_of_lem : (b : List (Span ℕ)) → (totals b).frames ≡ sum_of span_length b
unfolding totals empty add totals_of sum_of
frames_of_lem [] = refl
frames_of_lem (s ∷ b) = ap (λ (n : ℕ). span_length s + n) (frames_of_lem b)

-- the error of a row value in range is, for each frame of the block, at most that square
error_in_range : (r : ℕ) → r ≤ most_value → (b : List (Span ℕ)) → ((s : Span ℕ) → Memᴰ s b → s.value ≤ most_value)
    → error_with (pos r) b ≤ most_value * most_value * (totals b).frames
unfolding error_with sum_of totals empty add totals_of
error_in_range r le [] h = zero-le
error_in_range r le (s ∷ b) h =
    let ih = error_in_range r le b (λ t m. h t (Memᴰ.tail m)) in
    let here = mul-le-mul_left (span_length s) (squared_le s.value r (h s (Memᴰ.head refl)) le) in
    omega arith

module _ (b : List (Span ℕ)) (few : sum_of span_length b ≤ most_frames) (low_values : (s : Span ℕ) → Memᴰ s b → s.value ≤ most_value) where
  pub block_room : Room (totals b)
  unfolding totals empty add totals_of
  block_room =
      record {
        frames_le = omega (arith, frames_of_lem b);
        sum_le = (sums b low_values).0;
        squares_le = (sums b low_values).1;
        greatest_le = greatest_le most_value b low_values;
      }
    where
      sums : (l : List (Span ℕ)) → ((s : Span ℕ) → Memᴰ s l → s.value ≤ most_value)
          → ((totals l).sum ≤ most_value * (totals l).frames)
          × ((totals l).squares ≤ most_value * most_value * (totals l).frames)
      sums [] h = (omega arith, omega arith)
      sums (s ∷ l) h =
          let ih = sums l (λ t m. h t (Memᴰ.tail m)) in
          let v = h s (Memᴰ.head refl) in
          let one = mul-le-mul_left (span_length s) v in
          let two = mul-le-mul_left (span_length s) (mul_le v v) in
          (omega arith, omega arith)

  pub block_ok : Block (totals b)
  block_ok = record { room = block_room; error_pos = λ r. omega (arith, error_pos r b) }

-- ---- blocks of measured segments

-- neighbouring blocks together
pub block_append : {A : Type 0} (h : ℕ → Span A) (j i n : ℕ) → j ≤ i → i ≤ n → block h j n ≡ block h j i ++ block h i n
unfolding block
block_append h j i n le le' =
    let size : n - j ≡ (i - j) + (n - i) = omega arith in
    let here : j + (i - j) ≡ i = omega arith in
    rw size (rw here at (list_from-append h j (i - j) (n - i)))

-- a block with one more segment in front
pub totals_cons : (h : ℕ → Span ℕ) (j i : ℕ) → j < i
    → totals (block h j i) ≡ add (totals_of (span_length (h j)) (h j).value) (totals (block h (suc j) i))
unfolding totals
totals_cons h j i lt = rw (block_cons h j i lt)

-- the frames of neighbouring blocks add
frames_split : (h : ℕ → Span ℕ) (j i : ℕ) → j ≤ i
    → (totals (block h 0 i)).frames ≡ (totals (block h 0 j)).frames + (totals (block h j i)).frames
unfolding add
frames_split h j i le =
    ap (λ (b : List (Span ℕ)). (totals b).frames) (block_append h 0 j i zero-le le)
    ∙ ap (λ (t : Totals). t.frames) (totals_append (block h 0 j) (block h j i))

module _ (h : ℕ → Span ℕ) (n : ℕ) (ok : Measured (list_from 0 n h)) where
  part_le : (w : Span ℕ → ℕ) (j i : ℕ) → j ≤ i → i ≤ n → sum_of w (block h j i) ≤ sum_of w (block h 0 n)
  part_le w j i le le' =
      let outer = ap (sum_of w) (block_append h 0 j n zero-le (omega arith)) in
      let inner = ap (sum_of w) (block_append h j i n le le') in
      omega (arith, outer, inner, sum_of-append w (block h 0 j) (block h j n), sum_of-append w (block h j i) (block h i n))

  whole : (i : ℕ) → block h 0 i ≡ list_from 0 i h
  unfolding block
  whole i = rw sub-zero

  -- every block of measured segments has room, and for each of its frames its error is at most the square of the greatest value
  module _ (j i : ℕ) (le : j ≤ i) (le' : i ≤ n) where
    few_frames : sum_of span_length (block h j i) ≤ most_frames
    few_frames = omega (arith, part_le span_length j i le le', ap (sum_of span_length) (whole n), ok.frames)

    low : (s : Span ℕ) → Memᴰ s (block h j i) → s.value ≤ most_value
    unfolding block
    low s m =
        let (x, ge, lt, e) = member_list_from h j (i - j) s m in
        rw e (ok.low_values (h x) (list_from_member h 0 n x zero-le (omega arith)))

    pub measured_block : Block (totals (block h j i))
    measured_block = block_ok (block h j i) few_frames low

    pub error_le : (kind : ℕ) → block_error kind (block h j i) ≤ most_value * most_value * (totals (block h j i)).frames
    unfolding block_error
    error_le kind =
        error_in_range (row_value kind (block h j i)) (row_le kind most_value (block h j i) low) (block h j i) low

-- the error of any block, and of any reduction of the first segments
module _ (kind : ℕ) (segs : List (Span ℕ)) (ok : Measured segs) where
  listed : Measured (list_from 0 (length segs) (segment_at segs))
  listed = rw (by_number segs) ok

  pub error_range : (j i : ℕ) → j ≤ i → i ≤ length segs → error_of kind segs j i ≤ most_error
  unfolding error_of
  error_range j i le le' =
      let room = (measured_block (segment_at segs) (length segs) listed j i le le').room in
      let here = error_le (segment_at segs) (length segs) listed j i le le' kind in
      omega arith

  frames_error_le : (low : ℕ → ℕ) (i : ℕ) (cuts : List ℕ) → i ≤ length segs → IsReduction low i cuts
      → reduction_error (error_of kind segs) i cuts ≤ most_value * most_value * (totals (block (segment_at segs) 0 i)).frames
  unfolding reduction_error error_of
  frames_error_le low i [] le red = zero-le
  frames_error_le low i (j ∷ js) le red =
      let below = red.0 in
      let ih = frames_error_le low j js (omega arith) red.2 in
      let parts = frames_split (segment_at segs) j i (le_of_lt below) in
      let here = error_le (segment_at segs) (length segs) listed j i (le_of_lt below) le kind in
      omega arith

  pub reduction_error_le : (low : ℕ → ℕ) (i : ℕ) (cuts : List ℕ) → i ≤ length segs → IsReduction low i cuts
      → reduction_error (error_of kind segs) i cuts ≤ most_error
  reduction_error_le low i cuts le red =
      let room = (measured_block (segment_at segs) (length segs) listed 0 i zero-le le).room in
      omega (arith, frames_error_le low i cuts le red)

-- that bound is below 2^53, and 1,000 times it below 2^64
pub most_error_lem : (most_error < 2 ^ 53) × (most_error * 1000 < 2 ^ 64)
most_error_lem = (omega arith, omega arith)
