-- Wrong segments, reductions and answers that demand 2 rejects, each by the clause that its comment names. Assumes nothing.
use Prim.Native.Nat.{ℕ, zero, suc, ◌*◌, ◌≤◌}
use mathlib.Core.Bool.{Bool, true, ◌&&◌}
use mathlib.Core.List.Memᴰ
use mathlib.Core.List.{List, [], ◌∷◌}
use mathlib.Core.Logic.{⊎_elim}
use mathlib.Core.Option.{some}
use mathlib.Core.Path.{◌≡◌, refl, sym, ap, ◌∙◌, subst}
use native.Mathlib.Omega.{arith}
use lib.Dec.{ltb}
use borrow.Author.Tests.{ltb-true}
use lib.ListN.{length}
use Rattle.model.specs.Common.{sum_of, list_from, number_at, bytes_of}
use Rattle.model.specs.Spans.{Span, group_count, frame_count, span_length, meets, holds, adjacent, nowhere}
use Rattle.model.specs.Log.{record_length, record_bytes, record_at, record_count, records, meeting, sum, aggregate, aggregated, value}
use Rattle.model.specs.Blocks.{segment_at, gap, last_gap, runs_to, block, empty, totals_of, add, totals, nearest, value_for, row_value, squared, error_with, block_error, row_of}
use Rattle.model.specs.Split.{untried, plus, below, exceeds, weigh, scan, single, cell, least, error_of, gap_below, rows_of, runs, least_of, most_rows}
use Rattle.model.specs.Reductions.{IsReduction, Merges, reduction_error, NotEarlier, IsLeast, BestWithin, FewestWithin}
use Rattle.model.specs.Slot.{slot_length}
use Rattle.model.specs.Questions.{accepted, refused, kind_known, bound_known, order_questions, file_questions, most_segments, width_known}
use Rattle.model.specs.Calls.{Counts, log_segments, answer_of, counts_of, query_outcome}
use Rattle.model.specs.Fitting.{hits, due}
use Rattle.model.specs.Demands.{AllPass, Segmentation, MeanInHundredths, Cut, Bytes}
use Rattle.model.specs.declared.Bound.TheVariants.{Rows, Share}
use Rattle.model.proofs.Cases.{span, log_g, segments_g, rows_g, bytes, query, worked_cases}
use Rattle.theory.proofs.Tests.{and-true}
use Rattle.theory.proofs.Refusals.{accepted≢refused, all_tail}
use Rattle.theory.proofs.Asking.{file_passed}
use Rattle.theory.proofs.Blocks.{rows_length}
use Rattle.theory.proofs.Answer.{widens}
use Rattle.theory.proofs.Choice.{least_of_lem}
use Rattle.theory.proofs.Demands.{demand2}
use Rattle.theory.proofs.Refutations.{runs_g, in_order_lem}

-- ---- segments

-- a segment that ends before it begins (ordered)
pub segment_backwards : Segmentation (value 0 1 []) (span 0 5 4 0 ∷ []) → ⊥
segment_backwards s = omega (arith, s.ordered (span 0 5 4 0) (Memᴰ.head refl))

-- loads 0, 1, 0 in one segment (constant)
pub segment_of_two_values : Segmentation (value 0 1 (span 0 0 2 0 ∷ span 0 1 1 1 ∷ [])) (span 0 0 2 0 ∷ []) → ⊥
unfolding value meeting meets aggregated aggregate sum group_count frame_count
segment_of_two_values s =
    let same = s.constant (span 0 0 2 0) (Memᴰ.head refl) 1 (omega arith) (omega arith) in
    let z : ◌≡◌ {A = ℕ} 0 1 = cc in
    omega arith

-- G without its last segment (exact)
pub segment_left_out : Segmentation (value 0 1 log_g)
    (span 0 0 1 100 ∷ span 0 2 3 300 ∷ span 0 4 5 200 ∷ span 0 6 6 210 ∷ span 0 9 10 50 ∷ []) → ⊥
unfolding hits due holds value meeting meets aggregated aggregate sum group_count frame_count
segment_left_out s = omega (arith, s.exact 1 0)

-- G with frames 9 and 10 before the others (sorted: by first frame in a group)
pub segments_by_no_frame : Segmentation (value 0 1 log_g)
    (span 0 9 10 50 ∷ span 0 0 1 100 ∷ span 0 2 3 300 ∷ span 0 4 5 200 ∷ span 0 6 6 210 ∷ span 1 0 0 7 ∷ []) → ⊥
unfolding segment_at
segments_by_no_frame s = ⊎_elim (λ h. omega arith) (λ h. omega arith) (s.sorted 0 (omega arith))

-- G with group 1 before the last segment of group 0 (sorted: by group)
pub segments_by_no_group : Segmentation (value 0 1 log_g)
    (span 0 0 1 100 ∷ span 0 2 3 300 ∷ span 0 4 5 200 ∷ span 0 6 6 210 ∷ span 1 0 0 7 ∷ span 0 9 10 50 ∷ []) → ⊥
unfolding segment_at
segments_by_no_group s = ⊎_elim (λ h. omega arith) (λ h. omega arith) (s.sorted 4 (omega arith))

-- two records of equal load, end to end
abbrev end_to_end : List (Span ℕ)
end_to_end = span 0 0 3 10 ∷ span 0 4 7 10 ∷ []

-- not joined: the first could go on, the second could begin earlier (longest), and neighbours are equal (differ)
pub segment_could_go_on : Segmentation (value 0 1 end_to_end) end_to_end → ⊥
unfolding value meeting meets aggregated aggregate sum group_count frame_count
segment_could_go_on s = (s.longest (span 0 0 3 10) (Memᴰ.head refl)).0 refl

pub segment_could_begin_earlier : Segmentation (value 0 1 end_to_end) end_to_end → ⊥
unfolding value meeting meets aggregated aggregate sum group_count frame_count
segment_could_begin_earlier s = (s.longest (span 0 4 7 10) (Memᴰ.tail (Memᴰ.head refl))).1 3 refl refl

pub neighbours_not_joined : Segmentation (value 0 1 end_to_end) end_to_end → ⊥
unfolding segment_at adjacent
neighbours_not_joined s = s.differ 0 (omega arith) refl refl

-- ---- means in hundredths

-- the mean of the loads 0, 1 and 1 rounded up (notAbove), and that of 1 and 2 with one hundredth less (lessThanOneBelow)
pub mean_rounded_up : MeanInHundredths (0 ∷ 1 ∷ 1 ∷ []) 67 → ⊥
unfolding sum
mean_rounded_up m = omega (arith, m.not_above)

pub mean_one_below : MeanInHundredths (1 ∷ 2 ∷ []) 149 → ⊥
unfolding sum
mean_one_below m = omega (arith, m.less_than_one_below)

-- one hundredth more than the greatest load (most), and the mean of no load (lessThanOneBelow)
pub mean_above_most : (loads : List ℕ) → MeanInHundredths loads 100001 → ⊥
mean_above_most loads m = omega (arith, m.most)

pub mean_of_nothing : (v : ℕ) → MeanInHundredths [] v → ⊥
unfolding sum
mean_of_nothing v m = omega (arith, m.less_than_one_below)

-- ---- reductions of the segments of G

abbrev err_g : ℕ → ℕ → ℕ
err_g = error_of 0 segments_g

abbrev low_g : ℕ → ℕ
low_g = gap_below segments_g

-- the cuts of one row per run, of the four best rows, of the five, and of another four
abbrev runs_cut : List ℕ
runs_cut = 5 ∷ 4 ∷ 0 ∷ []

abbrev four_cut : List ℕ
four_cut = 5 ∷ 4 ∷ 1 ∷ 0 ∷ []

abbrev five_cut : List ℕ
five_cut = 5 ∷ 4 ∷ 2 ∷ 1 ∷ 0 ∷ []

abbrev other_cut : List ℕ
other_cut = 5 ∷ 4 ∷ 3 ∷ 0 ∷ []

four_reduction : IsReduction low_g 6 four_cut
unfolding gap_below last_gap gap segment_at adjacent
four_reduction =
    (omega arith, omega arith, (omega arith, omega arith, (omega arith, omega arith, (omega arith, omega arith, refl))))

errors_g : (reduction_error err_g 6 runs_cut ≡ 40087) × (reduction_error err_g 6 four_cut ≡ 11280)
    × (reduction_error err_g 6 other_cut ≡ 40000)
    × (least_of 0 segments_g 3 ≡ some 40087) × (least_of 0 segments_g 4 ≡ some 11280)
unfolding reduction_error error_of gap_below last_gap gap segment_at adjacent block list_from totals totals_of add empty span_length row_value value_for nearest block_error error_with sum_of squared nowhere least_of least cell scan single untried plus below exceeds weigh
errors_g = (refl, refl, refl, refl, refl)

-- an empty block, a block across the gap before group 1, and no block for the segments up to 4
pub block_of_nothing : IsReduction low_g 6 (6 ∷ four_cut) → ⊥
block_of_nothing r = omega (arith, r.0)

pub block_across_gap : IsReduction low_g 6 (4 ∷ 1 ∷ 0 ∷ []) → ⊥
unfolding gap_below last_gap gap segment_at adjacent
block_across_gap r = omega (arith, r.1)

pub segments_in_no_block : IsReduction low_g 6 (5 ∷ 4 ∷ []) → ⊥
segments_in_no_block r = omega (arith, r.2.2)

-- ---- the least error of so many rows

-- there is one at most
one_least_error : (err : ℕ → ℕ → ℕ) (low : ℕ → ℕ) (n k e e' : ℕ) → IsLeast err low n k e → IsLeast err low n k e' → e ≤ e'
one_least_error err low n k e e' a b = omega (arith, a.least b.cuts b.is_reduction b.count, b.error)

least_three : IsLeast err_g low_g 6 3 40087
unfolding gap_below least_of
least_three = least_of_lem (segment_at segments_g) 6 err_g (widens 0 segments_g) 3 40087 errors_g.3

least_four : IsLeast err_g low_g 6 4 11280
unfolding gap_below least_of
least_four = least_of_lem (segment_at segments_g) 6 err_g (widens 0 segments_g) 4 11280 errors_g.4

-- 0 is the error of six rows, and of no cuts into four (isReduction, count, error)
pub least_of_six : IsLeast err_g low_g 6 4 0 → ⊥
least_of_six l = omega (arith, one_least_error err_g low_g 6 4 11280 0 least_four l)

-- 40,000 is the error of four rows, and not the least (least)
pub least_of_others : IsLeast err_g low_g 6 4 40000 → ⊥
least_of_others l = omega (arith, one_least_error err_g low_g 6 4 40000 11280 l least_four)

-- ---- the reduction that a row limit asks for

-- a block across a gap (isReduction)
pub limit_across_gap : BestWithin err_g low_g 6 3 (4 ∷ 1 ∷ 0 ∷ []) → ⊥
limit_across_gap b = block_across_gap b.is_reduction

-- four rows with a limit of three (count)
pub limit_exceeded : BestWithin err_g low_g 6 3 four_cut → ⊥
limit_exceeded b = omega (arith, b.count)

-- one row per run, where four rows may be had (least)
pub limit_not_used : BestWithin err_g low_g 6 4 runs_cut → ⊥
limit_not_used b =
    omega (arith, b.least four_cut (four_reduction) (omega arith), errors_g.0, errors_g.1)

-- ---- the reduction that a share asks for

only_of_lem : (of : ℕ) → IsLeast err_g low_g 6 3 of → of ≡ 40087
only_of_lem of l =
    omega (arith, one_least_error err_g low_g 6 3 of 40087 l least_three, one_least_error err_g low_g 6 3 40087 of least_three l)

-- a block across a gap (isReduction)
pub share_across_gap : FewestWithin err_g low_g 6 1000 3 (4 ∷ 1 ∷ 0 ∷ []) → ⊥
share_across_gap b = block_across_gap b.is_reduction

-- p = 281: four rows exceed it (met, and isLeast: a share of a greater error would be met)
pub share_exceeded : FewestWithin err_g low_g 6 281 3 four_cut → ⊥
share_exceeded b = omega (arith, b.met, only_of_lem b.of b.is_least, errors_g.1)

-- p = 282: five rows are not the fewest (fewest)
pub share_with_a_row_more : FewestWithin err_g low_g 6 282 3 five_cut → ⊥
share_with_a_row_more b =
    let of = only_of_lem b.of b.is_least in
    let error = errors_g.1 in
    omega (arith, b.fewest four_cut (four_reduction) (omega arith))

-- p = 999: four rows within the share, though others have less error (least)
pub share_not_used : FewestWithin err_g low_g 6 999 3 other_cut → ⊥
share_not_used b = omega (arith, b.least four_cut (four_reduction) refl, errors_g.1, errors_g.2)

-- ---- ties

-- loads 0, 1, 0; loads 0, 4, 8; and loads 0, 4, 8, 100
abbrev segments_tie : List (Span ℕ)
segments_tie = span 0 0 0 0 ∷ span 0 1 1 1 ∷ span 0 2 2 0 ∷ []

abbrev segments_late : List (Span ℕ)
segments_late = span 0 0 0 0 ∷ span 0 1 1 4 ∷ span 0 2 2 8 ∷ []

abbrev segments_later : List (Span ℕ)
segments_later = span 0 0 0 0 ∷ span 0 1 1 4 ∷ span 0 2 2 8 ∷ span 0 3 3 100 ∷ []

-- reductions that are as good: in one row, and with later cuts
reductions_tie : IsReduction (gap_below segments_tie) 3 (0 ∷ []) × IsReduction (gap_below segments_late) 3 (2 ∷ 0 ∷ [])
    × IsReduction (gap_below segments_later) 4 (3 ∷ 2 ∷ 0 ∷ [])
unfolding gap_below last_gap gap segment_at adjacent
reductions_tie = (
  (omega arith, omega arith, refl),
  (omega arith, omega arith, (omega arith, omega arith, refl)),
  (omega arith, omega arith, (omega arith, omega arith, (omega arith, omega arith, refl))),
)

errors_tie : (reduction_error (error_of 0 segments_tie) 3 (0 ∷ []) ≡ 1) × (reduction_error (error_of 0 segments_tie) 3 (2 ∷ 0 ∷ []) ≡ 1)
    × (reduction_error (error_of 0 segments_late) 3 (1 ∷ 0 ∷ []) ≡ 8) × (reduction_error (error_of 0 segments_late) 3 (2 ∷ 0 ∷ []) ≡ 8)
    × (reduction_error (error_of 0 segments_later) 4 (3 ∷ 1 ∷ 0 ∷ []) ≡ 8) × (reduction_error (error_of 0 segments_later) 4 (3 ∷ 2 ∷ 0 ∷ []) ≡ 8)
unfolding reduction_error error_of segment_at block list_from totals totals_of add empty span_length row_value value_for nearest block_error error_with sum_of squared
errors_tie = (refl, refl, refl, refl, refl, refl)

-- loads 0, 1, 0 with c = 2: two rows have the right error, and so has one (fewest)
pub limit_with_a_row_more : BestWithin (error_of 0 segments_tie) (gap_below segments_tie) 3 2 (2 ∷ 0 ∷ []) → ⊥
limit_with_a_row_more b =
    omega (arith, b.fewest (0 ∷ []) reductions_tie.0 (omega (arith, errors_tie.0, errors_tie.1)))

-- loads 0, 4, 8 with c = 2, and with p = 250: the first of equal cuts (latest)
pub first_of_equal_cuts : BestWithin (error_of 0 segments_late) (gap_below segments_late) 3 2 (1 ∷ 0 ∷ []) → ⊥
first_of_equal_cuts b =
    ⊎_elim (λ h. omega arith) (λ h. omega arith)
    (b.latest (2 ∷ 0 ∷ []) reductions_tie.1 refl (omega (arith, errors_tie.2, errors_tie.3)))

pub share_first_of_equal_cuts : FewestWithin (error_of 0 segments_late) (gap_below segments_late) 3 250 1 (1 ∷ 0 ∷ []) → ⊥
share_first_of_equal_cuts b =
    ⊎_elim (λ h. omega arith) (λ h. omega arith)
    (b.latest (2 ∷ 0 ∷ []) reductions_tie.1 refl (omega (arith, errors_tie.2, errors_tie.3)))

-- cuts into another number of blocks are neither later nor the same (NotEarlier)
pub cuts_of_other_lengths : (NotEarlier [] (0 ∷ []) → ⊥) × (NotEarlier (0 ∷ []) [] → ⊥)
cuts_of_other_lengths = ((λ no-later. no-later), λ no-later. no-later)

-- loads 0, 4, 8, 100 with c = 3: the same last cut, and then the first of equal cuts (latest)
pub first_of_equal_cuts_before : BestWithin (error_of 0 segments_later) (gap_below segments_later) 4 3 (3 ∷ 1 ∷ 0 ∷ []) → ⊥
first_of_equal_cuts_before b =
    ⊎_elim (λ h. omega arith)
    (λ h. ⊎_elim (λ k. omega arith) (λ k. omega arith) h.1)
    (b.latest (3 ∷ 2 ∷ 0 ∷ []) reductions_tie.2 refl (omega (arith, errors_tie.4, errors_tie.5)))

-- ---- demand 2 of log G

found_g : log_segments 0 1 (bytes log_g) ≡ segments_g
found_g = worked_cases.0.0.0

-- the rows of four cuts, and the error of its blocks (Cut)
pub cut_to_other_rows : Cut 0 segments_g (record { rows = runs_g; error = 11280; weighed = 16 }) four_cut → ⊥
unfolding rows_of row_of segment_at
cut_to_other_rows c = omega (arith, ap length c.rows)

pub cut_to_another_error : Cut 0 segments_g (record { rows = rows_g; error = 11279; weighed = 16 }) four_cut → ⊥
cut_to_another_error c = omega (arith, c.error ∙ errors_g.1)

-- neighbours that are not joined (segmentation)
pub segments_not_joined : log_segments 0 1 (bytes end_to_end) ≡ end_to_end → ⊥
unfolding records record_count record_length list_from record_at number_at record_bytes bytes_of
segments_not_joined e =
    neighbours_not_joined
    (subst (Segmentation (value 0 1 end_to_end)) e (demand2.segmentation 0 1 (bytes end_to_end)))

-- 256 segments (count)
pub segments_too_many : (kind width : ℕ) (log : List ℕ) → AllPass (file_questions log) → length (log_segments kind width log) ≡ 256 → ⊥
unfolding most_segments
segments_too_many kind width log all e = omega (arith, demand2.count kind width log all)

-- a merge across the gap before group 1, and cuts that are said to come of no merging (merging)
pub merged_across_gap : Merges (gap (segment_at segments_g)) 6 (4 ∷ 1 ∷ 0 ∷ []) → ⊥
merged_across_gap m =
    block_across_gap
    (subst (λ segs. IsReduction (gap_below segs) (length segs) (4 ∷ 1 ∷ 0 ∷ [])) found_g
    ((demand2.merging 0 1 (bytes log_g) (4 ∷ 1 ∷ 0 ∷ [])).1
    (subst (λ segs. Merges (gap (segment_at segs)) (length segs) (4 ∷ 1 ∷ 0 ∷ [])) (sym found_g) m)))

pub four_not_merged : (Merges (gap (segment_at segments_g)) 6 four_cut → ⊥) → ⊥
four_not_merged never =
    never
    (subst (λ segs. Merges (gap (segment_at segs)) (length segs) four_cut) found_g
    ((demand2.merging 0 1 (bytes log_g) four_cut).0
    (subst (λ segs. IsReduction (gap_below segs) (length segs) four_cut) (sym found_g) (four_reduction))))

-- G with c = 4 answered by one row per run, and with p = 282 by five rows (reduction)
pub answered_by_runs : (weighed : ℕ) → query_outcome (query 0 (Rows 4)) (bytes log_g) 768 ≡ accepted (record { rows = 3; error = 40087; weighed = weighed }) → ⊥
unfolding counts_of
answered_by_runs weighed e =
    let (cuts, cut, reduces, counts) = demand2.reduction (query 0 (Rows 4)) (bytes log_g) 768 _ e in
    let best = subst (λ segs. BestWithin (error_of 0 segs) (gap_below segs) (length segs) 4 cuts) found_g reduces in
    let error = subst (λ segs. (answer_of (query 0 (Rows 4)) (bytes log_g)).error ≡ reduction_error (error_of 0 segs) (length segs) cuts) found_g cut.error in
    omega (
      arith,
      best.least four_cut (four_reduction) (omega arith),
      errors_g.1,
      ap (λ (c : Counts). c.error) counts,
    )

pub answered_by_five : (weighed : ℕ)
    → query_outcome (query 0 (Share 282)) (bytes log_g) 768 ≡ accepted (record { rows = 5; error = 67; weighed = weighed }) → ⊥
unfolding counts_of runs runs_to gap adjacent segment_at
answered_by_five weighed e =
    let (cuts, cut, reduces, counts) = demand2.reduction (query 0 (Share 282)) (bytes log_g) 768 _ e in
    let best = subst (λ segs. FewestWithin (error_of 0 segs) (gap_below segs) (length segs) 282 (runs segs) cuts) found_g reduces in
    let of = only_of_lem best.of best.is_least in
    let error = errors_g.1 in
    omega (
      arith,
      best.fewest four_cut (four_reduction) (omega arith),
      ap (length {A = Span ℕ}) cut.rows ∙ rows_length _ _ _ cuts,
      ap (λ (c : Counts). c.rows) counts,
    )

-- every number of a list is a byte
unfoldable pub bytes_only : List ℕ → Bool
bytes_only [] = true
bytes_only (b ∷ rest) = ltb b 256 && bytes_only rest

pub bytes_only_lem : (l : List ℕ) → bytes_only l ≡ true → Bytes l
unfolding bytes_only
bytes_only_lem [] h i = omega arith
bytes_only_lem (b ∷ rest) h zero = ltb-true b 256 (and-true (ltb b 256) _ h).0
bytes_only_lem (b ∷ rest) h (suc i) = bytes_only_lem rest (and-true (ltb b 256) _ h).1 i

-- G passes the questions of a log
pub logged_g : AllPass (file_questions (bytes log_g))
unfolding kind_known bound_known most_rows order_questions
logged_g = file_passed (bytes log_g) (all_tail _ _ (all_tail _ _ (all_tail _ _ (in_order_lem 0 (Rows 4) refl refl))))

-- a load lost where two records overlap (conserved)
pub load_lost : log_segments 0 1 (bytes log_g)
    ≡ span 0 0 1 100 ∷ span 0 2 3 200 ∷ span 0 4 5 200 ∷ span 0 6 6 210 ∷ span 0 9 10 50 ∷ span 1 0 0 7 ∷ [] → ⊥
unfolding bytes_only records record_count record_length list_from record_at number_at record_bytes bytes_of sum_of span_length
load_lost e =
    let conserved = demand2.conserved (bytes log_g) (bytes_only_lem (bytes log_g) refl) logged_g in
    omega (arith, ap (sum_of (λ s. span_length s * s.value)) e, conserved)

-- the mean of the loads 100 and 200 at frame 2 of G taken for 150 hundredths (mean)
pub mean_in_whole_units : value 4 1 (records (bytes log_g)) 0 2 ≡ some 150 → ⊥
unfolding records record_count record_length list_from record_at number_at record_bytes bytes_of meeting meets sum
mean_in_whole_units e =
    omega (arith, (demand2.mean 1 (bytes log_g) logged_g 0 2 150 e).less_than_one_below)

-- the empty log refused (emptyLog)
pub nothing_refused : (number index : ℕ) → query_outcome (query 0 (Share 0)) [] 768 ≡ refused number index → ⊥
unfolding slot_length kind_known bound_known width_known
nothing_refused number index e =
    accepted≢refused (sym (demand2.empty_log (query 0 (Share 0)) 768 (omega arith) refl refl refl).1 ∙ e)
