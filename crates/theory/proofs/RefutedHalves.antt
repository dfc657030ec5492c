-- Wrong answers that the statements about halves reject, each by the clause that its comment names: the loads 0 and 1, whose mean is a
-- half, and 0, 0 and 1, whose mean is none. Assumes nothing.
use Prim.Native.Nat.{ℕ}
use mathlib.Core.Bool.{true}
use mathlib.Core.List.{List, [], ◌∷◌, ◌++◌}
use mathlib.Core.Logic.{inl, inr, ⊎_elim}
use mathlib.Core.Path.{◌≡◌, refl, sym, ap, ◌∙◌, subst}
use native.Mathlib.Omega.{arith}
use lib.IntN.{pos}
use lib.ListN.{length}
use borrow.Author.Tests.{ne_eqb}
use Rattle.model.specs.Common.{sum_from, sum_of, list_from, every, is_some, number_at, bytes_of}
use Rattle.model.specs.Spans.{Span, span_length, adjacent, nowhere}
use Rattle.model.specs.Log.{record_length, record_bytes, record_at, record_count, twins, is_first, greatest_kind}
use Rattle.model.specs.Blocks.{segment_at, gap, last_gap, runs_to, block, empty, totals_of, add, totals, row_value, squared, error_with, block_error, row_of}
use Rattle.model.specs.Split.{untried, plus, below, exceeds, weigh, scan, single, cell, least, weighed, cuts_of, rows_of, fewest, chosen, rows_tried, Reduced, most_rows, gap_below, runs}
use Rattle.model.specs.Reductions.{IsReduction, reduction_error}
use Rattle.model.specs.Slot.{slot_length, by_bound, slot_bytes}
use Rattle.model.specs.Questions.{Outcome, refused, accepted, ask, outcome, each, marked, ask_room, kind_known, bound_known, group_known, span_questions, record_questions, twin_questions, most_records, file_questions, log_questions, order_questions, ask_width, width_known}
use Rattle.model.specs.Calls.{Counts, log_segments, counts_of, query_outcome, read_outcome}
use Rattle.model.specs.LowerHalves.{lower_nearest, lower_value, lower_error, lower_error_of, lower_least_of, lower_count_for, lower_reduced_to, lower_reduced, lower_answer, lower_outcome}
use Rattle.model.specs.Demands.{AllPass, HalfAbove, AllRisen, Cut, LowerCut}
use Rattle.model.specs.declared.Bound.TheVariants.{Rows}
use Rattle.model.proofs.Cases.{span, bytes, query, worked_cases}
use Rattle.theory.proofs.Blocks.{rows_length}
use Rattle.theory.proofs.Refusals.{outcome_accepted, accepted≢refused}
use Rattle.theory.proofs.Demands.{demand2, halves_up}
use Rattle.theory.proofs.RefutedGreatest.{loads}

half : HalfAbove 0 loads
unfolding totals empty add totals_of span_length
half = (omega arith, refl)

-- loads 0, 0 and 1
abbrev three : List (Span ℕ)
three = span 0 0 1 0 ∷ span 0 2 2 1 ∷ []

no_half : (k : ℕ) → HalfAbove k three → ⊥
unfolding totals empty add totals_of span_length
no_half k h = omega (arith, h.1)

-- what they had before: three loads by every kind but 3, two loads by kind 3, and the error of these
lower_three : (kind : ℕ) → (kind ≡ greatest_kind → ⊥) → lower_value kind three ≡ 0
unfolding lower_value lower_nearest totals empty add totals_of span_length
lower_three kind other = rw (ne_eqb kind greatest_kind other)

lower_greatest : lower_value greatest_kind loads ≡ 1
unfolding lower_value totals empty add totals_of span_length
lower_greatest = refl

lower_error_lem : lower_error 0 loads ≡ 1
unfolding lower_error lower_value lower_nearest error_with squared sum_of totals empty add totals_of span_length
lower_error_lem = refl

-- ---- row values

-- the lower number at a half, and one above the upper one (atHalf)
pub lower_at_half : (kind : ℕ) → (kind ≡ greatest_kind → ⊥) → row_value kind loads ≡ 0 → ⊥
lower_at_half kind other e = omega (arith, (halves_up.at_half kind 0 loads other half).0)

pub above_the_upper : (kind : ℕ) → (kind ≡ greatest_kind → ⊥) → row_value kind loads ≡ 2 → ⊥
above_the_upper kind other e = omega (arith, (halves_up.at_half kind 0 loads other half).0)

-- a third moved up, and kind 3 (elsewhere)
pub third_moved_up : (kind : ℕ) → (kind ≡ greatest_kind → ⊥) → row_value kind three ≡ 1 → ⊥
third_moved_up kind other e = omega (arith, halves_up.elsewhere kind three (inr no_half), lower_three kind other)

pub greatest_moved_up : row_value greatest_kind loads ≡ 2 → ⊥
greatest_moved_up e = omega (arith, halves_up.elsewhere greatest_kind loads (inl refl), lower_greatest)

-- an error one more, and one less (sameError)
pub error_grown : block_error 0 loads ≡ 2 → ⊥
error_grown e = omega (arith, halves_up.same_error 0 loads, lower_error_lem)

pub error_shrunk : block_error 0 loads ≡ 0 → ⊥
error_shrunk e = omega (arith, halves_up.same_error 0 loads, lower_error_lem)

-- an error above that of another whole number (least, of demand 2)
pub error_above_another : block_error 0 loads ≡ 2 → ⊥
unfolding error_with squared sum_of span_length
error_above_another e = omega (arith, demand2.least 0 loads (pos 0) (λ s m is. absurd (omega arith)))

-- ---- a query of these loads for one row

abbrev asked : ℕ → ℕ → Outcome Counts
asked error weighed = accepted (record { rows = 1; error = error; weighed = weighed })

lower_says : lower_outcome (query 0 (Rows 1)) (bytes loads) 768 ≡ asked 1 0
unfolding sum_from sum_of every list_from is_some number_at bytes_of span_length adjacent nowhere record_length record_bytes record_at record_count twins is_first segment_at gap last_gap runs_to block empty totals_of add totals squared error_with row_of untried plus below exceeds weigh scan single cell least weighed cuts_of rows_of fewest chosen rows_tried most_rows gap_below runs slot_length ask outcome each marked ask_room ask_width width_known kind_known bound_known group_known span_questions record_questions twin_questions most_records log_questions order_questions counts_of lower_nearest lower_value lower_error lower_error_of lower_least_of lower_count_for lower_reduced_to lower_reduced lower_answer lower_outcome
lower_says = rw worked_cases.1.1.0.0

says_now : {o : Outcome Counts} → query_outcome (query 0 (Rows 1)) (bytes loads) 768 ≡ o → asked 1 0 ≡ o
says_now e = sym (halves_up.same_outcome (query 0 (Rows 1)) (bytes loads) 768 ∙ lower_says) ∙ e

-- the counts of an answer
counts_in : Outcome Counts → ℕ × ℕ
counts_in (refused number index) = (0, 0)
counts_in (accepted counts) = (counts.error, counts.weighed)

-- another error, a cut weighed, a refusal (sameOutcome)
pub error_changed : query_outcome (query 0 (Rows 1)) (bytes loads) 768 ≡ asked 2 0 → ⊥
unfolding counts_in
error_changed e = let same = ap counts_in (says_now e) in omega (arith, ap (λ (c : ℕ × ℕ). c.0) same)

pub cut_weighed : query_outcome (query 0 (Rows 1)) (bytes loads) 768 ≡ asked 1 1 → ⊥
unfolding counts_in
cut_weighed e = let same = ap counts_in (says_now e) in omega (arith, ap (λ (c : ℕ × ℕ). c.1) same)

pub refused_now : (number index : ℕ) → query_outcome (query 0 (Rows 1)) (bytes loads) 768 ≡ refused number index → ⊥
refused_now number index e = accepted≢refused (says_now e)

-- ---- rows of before and now

abbrev one_row_lem : ℕ → List (Span ℕ)
one_row_lem value = span 0 0 1 value ∷ []

-- fallen, risen by 2, risen at no half (value), of another frame (last), of another group (group)
pub fallen : AllRisen (loads ∷ []) (one_row_lem 0) (one_row_lem 1) → ⊥
fallen all = ⊎_elim (λ (e : 0 ≡ 1). omega arith) (λ up. omega (arith, up.0)) all.0.value

pub risen_by_two : AllRisen (loads ∷ []) (one_row_lem 2) (one_row_lem 0) → ⊥
risen_by_two all = ⊎_elim (λ (e : 2 ≡ 0). omega arith) (λ up. omega (arith, up.0)) all.0.value

pub risen_at_a_third : AllRisen (three ∷ []) (span 0 0 2 1 ∷ []) (span 0 0 2 0 ∷ []) → ⊥
risen_at_a_third all = ⊎_elim (λ (e : 1 ≡ 0). omega arith) (λ up. no_half 0 up.1) all.0.value

pub a_frame_more : AllRisen (loads ∷ []) (span 0 0 2 1 ∷ []) (one_row_lem 0) → ⊥
a_frame_more all = omega (arith, all.0.last)

pub another_group : AllRisen (loads ∷ []) (span 1 0 1 1 ∷ []) (one_row_lem 0) → ⊥
another_group all = omega (arith, all.0.group)

-- a row more, and one fewer
pub a_row_more : AllRisen (loads ∷ []) (span 0 0 1 1 ∷ span 0 2 2 1 ∷ []) (one_row_lem 0) → ⊥
a_row_more all = omega (arith, ap (length {A = Span ℕ}) all.1.0)

pub a_row_fewer : AllRisen (loads ∷ []) [] (one_row_lem 0) → ⊥
a_row_fewer all = all

-- two rows by the cuts of one (sameCuts)
pub other_cuts : (now before : Reduced) (cuts : List ℕ) → now.rows ≡ loads → before.rows ≡ one_row_lem 0
    → Cut 0 loads now cuts → LowerCut 0 loads before cuts → ⊥
other_cuts now before cuts two-rows one cut lower =
    let as_many = ap (length {A = Span ℕ}) (sym two-rows ∙ cut.rows) ∙ rows_length (row_value 0) (segment_at loads) (length loads) cuts in
    let as-few = ap (length {A = Span ℕ}) (sym one ∙ lower.rows) ∙ rows_length (lower_value 0) (segment_at loads) (length loads) cuts in
    omega arith

-- ---- slots of before

-- loads 0 and 1 in one row: value 0, error 1
abbrev earlier : Reduced
earlier = record { rows = one_row_lem 0; error = 1; weighed = 0 }

earlier_cut : LowerCut 0 loads earlier (0 ∷ []) × IsReduction (gap_below loads) 2 (0 ∷ [])
unfolding rows_of row_of lower_error_of reduction_error lower_error error_with lower_value lower_nearest totals totals_of add empty span_length squared sum_of block list_from segment_at gap_below last_gap gap adjacent
earlier_cut = (record { rows = refl; error = refl }, (omega arith, omega arith, refl))

earlier_logged : AllPass (file_questions (bytes loads))
unfolding file_questions record_count record_length most_records each record_questions span_questions marked group_known record_at number_at record_bytes bytes_of ask outcome
earlier_logged = (outcome_accepted (file_questions (bytes loads)) (tt {0}) (tt {0}) refl).0

-- refused, whatever stands behind it: a slot of one row, whose block is all of these segments (stillRead)
pub one_row_refused : (kind : ℕ) (log : List ℕ) (segs : List (Span ℕ)) (a : Reduced) → kind_known kind ≡ true
    → AllPass (file_questions log) → log_segments kind 1 log ≡ segs → LowerCut 0 segs a (0 ∷ [])
    → IsReduction (gap_below segs) (length segs) (0 ∷ []) → (rest : List ℕ) (number index : ℕ)
    → read_outcome (slot_bytes by_bound kind a.error a.rows ++ rest) ≡ refused number index → ⊥
unfolding most_rows
one_row_refused kind log segs a known logged found cut is rest number index e =
    let reads = demand2.still_read 0 kind log (0 ∷ []) rest a known logged
    (subst (λ l. LowerCut 0 l a (0 ∷ [])) (sym found) cut)
    (subst (λ l. IsReduction (gap_below l) (length l) (0 ∷ [])) (sym found) is) (omega arith) in
    accepted≢refused (sym reads.header ∙ e)

-- of a kind by which these loads are the segments
earlier_refused : (kind : ℕ) → kind_known kind ≡ true → log_segments kind 1 (bytes loads) ≡ loads → (rest : List ℕ) (number index : ℕ)
    → read_outcome (slot_bytes by_bound kind 1 (one_row_lem 0) ++ rest) ≡ refused number index → ⊥
earlier_refused kind known found =
    one_row_refused kind (bytes loads) loads earlier known earlier_logged found earlier_cut.0 earlier_cut.1

-- with the lower number at a half, and of kind 3 with the nearest whole number
pub lower_slot_refused : (rest : List ℕ) (number index : ℕ)
    → read_outcome (slot_bytes by_bound 0 1 (one_row_lem 0) ++ rest) ≡ refused number index → ⊥
unfolding kind_known
lower_slot_refused = earlier_refused 0 refl worked_cases.1.1.0.0

pub earlier_slot_refused : (rest : List ℕ) (number index : ℕ)
    → read_outcome (slot_bytes by_bound greatest_kind 1 (one_row_lem 0) ++ rest) ≡ refused number index → ⊥
unfolding kind_known
earlier_slot_refused = earlier_refused greatest_kind refl worked_cases.2.1.1.1.1.0.0
