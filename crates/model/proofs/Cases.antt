-- The worked cases of the paper's last section, shown of the definitions: every row of a table gives a kind, a log, the
-- bounds that it is queried with, its segments and its answer ('none' where the query is refused with number 10). Further
-- tables give what the worked cases leave out, slots and records by their bytes among it. Assumes nothing.
use Prim.Native.Nat.{ℕ, ◌-◌, ◌^◌}
use mathlib.Core.Bool.{true}
use mathlib.Core.List.{List, [], ◌∷◌, ◌++◌, map}
use mathlib.Core.Option.{Option, none, some, get_or}
use mathlib.Core.Path.{◌≡◌, refl, ◌∙◌}
use native.Mathlib.Omega.{arith}
use lib.Dec.{leb, eqb}
use lib.IntN.{pos}
use lib.ListN.{length, drop, replicate}
use Rattle.model.specs.Common.{sum_from, sum_of, list_from, every, is_some, number_at, bytes_of}
use Rattle.model.specs.Spans.{Span, group_count, frame_count, span_length, meets, holds, adjacent, nowhere}
use Rattle.model.specs.Log.{record_length, record_bytes, record_at, record_count, twins, is_first, records, meeting, sum, aggregate, greatest_kind, aggregated, value}
use Rattle.model.specs.Segments.{join, fuse, place, frames_from, groups_from, segments_of, segments}
use Rattle.model.specs.Blocks.{segment_at, gap, last_gap, runs_to, block, empty, totals_of, add, totals, nearest, value_for, row_value, squared, error_with, block_error, row_of}
use Rattle.model.specs.Split.{untried, plus, below, exceeds, weigh, scan, single, cell, least, weighed, cuts_of, rows_of, fewest, within, first_that, most_rows, chosen, rows_tried, Reduced, error_of, gap_below, runs, least_of, count_for, reduced_to, reduced}
use Rattle.model.specs.Slot.{slot_length, by_bound, row_bytes, rows_bytes, used_bytes, slot_bytes, row_place, slot_mark, slot_kind, slot_count, slot_error, slot_row, slot_rows, value_in}
use Rattle.model.specs.Questions.{ask, Outcome, refused, accepted, outcome, each, marked, ask_room, kind_known, bound_known, group_known, span_questions, record_questions, twin_questions, most_records, log_questions, width_known, ask_width, order_questions, enough_rows, query_questions, query_by}
use Rattle.model.specs.Questions.{lent, write_questions, follows, in_order, row_known, row_questions, error_known, header_marked, slot_questions}
use Rattle.model.specs.Calls.{Counts, counts_of, log_segments, query_segments, answer_of, query_outcome, query_slot, Header, read_outcome, read_rows, write_outcome, written_buffer}
use Rattle.model.specs.Fitting.{FitsFor, whole}
use Rattle.model.specs.declared.Bound.{Bound}
use Rattle.model.specs.declared.Bound.TheVariants.{Rows, Share}
use Rattle.model.specs.declared.Query.{Query}
use Rattle.model.proofs.Page.{horizon, short_page}
use Rattle.model.proofs.Tail.{walked, tail_walked}

record Case : Type 0 where
  kind : ℕ
  width : ℕ
  log : List (Span ℕ)
  bounds : List Bound
  segments : List (Span ℕ)
  answer : Option Reduced

-- with a memory of so many frames
abbrev case_with : ℕ → ℕ → List (Span ℕ) → List Bound → List (Span ℕ) → Option Reduced → Case
case_with kind width log bounds segments answer =
    record { kind = kind; width = width; log = log; bounds = bounds; segments = segments; answer = answer }

-- with none
abbrev case_of : ℕ → List (Span ℕ) → List Bound → List (Span ℕ) → Option Reduced → Case
case_of kind log bounds segments answer = case_with kind 1 log bounds segments answer

-- of kind 0
abbrev case : List (Span ℕ) → List Bound → List (Span ℕ) → Option Reduced → Case
case log bounds segments answer = case_of 0 log bounds segments answer

abbrev reduces : ℕ → ℕ → List (Span ℕ) → Option Reduced
reduces error weighed rows = some (record { rows = rows; error = error; weighed = weighed })

abbrev pub span : ℕ → ℕ → ℕ → ℕ → Span ℕ
span group first last value = record { group = group; first = first; last = last; value = value }

abbrev pub log_g : List (Span ℕ)
log_g = span 0 0 3 100 ∷ span 0 2 5 200 ∷ span 0 6 6 210 ∷ span 0 9 10 50 ∷ span 1 0 0 7 ∷ []

abbrev pub segments_g : List (Span ℕ)
segments_g = span 0 0 1 100 ∷ span 0 2 3 300 ∷ span 0 4 5 200 ∷ span 0 6 6 210 ∷ span 0 9 10 50 ∷ span 1 0 0 7 ∷ []

-- and the segments of G by kind 3
abbrev pub segments_g3 : List (Span ℕ)
segments_g3 = span 0 0 1 100 ∷ span 0 2 5 200 ∷ span 0 6 6 210 ∷ span 0 9 10 50 ∷ span 1 0 0 7 ∷ []

-- with its best four rows, and with its best three
abbrev pub four_g3 : List (Span ℕ)
four_g3 = span 0 0 1 100 ∷ span 0 2 6 210 ∷ span 0 9 10 50 ∷ span 1 0 0 7 ∷ []

abbrev pub runs_g3 : List (Span ℕ)
runs_g3 = span 0 0 6 210 ∷ span 0 9 10 50 ∷ span 1 0 0 7 ∷ []

-- the segments of G with width 2
abbrev pub memory_g : List (Span ℕ)
memory_g =
    span 0 0 1 100 ∷ span 0 2 4 300 ∷ span 0 5 5 200 ∷ span 0 6 6 410 ∷ span 0 7 7 210 ∷ span 0 9 11 50 ∷ span 1 0 1 7 ∷ []

-- the starred cases
abbrev starred_cases : List Case
starred_cases =
    -- the six segments of G, each a row where there are rows enough
    case log_g (Rows 10 ∷ []) segments_g
    (reduces 0 19 (span 0 0 1 100 ∷ span 0 2 3 300 ∷ span 0 4 5 200 ∷ span 0 6 6 210 ∷ span 0 9 10 50 ∷ span 1 0 0 7 ∷ []))
    ∷
    -- G, c = 2: too few rows
    case log_g (Rows 2 ∷ []) segments_g
    none
    ∷
    -- G, c = 3
    case log_g (Rows 3 ∷ []) segments_g
    (reduces 40087 13 (span 0 0 6 201 ∷ span 0 9 10 50 ∷ span 1 0 0 7 ∷ []))
    ∷
    -- G, c = 4
    case log_g (Rows 4 ∷ []) segments_g
    (reduces 11280 16 (span 0 0 1 100 ∷ span 0 2 6 242 ∷ span 0 9 10 50 ∷ span 1 0 0 7 ∷ []))
    ∷
    -- G, c = 5
    case log_g (Rows 5 ∷ []) segments_g
    (reduces 67 18 (span 0 0 1 100 ∷ span 0 2 3 300 ∷ span 0 4 6 203 ∷ span 0 9 10 50 ∷ span 1 0 0 7 ∷ []))
    ∷
    -- G, c = 6 and c = 64
    case log_g (Rows 6 ∷ Rows 64 ∷ []) segments_g
    (reduces 0 19 (span 0 0 1 100 ∷ span 0 2 3 300 ∷ span 0 4 5 200 ∷ span 0 6 6 210 ∷ span 0 9 10 50 ∷ span 1 0 0 7 ∷ []))
    ∷
    -- G, p = 281
    case log_g (Share 281 ∷ []) segments_g
    (reduces 67 18 (span 0 0 1 100 ∷ span 0 2 3 300 ∷ span 0 4 6 203 ∷ span 0 9 10 50 ∷ span 1 0 0 7 ∷ []))
    ∷
    -- G, p = 282
    case log_g (Share 282 ∷ []) segments_g
    (reduces 11280 16 (span 0 0 1 100 ∷ span 0 2 6 242 ∷ span 0 9 10 50 ∷ span 1 0 0 7 ∷ []))
    ∷
    -- loads 0, 1, 0 with c = 2: one row is as good as two
    case (span 0 0 0 0 ∷ span 0 1 1 1 ∷ span 0 2 2 0 ∷ []) (Rows 2 ∷ []) (span 0 0 0 0 ∷ span 0 1 1 1 ∷ span 0 2 2 0 ∷ [])
    (reduces 1 3 (span 0 0 2 0 ∷ []))
    ∷
    -- loads 0, 4, 8 with c = 2: of two cuts that are as good, the later
    case (span 0 0 0 0 ∷ span 0 1 1 4 ∷ span 0 2 2 8 ∷ []) (Rows 2 ∷ []) (span 0 0 0 0 ∷ span 0 1 1 4 ∷ span 0 2 2 8 ∷ [])
    (reduces 8 3 (span 0 0 1 2 ∷ span 0 2 2 8 ∷ []))
    ∷
    -- two records of equal load, end to end: one segment
    case (span 0 0 3 10 ∷ span 0 4 7 10 ∷ []) (Rows 1 ∷ []) (span 0 0 7 10 ∷ [])
    (reduces 0 0 (span 0 0 7 10 ∷ []))
    ∷
    -- the empty log, c = 0
    case [] (Rows 0 ∷ []) []
    (reduces 0 0 ([]))
    ∷ []

-- two records that overlap in frames 2 and 3
abbrev two_records : List (Span ℕ)
two_records = span 0 0 3 100 ∷ span 0 2 5 200 ∷ []

-- cases that tell wrong definitions apart which the starred ones let pass
abbrev further_cases : List Case
further_cases =
    -- a mean of 2/3 is rounded to the nearest number, and not down
    case (span 0 0 0 0 ∷ span 0 1 1 1 ∷ span 0 2 2 1 ∷ []) (Rows 1 ∷ []) (span 0 0 0 0 ∷ span 0 1 2 1 ∷ [])
    (reduces 1 0 (span 0 0 2 1 ∷ []))
    ∷
    -- a mean of 1/2 is rounded to the upper number
    case (span 0 0 0 0 ∷ span 0 1 1 1 ∷ []) (Rows 1 ∷ []) (span 0 0 0 0 ∷ span 0 1 1 1 ∷ [])
    (reduces 1 0 (span 0 0 1 1 ∷ []))
    ∷
    -- the scan is left early: 5 cuts are weighed, and not 6
    case (span 0 0 0 0 ∷ span 0 1 1 1 ∷ span 0 2 2 2 ∷ span 0 3 3 100 ∷ []) (Rows 2 ∷ []) (span 0 0 0 0 ∷ span 0 1 1 1 ∷ span 0 2 2 2 ∷ span 0 3 3 100 ∷ [])
    (reduces 2 5 (span 0 0 2 1 ∷ span 0 3 3 100 ∷ []))
    ∷
    -- greedy merging would end with the error 2
    case (span 0 0 0 0 ∷ span 0 1 1 1 ∷ span 0 2 2 2 ∷ span 0 3 3 1 ∷ []) (Rows 2 ∷ []) (span 0 0 0 0 ∷ span 0 1 1 1 ∷ span 0 2 2 2 ∷ span 0 3 3 1 ∷ [])
    (reduces 1 6 (span 0 0 0 0 ∷ span 0 1 3 1 ∷ []))
    ∷
    -- kind 1: the count of records
    case_of 1 two_records (Rows 64 ∷ []) (span 0 0 1 1 ∷ span 0 2 3 2 ∷ span 0 4 5 1 ∷ [])
    (reduces 0 4 (span 0 0 1 1 ∷ span 0 2 3 2 ∷ span 0 4 5 1 ∷ []))
    ∷
    -- kind 2: the least load, where it stays the same one segment
    case_of 2 two_records (Rows 64 ∷ []) (span 0 0 3 100 ∷ span 0 4 5 200 ∷ [])
    (reduces 0 1 (span 0 0 3 100 ∷ span 0 4 5 200 ∷ []))
    ∷
    -- kind 3: the greatest load
    case_of 3 two_records (Rows 64 ∷ []) (span 0 0 1 100 ∷ span 0 2 5 200 ∷ [])
    (reduces 0 1 (span 0 0 1 100 ∷ span 0 2 5 200 ∷ []))
    ∷
    -- kind 4: the mean in hundredths. The means of G are cut before frame 4, where its sums are cut before frame 2
    case_of 4 log_g (Rows 4 ∷ [])
    (span 0 0 1 10000 ∷ span 0 2 3 15000 ∷ span 0 4 5 20000 ∷ span 0 6 6 21000 ∷ span 0 9 10 5000 ∷ span 1 0 0 700 ∷ [])
    (reduces 25666667 16 (span 0 0 3 12500 ∷ span 0 4 6 20333 ∷ span 0 9 10 5000 ∷ span 1 0 0 700 ∷ []))
    ∷
    -- kind 4: loads 1 and 2, then 0, 0 and 1, whose mean is rounded down, then 0 and 1,000
    case_of 4 (span 0 0 0 1 ∷ span 0 0 0 2 ∷ span 0 1 1 0 ∷ span 0 1 2 0 ∷ span 0 1 1 1 ∷ span 0 2 2 1000 ∷ []) (Rows 64 ∷ [])
    (span 0 0 0 150 ∷ span 0 1 1 33 ∷ span 0 2 2 50000 ∷ [])
    (reduces 0 4 (span 0 0 0 150 ∷ span 0 1 1 33 ∷ span 0 2 2 50000 ∷ []))
    ∷
    -- a share on the empty log
    case [] (Share 0 ∷ Share 1000 ∷ []) []
    (reduces 0 0 ([]))
    ∷ []

-- cases of kind 3: a row holds its block's greatest value, and its error is taken from that
abbrev greatest_cases : List Case
greatest_cases =
    -- G: the least error of three rows is 24,600, so that 17 thousandths are met by the error 400 of four rows, and 16 are not. Of
    -- 14,943, the least error with nearest means, 27 thousandths would be needed.
    case_of 3 log_g (Rows 2 ∷ []) segments_g3
    none
    ∷
    case_of 3 log_g (Rows 3 ∷ Share 1000 ∷ []) segments_g3
    (reduces 24600 8 runs_g3)
    ∷
    case_of 3 log_g (Rows 4 ∷ Share 17 ∷ Share 26 ∷ []) segments_g3
    (reduces 400 10 four_g3)
    ∷
    case_of 3 log_g (Rows 64 ∷ Share 16 ∷ []) segments_g3
    (reduces 0 11 segments_g3)
    ∷
    -- loads 0 and 1
    case_of 3 (span 0 0 0 0 ∷ span 0 1 1 1 ∷ []) (Rows 1 ∷ []) (span 0 0 0 0 ∷ span 0 1 1 1 ∷ [])
    (reduces 1 0 (span 0 0 1 1 ∷ []))
    ∷
    -- an error above the sum of squares, which is 162
    case_of 3 (span 0 0 2 0 ∷ span 0 3 4 9 ∷ []) (Rows 1 ∷ []) (span 0 0 2 0 ∷ span 0 3 4 9 ∷ [])
    (reduces 243 0 (span 0 0 4 9 ∷ []))
    ∷ []

-- cases of a memory. G with width 2: records to the frames 4, 6, 7 and 11, and to frame 1 of group 1. The gap of two frames, 7 and
-- 8, is open by one; with width 3 it is closed, and two rows do.
abbrev memory_cases : List Case
memory_cases =
    case_with 0 2 log_g (Rows 2 ∷ []) memory_g
    none
    ∷
    -- 2 × 100 + 3 × 300 + 200 + 410 + 210 over 8 frames is 240
    case_with 0 2 log_g (Rows 3 ∷ []) memory_g
    (reduces 81400 20 (span 0 0 7 240 ∷ span 0 9 11 50 ∷ span 1 0 1 7 ∷ []))
    ∷
    case_with 0 2 log_g (Rows 64 ∷ []) memory_g
    (reduces 0 31 memory_g)
    ∷
    -- the count, the least, the greatest and the mean of what is remembered: frame 6 has the loads 200 and 210
    case_with 1 2 log_g (Rows 64 ∷ [])
    (span 0 0 1 1 ∷ span 0 2 4 2 ∷ span 0 5 5 1 ∷ span 0 6 6 2 ∷ span 0 7 7 1 ∷ span 0 9 11 1 ∷ span 1 0 1 1 ∷ [])
    (reduces 0 31
    (span 0 0 1 1 ∷ span 0 2 4 2 ∷ span 0 5 5 1 ∷ span 0 6 6 2 ∷ span 0 7 7 1 ∷ span 0 9 11 1 ∷ span 1 0 1 1 ∷ []))
    ∷
    case_with 2 2 log_g (Rows 64 ∷ []) (span 0 0 4 100 ∷ span 0 5 6 200 ∷ span 0 7 7 210 ∷ span 0 9 11 50 ∷ span 1 0 1 7 ∷ [])
    (reduces 0 11 (span 0 0 4 100 ∷ span 0 5 6 200 ∷ span 0 7 7 210 ∷ span 0 9 11 50 ∷ span 1 0 1 7 ∷ []))
    ∷
    case_with 3 2 log_g (Rows 3 ∷ []) (span 0 0 1 100 ∷ span 0 2 5 200 ∷ span 0 6 7 210 ∷ span 0 9 11 50 ∷ span 1 0 1 7 ∷ [])
    (reduces 24600 8 (span 0 0 7 210 ∷ span 0 9 11 50 ∷ span 1 0 1 7 ∷ []))
    ∷
    case_with 4 2 log_g (Rows 3 ∷ [])
    (span 0 0 1 10000 ∷ span 0 2 4 15000 ∷ span 0 5 5 20000 ∷ span 0 6 6 20500 ∷ span 0 7 7 21000 ∷ span 0 9 11 5000 ∷ span 1 0 1 700 ∷ [])
    (reduces 135968752 20 (span 0 0 7 15813 ∷ span 0 9 11 5000 ∷ span 1 0 1 700 ∷ []))
    ∷
    case_with 0 3 log_g (Rows 2 ∷ [])
    (span 0 0 1 100 ∷ span 0 2 5 300 ∷ span 0 6 7 410 ∷ span 0 8 8 210 ∷ span 0 9 12 50 ∷ span 1 0 2 7 ∷ [])
    (reduces 238232 10 (span 0 0 12 202 ∷ span 1 0 2 7 ∷ []))
    ∷ []

-- ---- what a row of the table says

abbrev pub bytes : List (Span ℕ) → List ℕ
bytes [] = []
bytes (r ∷ rs) = record_bytes r ++ bytes rs

abbrev pub query : ℕ → Bound → Query
query kind bound = query_by kind bound 1

abbrev says : Option Reduced → Outcome Counts
says none = refused 10 0
says (some a) = accepted (counts_of a)

-- the query of each bound has this outcome and this answer
abbrev Answers : ℕ → ℕ → List ℕ → Option Reduced → List Bound → Type 0
Answers kind width log answer [] = Unit {0}
Answers kind width log answer (b ∷ bs) =
    (query_outcome (query_by kind b width) log 768 ≡ says answer) × (reduced kind b (log_segments kind width log) ≡ answer)
    × Answers kind width log answer bs

abbrev Holds : Case → Type 0
Holds c =
    (log_segments c.kind c.width (bytes c.log) ≡ c.segments)
    × Answers c.kind c.width (bytes c.log) c.answer c.bounds

abbrev pub All : {A : Type 0} → (A → Type 0) → List A → Type 0
All P [] = Unit {0}
All P (c ∷ cs) = P c × All P cs

-- ---- the same with the segments found on a short page, where all of it computes

outcome_on : Query → List ℕ → List (Span ℕ) → Outcome Counts
outcome_on q log segs =
    outcome (ask_room slot_length 768 ∷ (order_questions q log ++ (ask 10 0 (is_some (count_for q.kind q.bound segs)) ∷ [])))
    (counts_of (get_or (reduced q.kind q.bound segs) (record { rows = []; error = 0; weighed = 0 })))

abbrev ShortAnswers : ℕ → ℕ → List ℕ → List (Span ℕ) → Option Reduced → List Bound → Type 0
ShortAnswers kind width log segs answer [] = Unit {0}
ShortAnswers kind width log segs answer (b ∷ bs) =
    (outcome_on (query_by kind b width) log segs ≡ says answer) × (reduced kind b segs ≡ answer)
    × ShortAnswers kind width log segs answer bs

abbrev page : Case → ℕ
page c = horizon c.width (records (bytes c.log))

abbrev Short : Case → Type 0
Short c =
    (leb (page c) frame_count ≡ true)
    × (segments_of eqb (value c.kind c.width (records (bytes c.log))) group_count (page c) ≡ c.segments)
    × ShortAnswers c.kind c.width (bytes c.log) c.segments c.answer c.bounds

long_answers : (kind width : ℕ) (log : List ℕ) (segs : List (Span ℕ)) (answer : Option Reduced) (bounds : List Bound)
    → segments kind width (records log) ≡ segs → ShortAnswers kind width log segs answer bounds
    → Answers kind width log answer bounds
unfolding query_outcome query_questions enough_rows answer_of log_segments outcome_on
long_answers kind width log segs answer [] e h = tt
long_answers kind width log segs answer (b ∷ bs) e (says_so, is, rest) =
    (rw e says_so, rw e is, long_answers kind width log segs answer bs e rest)

long : (c : Case) → Short c → Holds c
unfolding log_segments
long c (fits, found, answers) =
    let e = short_page c.kind c.width (records (bytes c.log)) fits ∙ found in
    (e, long_answers c.kind c.width (bytes c.log) c.segments c.answer c.bounds e answers)

all_long : (cs : List Case) → All Short cs → All Holds cs
all_long [] h = tt
all_long (c ∷ cs) (h, hs) = (long c h, all_long cs hs)

shown : (All Short starred_cases) × (All Short further_cases) × (All Short greatest_cases) × (All Short memory_cases)
unfolding horizon sum_from sum_of every list_from is_some number_at bytes_of group_count frame_count span_length meets adjacent nowhere record_length record_bytes record_at record_count twins is_first records meeting sum aggregate aggregated value join fuse place frames_from groups_from segments_of segment_at gap last_gap runs_to block empty totals_of add totals nearest value_for row_value squared error_with block_error row_of untried plus below exceeds weigh scan single cell least weighed cuts_of rows_of fewest within first_that most_rows chosen rows_tried error_of gap_below runs least_of count_for reduced_to reduced slot_length ask outcome each marked ask_room kind_known bound_known group_known span_questions record_questions twin_questions most_records log_questions width_known ask_width order_questions counts_of outcome_on
shown = (
  ((refl, refl, (refl, refl, tt)), ((refl, refl, (refl, refl, tt)), ((refl, refl, (refl, refl, tt)), ((refl, refl, (refl, refl, tt)), ((refl, refl, (refl, refl, tt)), ((refl, refl, (refl, refl, (refl, refl, tt))), ((refl, refl, (refl, refl, tt)), ((refl, refl, (refl, refl, tt)), ((refl, refl, (refl, refl, tt)), ((refl, refl, (refl, refl, tt)), ((refl, refl, (refl, refl, tt)), ((refl, refl, (refl, refl, tt)), tt)))))))))))),
  ((refl, refl, (refl, refl, tt)), ((refl, refl, (refl, refl, tt)), ((refl, refl, (refl, refl, tt)), ((refl, refl, (refl, refl, tt)), ((refl, refl, (refl, refl, tt)), ((refl, refl, (refl, refl, tt)), ((refl, refl, (refl, refl, tt)), ((refl, refl, (refl, refl, tt)), ((refl, refl, (refl, refl, tt)), ((refl, refl, (refl, refl, (refl, refl, tt))), tt)))))))))),
  ((refl, refl, (refl, refl, tt)), ((refl, refl, (refl, refl, (refl, refl, tt))), ((refl, refl, (refl, refl, (refl, refl, (refl, refl, tt)))), ((refl, refl, (refl, refl, (refl, refl, tt))), ((refl, refl, (refl, refl, tt)), ((refl, refl, (refl, refl, tt)), tt)))))),
  ((refl, refl, (refl, refl, tt)), ((refl, refl, (refl, refl, tt)), ((refl, refl, (refl, refl, tt)), ((refl, refl, (refl, refl, tt)), ((refl, refl, (refl, refl, tt)), ((refl, refl, (refl, refl, tt)), ((refl, refl, (refl, refl, tt)), ((refl, refl, (refl, refl, tt)), tt)))))))),
)

-- Every row of the four tables holds.
pub worked_cases : All Holds starred_cases × All Holds further_cases × All Holds greatest_cases × All Holds memory_cases
worked_cases =
    (all_long starred_cases shown.0, all_long further_cases shown.1, all_long greatest_cases shown.2, all_long memory_cases shown.3)

-- ---- the last frame: 65,535 has a value, 65,536 has none, and a span to the last frame has its whole length

pub last_frame : (value 0 1 (span 0 65535 65535 5 ∷ []) 0 65535 ≡ some 5)
    × (value 0 1 (span 0 65535 65536 5 ∷ []) 0 65536 ≡ none)
    × (reduced 0 (Rows 1) (span 0 65534 65534 0 ∷ span 0 65535 65535 10 ∷ []) ≡ reduces 50 0 (span 0 65534 65535 5 ∷ []))
unfolding horizon sum_from sum_of every list_from is_some number_at bytes_of group_count frame_count span_length meets adjacent nowhere record_length record_bytes record_at record_count twins is_first records meeting sum aggregate aggregated value join fuse place frames_from groups_from segments_of segment_at gap last_gap runs_to block empty totals_of add totals nearest value_for row_value squared error_with block_error row_of untried plus below exceeds weigh scan single cell least weighed cuts_of rows_of fewest within first_that most_rows chosen rows_tried error_of gap_below runs least_of count_for reduced_to reduced slot_length ask outcome each marked ask_room kind_known bound_known group_known span_questions record_questions twin_questions most_records log_questions width_known ask_width order_questions counts_of outcome_on
last_frame = (refl, refl, refl)

-- ---- slots by their bytes

-- rows laid out under a kind and an error, their bytes up to the zeros, what the reader says of the slot, and the rows read
record SlotCase : Type 0 where
  mark : ℕ
  kind : ℕ
  error : ℕ
  rows : List (Span ℕ)
  bytes : List ℕ
  answer : Outcome Header
  read : List (Span ℕ)

abbrev slot_case : ℕ → ℕ → ℕ → List (Span ℕ) → List ℕ → Outcome Header → List (Span ℕ) → SlotCase
slot_case mark kind error rows bytes answer read =
    record { mark = mark; kind = kind; error = error; rows = rows; bytes = bytes; answer = answer; read = read }

abbrev header : ℕ → ℕ → ℕ → ℕ → Outcome Header
header mark kind error rows = accepted (record { mark = mark; kind = kind; error = error; rows = rows })

-- the four rows of G with c = 4
abbrev pub rows_g : List (Span ℕ)
rows_g = span 0 0 1 100 ∷ span 0 2 6 242 ∷ span 0 9 10 50 ∷ span 1 0 0 7 ∷ []

-- and their bytes
abbrev bytes_g : List ℕ
bytes_g =
    0x50 ∷ 0x48 ∷ 0 ∷ 4 ∷ 0x10 ∷ 0x2C ∷ 0 ∷ 0 ∷ 0 ∷ 0 ∷ 0 ∷ 0
    ∷ 0x50 ∷ 0x52 ∷ 0 ∷ 0 ∷ 0 ∷ 1 ∷ 0 ∷ 0x64 ∷ 0 ∷ 0 ∷ 0
    ∷ 0x50 ∷ 0x52 ∷ 0 ∷ 2 ∷ 0 ∷ 6 ∷ 0 ∷ 0xF2 ∷ 0 ∷ 0 ∷ 0
    ∷ 0x50 ∷ 0x52 ∷ 0 ∷ 9 ∷ 0 ∷ 0x0A ∷ 0 ∷ 0x32 ∷ 0 ∷ 0 ∷ 0
    ∷ 0x50 ∷ 0x52 ∷ 1 ∷ 0 ∷ 0 ∷ 0 ∷ 0 ∷ 7 ∷ 0 ∷ 0 ∷ 0 ∷ []

abbrev slot_cases : List SlotCase
slot_cases =
    -- G, c = 4
    slot_case 0x48 0 11280 rows_g bytes_g (header 0x48 0 11280 4) rows_g
    ∷
    -- every number of several bytes with its bytes in order
    slot_case 0x48 4 0x0807060504030201 (span 7 0x0201 0x0403 0x01F400 ∷ [])
    (0x50 ∷ 0x48 ∷ 4 ∷ 1 ∷ 1 ∷ 2 ∷ 3 ∷ 4 ∷ 5 ∷ 6 ∷ 7 ∷ 8
    ∷ 0x50 ∷ 0x52 ∷ 7 ∷ 1 ∷ 2 ∷ 3 ∷ 4 ∷ 0 ∷ 0xF4 ∷ 1 ∷ 0 ∷ [])
    (header 0x48 4 0x0807060504030201 1) (span 7 0x0201 0x0403 0x01F400 ∷ [])
    ∷
    -- kind 5: question 12
    slot_case 0x48 5 0 [] (0x50 ∷ 0x48 ∷ 5 ∷ []) (refused 12 0) []
    ∷
    -- two rows that share a frame: question 16, of the second
    slot_case 0x48 0 0 (span 0 0 3 1 ∷ span 0 3 5 2 ∷ [])
    (0x50 ∷ 0x48 ∷ 0 ∷ 2 ∷ 0 ∷ 0 ∷ 0 ∷ 0 ∷ 0 ∷ 0 ∷ 0 ∷ 0
    ∷ 0x50 ∷ 0x52 ∷ 0 ∷ 0 ∷ 0 ∷ 3 ∷ 0 ∷ 1 ∷ 0 ∷ 0 ∷ 0
    ∷ 0x50 ∷ 0x52 ∷ 0 ∷ 3 ∷ 0 ∷ 5 ∷ 0 ∷ 2 ∷ 0 ∷ 0 ∷ 0 ∷ [])
    (refused 16 1) []
    ∷
    -- by windows: a row, and an error that is not 0: question 17
    slot_case 0x53 3 0 (span 1 2 3 4 ∷ [])
    (0x50 ∷ 0x53 ∷ 3 ∷ 1 ∷ 0 ∷ 0 ∷ 0 ∷ 0 ∷ 0 ∷ 0 ∷ 0 ∷ 0 ∷ 0x50 ∷ 0x52 ∷ 1 ∷ 2 ∷ 0 ∷ 3 ∷ 0 ∷ 4 ∷ 0 ∷ 0 ∷ 0 ∷ [])
    (header 0x53 3 0 1) (span 1 2 3 4 ∷ [])
    ∷ slot_case 0x53 0 (2 ^ 56) [] (0x50 ∷ 0x53 ∷ 0 ∷ 0 ∷ 0 ∷ 0 ∷ 0 ∷ 0 ∷ 0 ∷ 0 ∷ 0 ∷ 1 ∷ []) (refused 17 0) []
    ∷
    -- another mark: question 11
    slot_case 0x43 0 0 [] (0x50 ∷ 0x43 ∷ []) (refused 11 0) []
    ∷ []

abbrev pub whole_slot : List ℕ → List ℕ
whole_slot used = used ++ replicate (768 - length used) 0

abbrev SlotHolds : SlotCase → Type 0
SlotHolds c =
    (slot_bytes c.mark c.kind c.error c.rows ≡ whole_slot c.bytes)
    × (read_outcome (whole_slot c.bytes) ≡ c.answer) × (read_rows (whole_slot c.bytes) ≡ c.read)

-- ---- records by their bytes

-- a record, a lent buffer, what the writer says, and what the buffer holds then
record RecordCase : Type 0 where
  given : Span ℕ
  buffer : List ℕ
  answer : Outcome (Unit {0})
  after : List ℕ

abbrev write_case : Span ℕ → List ℕ → Outcome (Unit {0}) → List ℕ → RecordCase
write_case r buffer answer after = record { given = r; buffer = buffer; answer = answer; after = after }

abbrev record_cases : List RecordCase
record_cases =
    -- the first record of G, in a buffer of eleven bytes: the last two are kept
    write_case (span 0 0 3 100) (replicate 11 9) (accepted tt)
    (0x4C ∷ 0x44 ∷ 0 ∷ 0 ∷ 0 ∷ 3 ∷ 0 ∷ 0x64 ∷ 0 ∷ 9 ∷ 9 ∷ [])
    ∷
    -- numbers of two bytes
    write_case (span 7 0x0201 65535 1000) (replicate 9 0) (accepted tt)
    (0x4C ∷ 0x44 ∷ 7 ∷ 1 ∷ 2 ∷ 0xFF ∷ 0xFF ∷ 0xE8 ∷ 3 ∷ [])
    ∷
    -- refused, and nothing is written: a short buffer, a group, first and last frame, a load
    write_case (span 8 0 3 100) (replicate 8 9) (refused 1 0) (replicate 8 9)
    ∷ write_case (span 8 4 3 100) (replicate 9 9) (refused 7 0) (replicate 9 9)
    ∷ write_case (span 0 4 3 1001) (replicate 9 9) (refused 8 0) (replicate 9 9)
    ∷ write_case (span 0 0 3 1001) (replicate 9 9) (refused 9 0) (replicate 9 9)
    ∷ []

abbrev RecordHolds : RecordCase → Type 0
RecordHolds c =
    (write_outcome c.given (length c.buffer) ≡ c.answer) × (written_buffer c.given c.buffer ≡ c.after)

-- Every row of these two tables holds.
pub byte_cases : All SlotHolds slot_cases × All RecordHolds record_cases
unfolding walked list_from number_at bytes_of slot_length row_bytes rows_bytes used_bytes slot_bytes row_place slot_mark slot_kind slot_count slot_error slot_row slot_rows ask outcome lent each marked ask_room kind_known group_known span_questions most_rows follows in_order row_known row_questions error_known header_marked slot_questions read_outcome read_rows record_length record_bytes write_questions write_outcome written_buffer
byte_cases = (
  ((refl, rw tail_walked, rw tail_walked), ((refl, rw tail_walked, rw tail_walked), ((refl, refl, refl), ((refl, refl, refl), ((refl, rw tail_walked, rw tail_walked), ((refl, rw tail_walked, rw tail_walked), ((refl, refl, refl), tt))))))),
  ((refl, refl), ((refl, refl), ((refl, refl), ((refl, refl), ((refl, refl), ((refl, refl), tt)))))),
)

-- ---- the slot of a query, by the segments of its log

slot_on : Query → List ℕ → List (Span ℕ) → List ℕ → List ℕ
slot_on q log segs slot =
    let answer = get_or (reduced q.kind q.bound segs) (record { rows = []; error = 0; weighed = 0 }) in
    lent
    (ask_room slot_length (length slot) ∷ (order_questions q log ++ (ask 10 0 (is_some (count_for q.kind q.bound segs)) ∷ [])))
    (slot_bytes by_bound q.kind answer.error answer.rows ++ drop slot_length slot)
    slot

slot_on_lem : (q : Query) (log : List ℕ) (segs : List (Span ℕ)) (slot : List ℕ) → query_segments q log ≡ segs
    → query_slot q log slot ≡ slot_on q log segs slot
unfolding query_slot query_questions enough_rows answer_of log_segments slot_on
slot_on_lem q log segs slot e = rw e

written_g : slot_on (query 0 (Rows 4)) (bytes log_g) segments_g (replicate 770 9) ≡ whole_slot bytes_g ++ (9 ∷ 9 ∷ [])
unfolding sum_from sum_of every list_from is_some number_at bytes_of group_count frame_count span_length adjacent nowhere record_length record_bytes record_at record_count twins is_first records segment_at gap last_gap runs_to block empty totals_of add totals nearest value_for row_value squared error_with block_error row_of untried plus below exceeds weigh scan single cell least weighed cuts_of rows_of fewest within first_that most_rows chosen rows_tried error_of gap_below runs least_of count_for reduced_to reduced slot_length ask each marked ask_room kind_known bound_known group_known span_questions record_questions twin_questions most_records log_questions width_known ask_width order_questions lent row_bytes rows_bytes used_bytes slot_bytes slot_on
written_g = refl

-- what a query of G with c = 4 leaves in a buffer of 770 bytes: the slot, and the last two bytes as they were
pub slot_of_g : query_slot (query 0 (Rows 4)) (bytes log_g) (replicate 770 9) ≡ whole_slot bytes_g ++ (9 ∷ 9 ∷ [])
slot_of_g = slot_on_lem (query 0 (Rows 4)) (bytes log_g) segments_g (replicate 770 9) worked_cases.0.0.0 ∙ written_g

-- ---- a list that does not fit for kind 3

-- loads 0 and 1 in one row that holds 0, the nearest mean: one below the second load
pub one_below : FitsFor greatest_kind (value greatest_kind 1 (span 0 0 0 0 ∷ span 0 1 1 1 ∷ [])) (map whole (span 0 0 1 0 ∷ [])) → ⊥
unfolding group_count frame_count meets holds meeting aggregated aggregate value value_in whole
one_below f = omega (arith, f.nowhere_below refl 0 1 1 (pos 0) refl refl)
