-- Wrong answers that the demands reject. Each theorem below takes a wrong answer for right and ends in a contradiction, by
-- the clause that its comment names: a statement with that clause weakened would no longer reject it. Log G and its rows are
-- those of the paper's last section. Assumes nothing.
use Prim.Native.Nat.{ℕ, suc, zero-le}
use mathlib.Core.Bool.{true}
use mathlib.Core.List.Memᴰ
use mathlib.Core.List.{List, [], ◌∷◌, map}
use mathlib.Core.Option.{Option, some, get_or}
use mathlib.Core.Path.{◌≡◌, refl, sym, ap, ◌∙◌, subst}
use native.Mathlib.Decide.{dec_le}
use native.Mathlib.Omega.{arith}
use lib.Dec.{leb}
use lib.IntN.{ℤ}
use lib.ListN.{length, replicate}
use Rattle.model.specs.Common.{sum_from, list_from, every, number_at, bytes_of}
use Rattle.model.specs.Spans.{Span, group_count, frame_count, meets, holds}
use Rattle.model.specs.Log.{record_length, record_bytes, record_at, record_count, twins, is_first, records, meeting, sum, aggregate, aggregated, value}
use Rattle.model.specs.Blocks.{segment_at, squared}
use Rattle.model.specs.Split.{Reduced, most_rows, reduced}
use Rattle.model.specs.Slot.{slot_length, by_bound, by_windows, row_bytes, rows_bytes, used_bytes, slot_bytes, row_place, slot_mark, slot_kind, slot_count, slot_error, slot_row, slot_rows, value_in}
use Rattle.model.specs.Questions.{refused, accepted, ask, ask_room, outcome, each, marked, kind_known, bound_known, group_known, most_records, span_questions, record_questions, twin_questions, log_questions, order_questions, ask_width, width_known}
use Rattle.model.specs.Questions.{lent, follows, in_order, row_known, row_questions, error_known, header_marked, slot_questions}
use Rattle.model.specs.Calls.{Counts, log_segments, answer_of, counts_of, query_outcome, cuts_weighed, query_weighed, bound_of, letter_weighed, Header, read_outcome, read_rows}
use Rattle.model.specs.Guarantee.{Choices, LeastOfFewest, WithinShare, Exceeds, BestOfLimit, BestOfShare, BestRows, NoRows}
use Rattle.model.specs.Fitting.{hits, due, FitsFor, frame_cost, over_frames, squared_error, whole, row_lists}
use Rattle.model.specs.Demands.{AllPass, Reads, BestSlot, QueryPromise, LetterPromise, SaysTooFew}
use Rattle.model.specs.declared.Bound.{Bound}
use Rattle.model.specs.declared.Bound.TheVariants.{Rows, Share}
use Rattle.model.proofs.Page.{horizon, value_none}
use Rattle.model.proofs.Tail.{walked, tail_walked}
use Rattle.model.proofs.Cases.{span, log_g, segments_g, rows_g, bytes, query, worked_cases}
use Rattle.theory.proofs.Refusals.{outcome_accepted, accepted≢refused, accepted_inj}
use Rattle.theory.proofs.Guarantee.{one_least_lem}
use Rattle.theory.proofs.Pages.{all_from, on_page, exact_on, page_fits, page_error, value_on_page}
use Rattle.theory.proofs.Demands.{demand3, query_promise}

-- ---- fitting lists of two logs, and their squared errors, frame by frame

-- loads 0, 1, 0 over frames 0 to 2
abbrev log_tie : List (Span ℕ)
log_tie = span 0 0 0 0 ∷ span 0 1 1 1 ∷ span 0 2 2 0 ∷ []

-- the list fits the log, of kind 0, with this squared error
abbrev pub Fit : List (Span ℕ) → ℕ → List (Span ℕ) → Type 0
Fit log error rows = FitsFor 0 (value 0 1 log) (map whole rows) × (squared_error (value 0 1 log) (map whole rows) ≡ error)

-- as a page shows
abbrev pub OnPage : List (Span ℕ) → ℕ → List (Span ℕ) → Type 0
OnPage log error rows =
    (leb (horizon 1 log) frame_count ≡ true) × (on_page group_count (horizon 1 log) (map whole rows) ≡ true)
    × (exact_on (value 0 1 log) group_count (horizon 1 log) (map whole rows) ≡ true)
    × (over_frames group_count (horizon 1 log) (λ g f. frame_cost squared (value 0 1 log g f) (value_in (map whole rows) g f)) ≡ error)

pub fit : (log : List (Span ℕ)) (error : ℕ) (rows : List (Span ℕ)) → OnPage log error rows → Fit log error rows
fit log error rows (short, on, exact, sums) = (
  record {
    covers = page_fits (value 0 1 log) group_count (horizon 1 log) (value_on_page 0 1 log) (map whole rows) on exact;
    nowhere_below = λ is. absurd (omega arith);
  },
  page_error 0 1 log (map whole rows) short ∙ sums,
)

-- G with one row per run, with its best five rows, and with another four
abbrev pub runs_g : List (Span ℕ)
runs_g = span 0 0 6 201 ∷ span 0 9 10 50 ∷ span 1 0 0 7 ∷ []

abbrev five_g : List (Span ℕ)
five_g = span 0 0 1 100 ∷ span 0 2 3 300 ∷ span 0 4 6 203 ∷ span 0 9 10 50 ∷ span 1 0 0 7 ∷ []

abbrev other_g : List (Span ℕ)
other_g = span 0 0 5 200 ∷ span 0 6 6 210 ∷ span 0 9 10 50 ∷ span 1 0 0 7 ∷ []

pages : OnPage log_g 40087 runs_g × OnPage log_g 11280 rows_g × OnPage log_g 0 segments_g
    × OnPage log_tie 1 (span 0 0 2 0 ∷ [])
unfolding horizon all_from on_page exact_on group_count frame_count hits due holds meets value meeting aggregated aggregate sum over_frames sum_from frame_cost value_in squared whole
pages = (
  (refl, refl, refl, refl),
  (refl, refl, refl, refl),
  (refl, refl, refl, refl),
  (refl, refl, refl, refl),
)

abbrev pub val_g : ℕ → ℕ → Option ℕ
val_g = value 0 1 log_g

-- the lists of rows that fit G, by a kind
abbrev pub lists_of : ℕ → Choices (List (Span ℤ))
lists_of kind = row_lists kind (value kind 1 log_g)

abbrev lists_g : Choices (List (Span ℤ))
lists_g = lists_of 0

runs_fit : Fit log_g 40087 runs_g
runs_fit = fit log_g 40087 runs_g pages.0

pub four_fit : Fit log_g 11280 rows_g
four_fit = fit log_g 11280 rows_g pages.1

segments_fit : Fit log_g 0 segments_g
segments_fit = fit log_g 0 segments_g pages.2

one_fit : Fit log_tie 1 (span 0 0 2 0 ∷ [])
one_fit = fit log_tie 1 (span 0 0 2 0 ∷ []) pages.3

-- ---- demand 3 of log G

-- the bytes of G are read to its records
pub decoded : records (bytes log_g) ≡ log_g
unfolding records record_count record_length list_from record_at number_at record_bytes bytes_of
decoded = refl

module _ (kind : ℕ) where
  -- a query of G is in order
  pub in_order_lem : (bound : Bound) → kind_known kind ≡ true → bound_known bound ≡ true
      → AllPass (order_questions (query kind bound) (bytes log_g))
  unfolding order_questions log_questions record_count twins is_first record_length most_records each record_questions twin_questions span_questions marked group_known record_at every number_at record_bytes bytes_of ask ask_width width_known outcome
  in_order_lem bound known in_range =
      (outcome_accepted (order_questions (query kind bound) (bytes log_g)) (tt {0}) (tt {0}) (rw (known, in_range))).0

  -- what demand 3 says of its 'too few rows'
  says_g : (bound : Bound) → kind_known kind ≡ true → bound_known bound ≡ true
      → SaysTooFew (query kind bound) (bytes log_g) (query_outcome (query kind bound) (bytes log_g) 768)
  unfolding slot_length
  says_g bound known in_range =
      demand3.too_few (query kind bound) (bytes log_g) (replicate 768 0) (omega arith) (in_order_lem bound known in_range)

  -- and of an accepted query's rows
  pub best_g : (bound : Bound) (a : Reduced) → query_outcome (query kind bound) (bytes log_g) 768 ≡ accepted (counts_of a)
      → reduced kind bound (log_segments kind 1 (bytes log_g)) ≡ some a
      → BestRows (lists_of kind) bound a.error (map whole a.rows)
  unfolding answer_of
  best_g bound a ok is =
      let b = demand3.best (query kind bound) (bytes log_g) (replicate 768 0) (counts_of a) ok in
      let answer : answer_of (query kind bound) (bytes log_g) ≡ a = rw is in
      let error : b.error ≡ a.error = b.answer_error ∙ ap (λ (r : Reduced). r.error) answer in
      let rows : b.rows ≡ a.rows = b.answer_rows ∙ ap (λ (r : Reduced). r.rows) answer in
      subst (λ rs. BestRows (row_lists kind (value kind 1 rs)) bound a.error (map whole a.rows)) decoded
      (rw (error, rows) at b.best)

  -- no two rows fit
  two_never : kind_known kind ≡ true → query_outcome (query kind (Rows 2)) (bytes log_g) 768 ≡ refused 10 0
      → NoRows (lists_of kind) (Rows 2)
  unfolding bound_known most_rows
  two_never known two =
      subst (λ rs. NoRows (row_lists kind (value kind 1 rs)) (Rows 2)) decoded ((says_g (Rows 2) known refl).0 two)

  -- so the least squared error of three rows is that of the fewest
  pub least_of_three : (error : ℕ) (rows : List (Span ℕ)) → kind_known kind ≡ true
      → query_outcome (query kind (Rows 2)) (bytes log_g) 768 ≡ refused 10 0
      → BestOfLimit (lists_of kind) 3 error (map whole rows) → length (map whole rows) ≡ 3 → LeastOfFewest (lists_of kind) error
  least_of_three error rows known two b three =
      record {
        choice = map whole rows;
        fits = b.fits;
        error = b.has_error;
        fewest = λ other f.
            elim (dec_le 3 (length other)) [ yes h ↦ omega arith | no h ↦ absurd (two_never known two other f (omega arith)) ];
        least = λ other f size. b.least other f (omega arith);
      }

-- the query of G with c = 2 is refused
two_refused : query_outcome (query 0 (Rows 2)) (bytes log_g) 768 ≡ refused 10 0
two_refused = worked_cases.0.1.0.1.0

-- three are no better than one for each run
three_best : BestOfLimit lists_g 3 40087 (map whole runs_g)
three_best =
    let three = worked_cases.0.1.1.0.1 in
    best_g 0 (Rows 3) (record { rows = runs_g; error = 40087; weighed = 13 }) three.0 three.1

-- so the least squared error of the fewest rows is 40,087
least_g : LeastOfFewest lists_g 40087
unfolding kind_known
least_g = least_of_three 0 40087 runs_g refl two_refused three_best refl

-- ---- lists that do not fit

-- a covered frame left out: frame 0 of group 1 (exact)
pub frame_left_out : FitsFor 0 val_g (map whole (span 0 0 6 201 ∷ span 0 9 10 50 ∷ [])) → ⊥
unfolding hits due holds meets value meeting aggregated aggregate sum group_count frame_count whole
frame_left_out f = omega (arith, f.covers.exact 1 0)

-- a row across frames 7 and 8, which are not covered (exact)
pub row_across_gap : FitsFor 0 val_g (map whole (span 0 0 10 165 ∷ span 1 0 0 7 ∷ [])) → ⊥
unfolding hits due holds meets value meeting aggregated aggregate sum group_count frame_count whole
row_across_gap f = omega (arith, f.covers.exact 0 7)

-- a covered frame in two rows (exact)
pub frame_twice : FitsFor 0 val_g (map whole (span 0 0 6 201 ∷ span 0 6 6 210 ∷ span 0 9 10 50 ∷ span 1 0 0 7 ∷ [])) → ⊥
unfolding hits due holds meets value meeting aggregated aggregate sum group_count frame_count whole
frame_twice f = omega (arith, f.covers.exact 0 6)

-- a row where there is no frame: 65,536 has no value (exact)
pub row_past_the_last_frame : FitsFor 0 val_g (map whole (span 0 65536 65536 0 ∷ runs_g)) → ⊥
unfolding hits due holds meets value meeting aggregated aggregate sum group_count frame_count whole
row_past_the_last_frame f = omega (arith, f.covers.exact 0 65536)

-- a row that ends before it begins, which contains no frame (ordered)
pub row_backwards : FitsFor 0 val_g (map whole (span 0 5 4 0 ∷ runs_g)) → ⊥
unfolding whole
row_backwards f = omega (arith, f.covers.ordered (whole (span 0 5 4 0)) (Memᴰ.head refl))

-- ---- the share's least error

only_least_g : (L : ℕ) → LeastOfFewest lists_g L → L ≡ 40087
only_least_g L is = omega (arith, one_least_lem lists_g L 40087 is least_g, one_least_lem lists_g 40087 L least_g is)

-- 0 is not the error of three rows (fits, fewest), 11,280 is that of four (fewest), 40,086 of no list (error), and 40,088
-- would not be the least (least)
pub least_of_no_rows : LeastOfFewest lists_g 0 → ⊥
least_of_no_rows is = omega (arith, only_least_g 0 is)

pub least_of_four_rows : LeastOfFewest lists_g 11280 → ⊥
least_of_four_rows is = omega (arith, only_least_g 11280 is)

pub least_too_low : LeastOfFewest lists_g 40086 → ⊥
least_too_low is = omega (arith, only_least_g 40086 is)

pub least_too_high : LeastOfFewest lists_g 40088 → ⊥
least_too_high is = omega (arith, only_least_g 40088 is)

-- with p = 281 the four rows are not within the share (met, and isLeast: a greater error would do)
pub four_exceed_281 : WithinShare lists_g 281 (map whole rows_g) → ⊥
four_exceed_281 w =
    let error = four_fit.1 in
    let of = only_least_g w.of w.is_least in
    let met = w.met in
    omega arith

-- with p = 282 they are
four_within_282 : WithinShare lists_g 282 (map whole rows_g)
four_within_282 = let error = four_fit.1 in record { of = 40087; is_least = least_g; met = omega arith }

-- ---- a row limit

-- one row per run, where four rows may be had (least)
pub one_row_per_run : BestOfLimit lists_g 4 40087 (map whole runs_g) → ⊥
one_row_per_run b =
    let error = four_fit.1 in
    let less = b.least (map whole rows_g) four_fit.0 (omega arith) in
    omega arith

-- the right rows, with an error one too low or too high (hasError)
pub error_too_low : BestOfLimit lists_g 4 11279 (map whole rows_g) → ⊥
error_too_low b = omega (arith, b.has_error, four_fit.1)

pub error_too_high : BestOfLimit lists_g 4 11281 (map whole rows_g) → ⊥
error_too_high b = omega (arith, b.has_error, four_fit.1)

-- four rows with a limit of three (count)
pub row_over_limit : BestOfLimit lists_g 3 11280 (map whole rows_g) → ⊥
row_over_limit b = omega (arith, b.count)

-- loads 0, 1, 0 with a limit of two: two rows have the right error, and so has one (fewest)
pub row_too_many : BestOfLimit (row_lists 0 (value 0 1 log_tie)) 2 1 (map whole (span 0 0 1 0 ∷ span 0 2 2 0 ∷ [])) → ⊥
row_too_many b = omega (arith, b.fewest (map whole (span 0 0 2 0 ∷ [])) one_fit.0 (omega arith) one_fit.1)

-- rows with less error that leave a frame out (fits)
pub cheaper_without_a_frame : BestOfLimit lists_g 2 40087 (map whole (span 0 0 6 201 ∷ span 0 9 10 50 ∷ [])) → ⊥
cheaper_without_a_frame b = frame_left_out b.fits

-- ---- a share

-- p = 281: four rows exceed it (met)
pub four_rows_for_281 : BestOfShare lists_g 281 11280 (map whole rows_g) → ⊥
four_rows_for_281 b = four_exceed_281 b.met

-- p = 282: five rows are not the fewest (fewest)
pub five_rows_for_282 : BestOfShare lists_g 282 67 (map whole five_g) → ⊥
five_rows_for_282 b = b.fewest (map whole rows_g) four_fit.0 (omega arith) four_within_282

-- p = 999: four rows within the share, though others have less error (least)
pub other_rows_for_999 : BestOfShare lists_g 999 40000 (map whole other_g) → ⊥
other_rows_for_999 b =
    let error = four_fit.1 in
    let less = b.least (map whole rows_g) four_fit.0 refl in
    omega arith

-- p = 282: the right rows, with an error one too low or too high (hasError)
pub share_error_too_low : BestOfShare lists_g 282 11279 (map whole rows_g) → ⊥
share_error_too_low b = omega (arith, b.has_error, four_fit.1)

pub share_error_too_high : BestOfShare lists_g 282 11281 (map whole rows_g) → ⊥
share_error_too_high b = omega (arith, b.has_error, four_fit.1)

-- p = 1,000: rows that leave a frame out (fits)
pub share_without_a_frame : BestOfShare lists_g 1000 40087 (map whole (span 0 0 6 201 ∷ span 0 9 10 50 ∷ [])) → ⊥
share_without_a_frame b = frame_left_out b.fits

-- ---- 'too few rows'

-- said of G with c = 3
pub said_of_three : SaysTooFew (query 0 (Rows 3)) (bytes log_g) (refused 10 0) → ⊥
said_of_three says =
    subst (λ rs. NoRows (row_lists 0 (value 0 1 rs)) (Rows 3)) decoded (says.0 refl) (map whole runs_g) runs_fit.0 (omega arith)

-- not said of G with c = 2
pub not_said_of_two : (counts : Counts) → SaysTooFew (query 0 (Rows 2)) (bytes log_g) (accepted counts) → ⊥
unfolding kind_known
not_said_of_two counts says =
    accepted≢refused (says.1 (subst (λ rs. NoRows (row_lists 0 (value 0 1 rs)) (Rows 2)) (sym decoded) (two_never 0 refl two_refused)))

-- said of G with p = 0: its segments are within every share
pub said_of_a_share : SaysTooFew (query 0 (Share 0)) (bytes log_g) (refused 10 0) → ⊥
unfolding most_rows
said_of_a_share says =
    let error = segments_fit.1 in
    subst (λ rs. NoRows (row_lists 0 (value 0 1 rs)) (Share 0)) decoded (says.0 refl) (map whole segments_g) segments_fit.0 (omega arith)
    (record { of = 40087; is_least = least_g; met = omega arith })

-- ---- what is read from a slot

-- the slots of G's four rows, of the same rows with another error, of one row per run, and of its five rows; and a slot of
-- zeros
pub readings : Reads (slot_bytes by_bound 0 11280 rows_g) by_bound 0 11280 rows_g
    × Reads (slot_bytes by_bound 0 11281 rows_g) by_bound 0 11281 rows_g
    × Reads (slot_bytes by_bound 0 40087 runs_g) by_bound 0 40087 runs_g
    × Reads (slot_bytes by_bound 0 67 five_g) by_bound 0 67 five_g
    × (read_outcome (replicate 768 0) ≡ refused 11 0)
unfolding walked list_from number_at bytes_of slot_length row_bytes rows_bytes used_bytes slot_bytes row_place slot_mark slot_kind slot_count slot_error slot_row slot_rows ask outcome lent each marked ask_room kind_known group_known most_rows follows in_order row_known row_questions error_known header_marked slot_questions read_outcome read_rows
readings = (
  record { header = rw tail_walked; body = rw tail_walked },
  record { header = rw tail_walked; body = rw tail_walked },
  record { header = rw tail_walked; body = rw tail_walked },
  record { header = rw tail_walked; body = rw tail_walked },
  refl,
)

-- a slot is read to one mark, one kind, one error and one list of rows
pub one_reading : (slot : List ℕ) (mark mark' kind kind' error error' : ℕ) (rows rows' : List (Span ℕ))
    → Reads slot mark kind error rows → Reads slot mark' kind' error' rows'
    → (mark ≡ mark') × (kind ≡ kind') × (error ≡ error') × (rows ≡ rows')
one_reading slot mark mark' kind kind' error error' rows rows' a b =
    let same = accepted_inj (sym a.header ∙ b.header) in (
      ap (λ (h : Header). h.mark) same,
      ap (λ (h : Header). h.kind) same,
      ap (λ (h : Header). h.error) same,
      sym a.body ∙ b.body,
    )

-- another mark, another kind, another error (header)
pub read_to_another_mark : Reads (slot_bytes by_bound 0 11280 rows_g) by_windows 0 11280 rows_g → ⊥
read_to_another_mark r = omega (arith, (one_reading _ by_windows by_bound _ _ _ _ _ _ r readings.0).0)

pub read_to_another_kind : Reads (slot_bytes by_bound 0 11280 rows_g) by_bound 1 11280 rows_g → ⊥
read_to_another_kind r = omega (arith, (one_reading _ _ _ 1 0 _ _ _ _ r readings.0).1)

pub read_to_another_error : Reads (slot_bytes by_bound 0 11280 rows_g) by_bound 0 11281 rows_g → ⊥
read_to_another_error r = omega (arith, (one_reading _ _ _ _ _ 11281 11280 _ _ r readings.0).2)

-- other rows, as many (body)
pub read_to_other_rows : Reads (slot_bytes by_bound 0 11280 rows_g) by_bound 0 11280 other_g → ⊥
unfolding segment_at
read_to_other_rows r =
    omega (arith, ap (λ l. (segment_at l 0).last) (one_reading _ _ _ _ _ _ _ other_g rows_g r readings.0).3)

-- ---- the slot that a query leaves

pub four_outcome : query_outcome (query 0 (Rows 4)) (bytes log_g) 768 ≡ accepted (record { rows = 4; error = 11280; weighed = 16 })
unfolding counts_of
four_outcome = worked_cases.0.1.1.1.0.1.0

-- the answer to G with c = 4
pub four_answer : answer_of (query 0 (Rows 4)) (bytes log_g) ≡ record { rows = rows_g; error = 11280; weighed = 16 }
unfolding answer_of
four_answer = ap (λ o. get_or o (record { rows = []; error = 0; weighed = 0 })) worked_cases.0.1.1.1.0.1.1

-- a slot of zeros (reads)
pub slot_untouched : BestSlot (query 0 (Rows 4)) (bytes log_g) (replicate 768 0) → ⊥
slot_untouched b = accepted≢refused (sym b.reads.header ∙ readings.4)

-- the right rows with another error in the header (answerError)
pub slot_with_another_error : BestSlot (query 0 (Rows 4)) (bytes log_g) (slot_bytes by_bound 0 11281 rows_g) → ⊥
slot_with_another_error b =
    let error = (one_reading _ _ _ _ _ _ _ _ _ b.reads readings.1).2 in
    let answer = b.answer_error ∙ ap (λ (a : Reduced). a.error) four_answer in
    omega arith

-- one row per run (answerRows)
pub slot_with_other_rows : BestSlot (query 0 (Rows 4)) (bytes log_g) (slot_bytes by_bound 0 40087 runs_g) → ⊥
unfolding segment_at
slot_with_other_rows b =
    let rows = (one_reading _ _ _ _ _ _ _ _ _ b.reads readings.2).3 in
    let answer = b.answer_rows ∙ ap (λ (a : Reduced). a.rows) four_answer in
    omega (arith, ap (λ l. (segment_at l 0).last) (sym rows ∙ answer))

-- and the same slot, not asking what the paper's answer is (best)
pub slot_not_best : BestSlot (query 0 (Rows 4)) (bytes log_g) (slot_bytes by_bound 0 40087 runs_g) → ⊥
slot_not_best b =
    let (mark, kind, error, rows) = one_reading _ _ _ _ _ _ _ _ _ b.reads readings.2 in
    one_row_per_run
    (subst (λ rs. BestOfLimit (row_lists 0 (value 0 1 rs)) 4 40087 (map whole runs_g)) decoded (rw (error, rows) at b.best))

-- five rows for p = 282 (best, with a share)
pub slot_not_fewest : BestSlot (query 0 (Share 282)) (bytes log_g) (slot_bytes by_bound 0 67 five_g) → ⊥
slot_not_fewest b =
    let (mark, kind, error, rows) = one_reading _ _ _ _ _ _ _ _ _ b.reads readings.3 in
    five_rows_for_282
    (subst (λ rs. BestOfShare (row_lists 0 (value 0 1 rs)) 282 67 (map whole five_g)) decoded (rw (error, rows) at b.best))

-- ---- what the calls promise beyond their equations

four_weighed : query_weighed (query 0 (Rows 4)) (bytes log_g) 768 ≡ 16
unfolding cuts_weighed
four_weighed =
    sym (query_promise (query 0 (Rows 4)) (bytes log_g) (replicate 768 0) _ _ refl refl).weighed ∙ ap cuts_weighed four_outcome

-- an invented count of cuts (weighed)
pub cuts_invented : (after : List ℕ)
    → QueryPromise (query 0 (Rows 4)) (bytes log_g) (replicate 768 0)
    (accepted (record { rows = 4; error = 11280; weighed = 15 })) after
    → ⊥
unfolding cuts_weighed
cuts_invented after p = omega (arith, p.weighed ∙ four_weighed)

-- success over an untouched slot (best)
pub success_over_untouched : (counts : Counts)
    → QueryPromise (query 0 (Rows 4)) (bytes log_g) (replicate 768 0) (accepted counts) (replicate 768 0) → ⊥
success_over_untouched counts p = slot_untouched (p.best counts refl)

-- 'too few rows' before the runs are counted (tooFew)
pub ten_before_runs : (after : List ℕ)
    → QueryPromise (query 0 (Rows 3)) (bytes log_g) (replicate 768 0) (refused 10 0) after → ⊥
unfolding slot_length kind_known bound_known most_rows
ten_before_runs after p = said_of_three (p.too_few (omega arith) (in_order_lem 0 (Rows 3) refl refl))

-- cuts weighed for a letter that names no bound (weighed)
pub cuts_for_no_letter : (after : List ℕ)
    → LetterPromise 0 0x41 4 1 (bytes log_g) (replicate 768 0) (accepted (record { rows = 0; error = 0; weighed = 1 })) after → ⊥
unfolding cuts_weighed letter_weighed bound_of
cuts_for_no_letter after p = omega (arith, p.weighed)

-- 'too few rows' for the letter 52 and c = 3 (named)
pub ten_by_letter : (after : List ℕ)
    → LetterPromise 0 0x52 3 1 (bytes log_g) (replicate 768 0) (refused 10 0) after → ⊥
unfolding bound_of
ten_by_letter after p = ten_before_runs after (p.named (Rows 3) refl)

-- ---- the rest of demand 3

-- a row where nothing is covered (uncovered)
pub row_on_nothing : FitsFor 0 (value 0 1 []) (map whole (span 0 0 0 0 ∷ [])) → ⊥
unfolding horizon
row_on_nothing f =
    omega (
      arith,
      ap length ((demand3.uncovered 0 (value 0 1 []) (λ g f. value_none 0 1 [] g f zero-le) (map whole (span 0 0 0 0 ∷ []))).0 f),
    )

-- every list exceeds every share (oneLeast: there is one)
pub everything_exceeds : ((rows : List (Span ℤ)) → Exceeds lists_g 1000 rows) → ⊥
everything_exceeds none_within =
    let (L, is, only) = demand3.one_least 0 1 (bytes log_g) in
    let here : LeastOfFewest lists_g L = subst (λ rs. LeastOfFewest (row_lists 0 (value 0 1 rs)) L) decoded is in
    let error = here.error in
    none_within here.choice (record { of = L; is_least = here; met = omega arith })

-- two errors are the least (oneLeast: there is no other)
pub two_least : (L : ℕ) → LeastOfFewest lists_g L → LeastOfFewest lists_g (suc L) → ⊥
two_least L is other =
    let (M, least, only) = demand3.one_least 0 1 (bytes log_g) in
    omega (
      arith,
      only L (subst (λ rs. LeastOfFewest (row_lists 0 (value 0 1 rs)) L) (sym decoded) is),
      only (suc L) (subst (λ rs. LeastOfFewest (row_lists 0 (value 0 1 rs)) (suc L)) (sym decoded) other),
    )
