-- Wrong answers about a slot and its log that the demands reject, each by the clause that its comment names. The log is G, of kind 0 with
-- four rows and the error 11,280, and of kind 3. Assumes nothing.
use Prim.Native.Nat.{ℕ, ◌≤◌}
use mathlib.Core.List.{List, [], ◌∷◌, map}
use mathlib.Core.Path.{◌≡◌, refl, sym, ap, ◌∙◌, subst}
use native.Mathlib.Omega.{arith}
use lib.ListN.{length, replicate}
use Rattle.model.specs.Common.{sum_from, list_from, number_at, bytes_of}
use Rattle.model.specs.Spans.{Span, group_count, frame_count, meets, holds}
use Rattle.model.specs.Log.{record_length, meeting, sum, aggregate, aggregated, greatest_kind, value}
use Rattle.model.specs.Blocks.{squared}
use Rattle.model.specs.Split.{most_rows}
use Rattle.model.specs.Slot.{slot_length, by_bound, by_windows, row_bytes, rows_bytes, used_bytes, slot_bytes, row_place, slot_mark, slot_kind, slot_count, slot_error, slot_row, slot_rows, value_in}
use Rattle.model.specs.Questions.{refused, accepted, ask, ask_room, outcome, lent, each, marked, kind_known, bound_known, group_known, log_questions, order_questions, width_known}
use Rattle.model.specs.Questions.{follows, in_order, row_known, row_questions, error_known, header_marked, slot_questions}
use Rattle.model.specs.Calls.{Counts, read_outcome, read_rows}
use Rattle.model.specs.Fitting.{hits, due, FitsFor, frame_cost, over_frames, squared_error, whole}
use Rattle.model.specs.Check.{check_questions, check_outcome}
use Rattle.model.specs.Demands.{AllPass, Reads, Shuffled, Agrees, NoBetter, CheckPromise, QueryPromise}
use Rattle.model.specs.declared.Bound.TheVariants.{Rows}
use Rattle.model.proofs.Page.{horizon}
use Rattle.model.proofs.Tail.{walked, tail_walked}
use Rattle.model.proofs.Cases.{span, log_g, rows_g, bytes, query}
use Rattle.theory.proofs.Tests.{true≢false}
use Rattle.theory.proofs.Refusals.{accepted≢refused, accepted_inj, all_head, all_tail, outcome_accepted, all_outcome}
use Rattle.theory.proofs.Pages.{all_from, on_page, exact_on}
use Rattle.theory.proofs.Check.{in_parts, not_by_windows_lem}
use Rattle.theory.proofs.SlotLaws.{long_slot_bytes}
use Rattle.theory.proofs.RefutedCalls.{refused_number}
use Rattle.theory.proofs.Refutations.{OnPage, fit, decoded, val_g, four_fit, readings, one_reading, four_outcome, frame_left_out, row_across_gap, in_order_lem}
use Rattle.theory.proofs.RefutedGreatest.{short_g3, one_below_greatest}
use Rattle.theory.proofs.RefutedOrder.{log, other, swapped}

-- ---- slots of G

-- rows that leave a frame out, that reach across a gap, and that are cut finer than they need be
abbrev left_out : List (Span ℕ)
left_out = span 0 0 6 201 ∷ span 0 9 10 50 ∷ []

abbrev across : List (Span ℕ)
across = span 0 0 10 165 ∷ span 1 0 0 7 ∷ []

abbrev finer : List (Span ℕ)
finer = span 0 0 0 100 ∷ span 0 1 1 100 ∷ span 0 2 6 242 ∷ span 0 9 10 50 ∷ span 1 0 0 7 ∷ []

abbrev slot_of : ℕ → ℕ → List (Span ℕ) → List ℕ
slot_of kind error rows = slot_bytes by_bound kind error rows

read : Reads (slot_of 0 40087 left_out) by_bound 0 40087 left_out
    × Reads (slot_of 0 11280 across) by_bound 0 11280 across
    × Reads (slot_of 0 11280 finer) by_bound 0 11280 finer
    × Reads (slot_of greatest_kind 24087 short_g3) by_bound greatest_kind 24087 short_g3
    × Reads (slot_bytes by_windows 0 0 rows_g) by_windows 0 0 rows_g
    × Reads (slot_of 0 11279 rows_g) by_bound 0 11279 rows_g
unfolding walked list_from number_at bytes_of slot_length row_bytes rows_bytes used_bytes slot_bytes row_place slot_mark slot_kind slot_count slot_error slot_row slot_rows ask outcome lent each marked ask_room kind_known group_known most_rows follows in_order row_known row_questions error_known header_marked slot_questions read_outcome read_rows
read = (
  record { header = rw tail_walked; body = rw tail_walked },
  record { header = rw tail_walked; body = rw tail_walked },
  record { header = rw tail_walked; body = rw tail_walked },
  record { header = rw tail_walked; body = rw tail_walked },
  record { header = rw tail_walked; body = rw tail_walked },
  record { header = rw tail_walked; body = rw tail_walked },
)

-- the finer rows fit, with the error of the four
finer_page : OnPage log_g 11280 finer
unfolding horizon all_from on_page exact_on group_count frame_count hits due holds meets value meeting aggregated aggregate sum over_frames sum_from frame_cost value_in squared whole
finer_page = (refl, refl, refl, refl)

logged : AllPass (log_questions (bytes log_g))
unfolding order_questions kind_known bound_known most_rows
logged = all_tail _ _ (all_tail _ _ (all_tail _ _ (in_order_lem 0 (Rows 4) refl refl)))

-- what it means for a slot that is read so to agree with G
fits_g : (kind error : ℕ) (rows : List (Span ℕ)) → Reads (slot_of kind error rows) by_bound kind error rows
    → Agrees 1 (bytes log_g) (slot_of kind error rows)
    → FitsFor kind (value kind 1 log_g) (map whole rows) × (squared_error (value kind 1 log_g) (map whole rows) ≡ error)
fits_g kind error rows is a =
    let (mark, same_kind, same_error_lem, same_rows) = one_reading _ _ _ _ _ _ _ _ _ a.reads is in
    let fits = rw (same_kind, same_rows) at a.fits in
    let sums = rw (same_kind, same_rows, same_error_lem) at a.has_error in
    subst (λ rs. FitsFor kind (value kind 1 rs) (map whole rows) × (squared_error (value kind 1 rs) (map whole rows) ≡ error)) decoded (fits, sums)

agrees_g : (error : ℕ) (rows : List (Span ℕ)) → Reads (slot_of 0 error rows) by_bound 0 error rows
    → FitsFor 0 val_g (map whole rows) × (squared_error val_g (map whole rows) ≡ error) → Agrees 1 (bytes log_g) (slot_of 0 error rows)
unfolding width_known
agrees_g error rows is both =
    let (fits, sums) =
    subst (λ rs. FitsFor 0 (value 0 1 rs) (map whole rows) × (squared_error (value 0 1 rs) (map whole rows) ≡ error)) (sym decoded) both in
    record { kind = 0; error = error; rows = rows; known = refl; log_passes = logged; reads = is; fits = fits; has_error = sums }

-- ---- accepted though they do not agree (exactly)

-- a frame left out, and a row across a gap (covers)
pub frame_left_out_accepted : CheckPromise 1 (bytes log_g) (slot_of 0 40087 left_out) (accepted tt) → ⊥
frame_left_out_accepted p = frame_left_out (fits_g 0 40087 left_out read.0 (p.exactly.0 refl)).0

pub gap_accepted : CheckPromise 1 (bytes log_g) (slot_of 0 11280 across) (accepted tt) → ⊥
gap_accepted p = row_across_gap (fits_g 0 11280 across read.1 (p.exactly.0 refl)).0

-- a row of kind 3 that falls short (nowhereBelow)
pub short_accepted : CheckPromise 1 (bytes log_g) (slot_of greatest_kind 24087 short_g3) (accepted tt) → ⊥
unfolding whole
short_accepted p = one_below_greatest (fits_g greatest_kind 24087 short_g3 read.3 (p.exactly.0 refl)).0

-- the right rows with another error (hasError)
pub error_accepted : CheckPromise 1 (bytes log_g) (slot_of 0 11281 rows_g) (accepted tt) → ⊥
error_accepted p = omega (arith, (fits_g 0 11281 rows_g readings.1 (p.exactly.0 refl)).1, four_fit.1)

-- a slot by windows (reads)
pub windows_accepted : CheckPromise 1 (bytes log_g) (slot_bytes by_windows 0 0 rows_g) (accepted tt) → ⊥
windows_accepted p =
    let a = p.exactly.0 refl in
    omega (arith, (one_reading _ by_bound by_windows _ _ _ _ _ _ a.reads read.4).0)

-- a log of one byte (logPasses)
pub log_accepted : (slot : List ℕ) → CheckPromise 1 (0 ∷ []) slot (accepted tt) → ⊥
unfolding log_questions record_length ask
log_accepted slot p = true≢false (sym (all_head _ _ (p.exactly.0 refl).log_passes))

-- ---- refused though they agree (exactly)

-- the tool's own rows, and rows cut finer
pub own_refused : (number index : ℕ) → CheckPromise 1 (bytes log_g) (slot_of 0 11280 rows_g) (refused number index) → ⊥
own_refused number index p = accepted≢refused (sym (p.exactly.1 (agrees_g 11280 rows_g readings.0 four_fit)))

pub finer_refused : (number index : ℕ) → CheckPromise 1 (bytes log_g) (slot_of 0 11280 finer) (refused number index) → ⊥
finer_refused number index p = accepted≢refused (sym (p.exactly.1 (agrees_g 11280 finer read.2 (fit log_g 11280 finer finer_page))))

-- ---- what else is promised

-- four rows with a smaller error than the tool's own four (noBetter)
pub better_than_own : ((room : ℕ) → slot_length ≤ room → NoBetter 1 (bytes log_g) (slot_of 0 11279 rows_g) room) → ⊥
unfolding slot_length
better_than_own no_better_lem =
    let b = no_better_lem 768 (omega arith) in
    let (mark, kind, error, rows) = one_reading _ _ _ _ _ _ _ _ _ b.reads read.5 in
    let own = accepted_inj (sym (rw (kind, rows) at b.answers) ∙ four_outcome) in
    omega (arith, b.as_great_an_error, ap (λ (c : Counts). c.error) own)

-- an answer of its own with more rows (asManyRows)
pub own_of_more_rows : (b : NoBetter 1 (bytes log_g) (slot_of 0 11279 rows_g) 768) → b.own.rows ≡ 5 → ⊥
own_of_more_rows b five =
    let rows = (one_reading _ _ _ _ _ _ _ _ _ b.reads read.5).3 in
    omega (arith, b.as_many_rows, ap length rows)

-- a query that leaves a slot of zeros (passes)
pub query_not_passed : (counts : Counts)
    → QueryPromise (query 0 (Rows 4)) (bytes log_g) (replicate 768 0) (accepted counts) (replicate 768 0) → ⊥
unfolding check_outcome read_outcome
query_not_passed counts p =
    let (known, logs, slots, mark, rest) =
    in_parts 1 (bytes log_g) (replicate 768 0) (outcome_accepted (check_questions 1 (bytes log_g) (replicate 768 0)) tt tt (p.passes counts refl)).0 in
    accepted≢refused (sym (all_outcome (slot_questions (replicate 768 0)) _ slots) ∙ readings.4)

-- a slot by windows refused by 22, as it never is with the records in another order (anyOrder)
pub order_told : ((another : List ℕ) → Shuffled log another → refused 22 0 ≡ check_outcome 1 another (slot_bytes by_windows 0 0 rows_g)) → ⊥
unfolding slot_mark slot_bytes used_bytes width_known
order_told any_order_lem =
    omega (
      arith,
      (refused_number
          (any_order_lem other swapped
          ∙ not_by_windows_lem 1 other (slot_bytes by_windows 0 0 rows_g) (long_slot_bytes by_windows 0 0 rows_g) refl swapped.other_passes refl)
          ).0,
    )
