-- Wrong answers that the statements about twin records reject, each by the clause that its comment names: a log of the records a, b
-- and a again, of which a and b are left. Assumes nothing.
use Prim.Native.Nat.{ℕ}
use mathlib.Core.List.{List, [], ◌∷◌, ◌++◌}
use mathlib.Core.Path.{◌≡◌, refl, sym, ap, ◌∙◌}
use native.Mathlib.Omega.{arith}
use lib.ListN.{length, get_or}
use Rattle.model.specs.Common.{sum_of, list_from, every, joined, number_at, bytes_of}
use Rattle.model.specs.Spans.{group_count, frame_count, span_length, meets, adjacent}
use Rattle.model.specs.Log.{record_length, record_bytes, record_at, record_count, record_part, twins, is_first, firsts_of, without_twins, records, meeting, sum, aggregate, aggregated, value}
use Rattle.model.specs.Segments.{join, fuse, place, frames_from, groups_from, segments_of}
use Rattle.model.specs.Blocks.{segment_at, gap, last_gap, block, empty, totals_of, add, totals, squared, error_with, row_of}
use Rattle.model.specs.Split.{Reduced, gap_below, rows_of}
use Rattle.model.specs.Reductions.{IsReduction, reduction_error}
use Rattle.model.specs.Slot.{by_bound, slot_bytes}
use Rattle.model.specs.Questions.{refused, accepted, ask, ask_room, outcome, each, marked, kind_known, group_known, span_questions, record_questions, twin_questions, most_records, file_questions, log_questions, without_twins_questions}
use Rattle.model.specs.Calls.{log_segments, read_outcome}
use Rattle.model.specs.LowerHalves.{lower_nearest, lower_value, lower_error, lower_error_of}
use Rattle.model.specs.Demands.{AllPass, FirstNo, LowerCut, Distinct, EachOnce, FilePromise}
use Rattle.model.proofs.Page.{horizon, short_page}
use Rattle.model.proofs.Cases.{span, bytes}
use Rattle.model.proofs.TwinCases.{a, b, bad}
use Rattle.theory.proofs.Refusals.{accepted≢refused, all_outcome, first_no_outcome, outcome_accepted}
use Rattle.theory.proofs.RefutedCalls.{refused_number}
use Rattle.theory.proofs.RefutedHalves.{one_row_refused}
use Rattle.theory.proofs.Twins.{twin_records}

abbrev log : List ℕ
log = bytes (a ∷ b ∷ a ∷ [])

-- what is left of it
left : without_twins log ≡ bytes (a ∷ b ∷ [])
unfolding list_from every joined bytes_of record_length record_bytes record_count record_part twins is_first firsts_of without_twins
left = refl

-- whatever holds each record once is that
is_left : (out : List ℕ) → EachOnce log out → out ≡ bytes (a ∷ b ∷ [])
is_left out once = (twin_records.each_once log out).0 once ∙ left

-- ---- the log of a call for logs on file

-- the twin left in (once), a record lost (all), another one added (only), the last of equals kept (inOrder), half a record behind the
-- others (whole), nothing written (all)
pub twin_left_in : EachOnce log log → ⊥
unfolding record_bytes bytes_of
twin_left_in once = omega (arith, ap length (is_left log once))

pub record_lost : EachOnce log (bytes (a ∷ [])) → ⊥
unfolding record_bytes bytes_of
record_lost once = omega (arith, ap length (is_left (bytes (a ∷ [])) once))

pub record_added : EachOnce log (bytes (a ∷ b ∷ span 0 0 3 101 ∷ [])) → ⊥
unfolding record_bytes bytes_of
record_added once = omega (arith, ap length (is_left (bytes (a ∷ b ∷ span 0 0 3 101 ∷ [])) once))

pub last_kept : EachOnce log (bytes (b ∷ a ∷ [])) → ⊥
unfolding record_bytes bytes_of
last_kept once = omega (arith, ap (λ (l : List ℕ). get_or l 3 0) (is_left (bytes (b ∷ a ∷ [])) once))

pub byte_behind : EachOnce log (bytes (a ∷ b ∷ []) ++ (0x4C ∷ [])) → ⊥
unfolding record_bytes bytes_of
byte_behind once = omega (arith, ap length (is_left (bytes (a ∷ b ∷ []) ++ (0x4C ∷ [])) once))

pub nothing_written : EachOnce log [] → ⊥
unfolding record_bytes bytes_of
nothing_written once = omega (arith, ap length (is_left [] once))

-- a length that is the log's own, over a buffer to which the log was copied, and one that is a record short (eachOnce)
pub length_of_the_log : FilePromise log (accepted 27) log → ⊥
unfolding record_bytes bytes_of
length_of_the_log p = twin_left_in (p.each_once 27 refl)

pub length_one_short : FilePromise log (accepted 9) (bytes (a ∷ b ∷ [])) → ⊥
unfolding record_bytes bytes_of
length_one_short p = record_lost (p.each_once 9 refl)

-- ---- the questions of a log

-- what is asked first 'no' of each log
first_noes : (outcome (log_questions log) (tt {0}) ≡ refused 21 2) × (outcome (log_questions (bytes (a ∷ bad ∷ a ∷ []))) (tt {0}) ≡ refused 9 1)
    × (outcome (without_twins_questions log 27) (tt {0}) ≡ accepted tt)
unfolding list_from every number_at bytes_of record_length record_bytes record_at record_count twins is_first ask outcome each marked ask_room group_known span_questions record_questions twin_questions most_records file_questions log_questions without_twins_questions
first_noes = (refl, refl, refl)

-- a log with twins accepted, and one whose records are not distinct
pub twins_accepted : AllPass (log_questions log) → ⊥
twins_accepted all = accepted≢refused (sym (all_outcome (log_questions log) (tt {0}) all) ∙ first_noes.0)

pub twins_distinct : Distinct log → ⊥
unfolding record_count record_length record_part record_bytes bytes_of
twins_distinct apart = apart 0 2 (omega arith) (omega arith) refl

-- the index of the earlier one; 21 ahead of 9 of a record between them; and 21 of a call for logs on file
pub index_of_the_earlier : FirstNo (log_questions log) 21 0 → ⊥
index_of_the_earlier f = omega (arith, (refused_number (sym first_noes.0 ∙ first_no_outcome (log_questions log) (tt {0}) 21 0 f)).1)

pub twin_ahead_of_nine : FirstNo (log_questions (bytes (a ∷ bad ∷ a ∷ []))) 21 2 → ⊥
twin_ahead_of_nine f =
    omega (arith, (refused_number (sym first_noes.1 ∙ first_no_outcome (log_questions (bytes (a ∷ bad ∷ a ∷ []))) (tt {0}) 21 2 f)).0)

pub twin_on_file : FirstNo (without_twins_questions log 27) 21 2 → ⊥
twin_on_file f = accepted≢refused (sym first_noes.2 ∙ first_no_outcome (without_twins_questions log 27) (tt {0}) 21 2 f)

-- ---- slots of before

-- the record a twice: its load doubled, in one segment
doubled : log_segments 0 1 (bytes (a ∷ a ∷ [])) ≡ span 0 0 3 200 ∷ []
unfolding log_segments records record_count record_length record_at record_bytes list_from number_at bytes_of horizon group_count frame_count meets adjacent meeting sum aggregate aggregated value join fuse place frames_from groups_from segments_of
doubled = short_page 0 1 (a ∷ a ∷ []) refl

-- and in one row, with no error
abbrev doubled_row : Reduced
doubled_row = record { rows = span 0 0 3 200 ∷ []; error = 0; weighed = 0 }

doubled_cut : LowerCut 0 (span 0 0 3 200 ∷ []) doubled_row (0 ∷ []) × IsReduction (gap_below (span 0 0 3 200 ∷ [])) 1 (0 ∷ [])
unfolding rows_of row_of lower_error_of reduction_error lower_error error_with lower_value lower_nearest totals totals_of add empty span_length squared sum_of block list_from segment_at gap_below last_gap gap adjacent
doubled_cut = (record { rows = refl; error = refl }, (omega arith, omega arith, refl))

doubled_logged : AllPass (file_questions (bytes (a ∷ a ∷ [])))
unfolding file_questions record_count record_length most_records each record_questions span_questions marked group_known record_at number_at record_bytes bytes_of ask outcome
doubled_logged = (outcome_accepted (file_questions (bytes (a ∷ a ∷ []))) (tt {0}) (tt {0}) refl).0

-- a slot that was made of a log with twins refused (stillRead)
pub twin_slot_refused : (rest : List ℕ) (number index : ℕ)
    → read_outcome (slot_bytes by_bound 0 0 (span 0 0 3 200 ∷ []) ++ rest) ≡ refused number index → ⊥
unfolding kind_known
twin_slot_refused =
    one_row_refused 0 (bytes (a ∷ a ∷ [])) (span 0 0 3 200 ∷ []) doubled_row refl doubled_logged doubled doubled_cut.0 doubled_cut.1
