-- Wrong answers about a memory that the demands reject, each by the clause that its comment names. The log is G, whose frame 7 of group
-- 0 is covered with width 2 and not with width 1; or one record of one frame. Assumes nothing.
use Prim.Native.Nat.{ℕ, ◌*◌, ◌<◌}
use mathlib.Core.List.{List, [], ◌∷◌, map, Memᴰ}
use mathlib.Core.Logic.{⊎_elim}
use mathlib.Core.Option.{Option, none, some}
use mathlib.Core.Path.{◌≡◌, refl, sym, ap, ◌∙◌, subst}
use native.Mathlib.Omega.{arith}
use lib.ListN.{replicate}
use Rattle.model.specs.Common.{sum_of, list_from, number_at, bytes_of}
use Rattle.model.specs.Spans.{Span, group_count, frame_count, span_length, meets, holds}
use Rattle.model.specs.Log.{record_length, record_at, record_count, record_bytes, records, meeting, sum, aggregate, aggregated, value}
use Rattle.model.specs.Windows.{bound_in}
use Rattle.model.specs.Slot.{slot_length, by_bound, slot_bytes}
use Rattle.model.specs.Questions.{refused, accepted, ask, outcome, width_known, query_by, each, marked, group_known, span_questions, record_questions, most_records, file_questions}
use Rattle.model.specs.Calls.{Counts, log_segments, ruled_outcome, beat_query}
use Rattle.model.specs.Fitting.{hits, due, FitsFor, whole}
use Rattle.model.specs.NoMemory.{plain_value}
use Rattle.model.specs.Demands.{AllPass, Bytes, Segmentation, Remembered, with_width, CheckPromise, QueryPromise}
use Rattle.model.specs.declared.Bound.TheVariants.{Rows}
use Rattle.model.proofs.Cases.{span, log_g, segments_g, rows_g, bytes, worked_cases}
use Rattle.model.proofs.WindowCases.{windows_worked}
use Rattle.theory.proofs.Tests.{none≢some, true≢false}
use Rattle.theory.proofs.Refusals.{accepted≢refused, outcome_accepted}
use Rattle.theory.proofs.Refutations.{decoded, readings, one_reading}
use Rattle.theory.proofs.RefutedReductions.{bytes_only, bytes_only_lem, logged_g}
use Rattle.theory.proofs.Remembered.{memory}

-- ---- what is remembered

-- a record of one frame, remembered one frame too long, and ahead of time (remembered)
pub remembered_too_long : Remembered (span 0 0 0 5) 2 0 2 → ⊥
remembered_too_long (group, (e, from, to, before, within)) = omega arith

pub remembered_ahead : Remembered (span 0 9 9 5) 4096 0 8 → ⊥
remembered_ahead (group, (e, from, to, before, within)) = omega arith

-- and by another group
pub remembered_by_another : Remembered (span 0 3 3 5) 2 1 3 → ⊥
remembered_by_another (group, rest) = omega arith

-- a log of it
abbrev one : List ℕ
one = bytes (span 0 0 0 5 ∷ [])

abbrev kept : Span ℕ
kept = span 0 0 0 5

one_decoded : records one ≡ kept ∷ []
unfolding records record_count record_length list_from record_at number_at record_bytes bytes_of
one_decoded = refl

one_passes : AllPass (file_questions one)
unfolding file_questions record_count record_length most_records each record_questions span_questions marked group_known record_at number_at record_bytes bytes_of ask outcome
one_passes = (outcome_accepted (file_questions one) (tt {0}) (tt {0}) refl).0

-- the record that some frame remembers is this one
only_kept : (width f : ℕ) → ((r : Span ℕ) × Memᴰ r (records one) × Remembered r width 0 f) → f < width
only_kept width f (r, m, (group, (e, from, to, before, within))) =
    let same : r ≡ kept = ⊎_elim (λ s. s) (λ n. absurd (mathlib.Core.List.Memᴰ.not-nil n)) (mathlib.Core.List.Memᴰ.cases_cons (subst (Memᴰ r) one_decoded m)) in
    let last : r.last ≡ 0 = ap (λ (s : Span ℕ). s.last) same in
    omega arith

-- frame 2 covered with width 2, and frame 1 not covered (covered)
pub covered_too_long : (kind v : ℕ) → value kind 2 (records one) 0 2 ≡ some v → ⊥
unfolding group_count frame_count
covered_too_long kind v e =
    omega (arith, only_kept 2 2 ((memory.covered kind 2 one (omega arith) one_passes 0 2 (omega arith) (omega arith)).0 (v, e)))

pub not_covered : (kind : ℕ) → value kind 2 (records one) 0 1 ≡ none → ⊥
unfolding group_count frame_count
not_covered kind e =
    let here : Memᴰ kept (records one) = subst (Memᴰ kept) (sym one_decoded) (mathlib.Core.List.Memᴰ.head refl) in
    let (v, is) = (memory.covered kind 2 one (omega arith) one_passes 0 1 (omega arith) (omega arith)).1
    (kept, here, (refl, (0, omega arith, omega arith, omega arith, omega arith))) in
    none≢some e is

-- a frame past 65,535 (noFrame)
pub frame_past_the_last : (kind width v : ℕ) (rs : List (Span ℕ)) → value kind width rs 0 65536 ≡ some v → ⊥
unfolding frame_count
frame_past_the_last kind width v rs e = none≢some (memory.no_frame kind width rs 0 65536 (omega arith)) e

-- with width 1, the frame before remembered (asBefore)
pub remembered_with_width_1 : (v : ℕ) → value 0 1 (kept ∷ []) 0 1 ≡ some v → ⊥
unfolding plain_value group_count frame_count meeting meets aggregated
remembered_with_width_1 v e = none≢some refl (sym (ap (λ (val : ℕ → ℕ → Option ℕ). val 0 1) (memory.as_before 0 (kept ∷ []))) ∙ e)

-- beats refused for their width (windows)
pub windows_refused : ruled_outcome (with_width 0 (beat_query 0 1000 0)) [] 768 ≡ refused 25 0 → ⊥
unfolding bound_in beat_query slot_length
windows_refused e =
    accepted≢refused
    (sym windows_worked.1.1.1.1.1.1.1.1.1.0.0 ∙ sym (memory.windows (beat_query 0 1000 0) 0 [] (replicate 768 0) refl).0 ∙ e)

-- ---- answers that are another width's

-- frame 7 of group 0 is covered with width 2
covered_7 : due (value 0 2 log_g 0 7) ≡ 1
unfolding group_count frame_count meets meeting sum aggregate aggregated value due
covered_7 = refl

-- and lies in none of the segments and rows of width 1
missed_7 : (hits segments_g 0 7 ≡ 0) × (hits (map whole rows_g) 0 7 ≡ 0)
unfolding hits holds meets whole
missed_7 = (refl, refl)

-- the segments of width 1 (segmentation)
pub segments_of_width_1 : Segmentation (value 0 2 log_g) segments_g → ⊥
segments_of_width_1 s = omega (arith, s.exact 0 7, missed_7.0, covered_7)

-- its rows do not fit
rows_of_width_1 : FitsFor 0 (value 0 2 log_g) (map whole rows_g) → ⊥
rows_of_width_1 f = omega (arith, f.covers.exact 0 7, missed_7.1, covered_7)

-- a query with width 2 that leaves the slot of width 1 (best)
pub slot_of_width_1 : (counts : Counts)
    → QueryPromise (query_by 0 (Rows 4) 2) (bytes log_g) (replicate 768 0) (accepted counts) (slot_bytes by_bound 0 11280 rows_g) → ⊥
slot_of_width_1 counts p =
    let b = p.best counts refl in
    let (mark, kind, error, rows) = one_reading _ _ _ _ _ _ _ _ _ b.reads readings.0 in
    rows_of_width_1 (subst (λ rs. FitsFor 0 (value 0 2 rs) (map whole rows_g)) decoded (rw rows at b.best.fits))

-- a check with width 2 that accepts the slot of width 1 (exactly: fits)
pub checked_with_width_1 : CheckPromise 2 (bytes log_g) (slot_bytes by_bound 0 11280 rows_g) (accepted tt) → ⊥
checked_with_width_1 p =
    let a = p.exactly.0 refl in
    let (mark, kind, error, rows) = one_reading _ _ _ _ _ _ _ _ _ a.reads readings.0 in
    rows_of_width_1 (subst (λ rs. FitsFor 0 (value 0 2 rs) (map whole rows_g)) decoded (rw (kind, rows) at a.fits))

-- a check with a width of 0 or 4,097 that accepts (exactly: known)
pub width_0_checked : (log slot : List ℕ) → CheckPromise 0 log slot (accepted tt) → ⊥
unfolding width_known
width_0_checked log slot p = true≢false (sym (p.exactly.0 refl).known)

pub width_4097_checked : (log slot : List ℕ) → CheckPromise 4097 log slot (accepted tt) → ⊥
unfolding width_known
width_4097_checked log slot p = true≢false (sym (p.exactly.0 refl).known)

-- ---- a statement that is false

-- the sum over records at width 2: 2,084 for 1,517
pub conserved_with_width_2 : ((log : List ℕ) → Bytes log → AllPass (file_questions log)
    → sum_of (λ s. span_length s * s.value) (log_segments 0 2 log) ≡ sum_of (λ r. span_length r * r.value) (records log)) → ⊥
unfolding bytes_only sum_of span_length record_bytes bytes_of
conserved_with_width_2 claim =
    let e = claim (bytes log_g) (bytes_only_lem (bytes log_g) refl) logged_g in
    omega (arith, sym (ap (sum_of (λ s. span_length s * s.value)) worked_cases.3.0.0) ∙ e ∙ ap (sum_of (λ r. span_length r * r.value)) decoded)
