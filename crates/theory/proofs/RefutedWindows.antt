-- Wrong answers to queries by windows that the demands reject, each by the clause that its comment names. Log G by the scenes 0 to 1,
-- 2 to 6 and 7 to 65,535 has four rows of kind 0: 100, 510 and 50 of group 0 and 7 of group 1. Assumes nothing.
use Prim.Native.Nat.{ℕ}
use mathlib.Core.List.{List, [], ◌∷◌, ◌++◌}
use mathlib.Core.Path.{◌≡◌, refl, sym, ap, ◌∙◌}
use native.Mathlib.Omega.{arith}
use lib.ListN.{length, replicate}
use Rattle.model.specs.Common.{list_from, every, joined, number_at, bytes_of}
use Rattle.model.specs.Spans.{Span, group_count, frame_count, meets}
use Rattle.model.specs.Log.{record_length, record_bytes, record_at, record_count, twins, is_first, records, meeting, sum, aggregate, aggregated, value}
use Rattle.model.specs.Blocks.{segment_at}
use Rattle.model.specs.Split.{most_rows}
use Rattle.model.specs.Windows.{bound_in, beat, beat_count, scene, window_count, window_at, windows, window_row, group_rows, span_rows}
use Rattle.model.specs.Slot.{slot_length, by_bound, used_bytes, slot_bytes, slot_mark, value_in}
use Rattle.model.specs.Questions.{refused, accepted, ask, outcome, each, marked, kind_known, group_known, span_questions, record_questions, twin_questions, most_records, log_questions, width_questions}
use Rattle.model.specs.Questions.{scene_follows, scene_known, most_scenes, scenes_known, rule_question, window_rows, ruled_order, slot_questions}
use Rattle.model.specs.Calls.{Counts, Header, header_of, read_outcome, no_frames, rule_of, bounded_query, beat_query, scene_query}
use Rattle.model.specs.Demands.{AllPass, SpanAggregation, RuledPromise}
use Rattle.model.specs.declared.Bound.TheVariants.{Rows}
use Rattle.model.specs.declared.RuledQuery.{RuledQuery}
use Rattle.model.proofs.Cases.{span, log_g, bytes, query}
use Rattle.theory.proofs.Refusals.{outcome_accepted}
use Rattle.theory.proofs.Demands.{demand2}
use Rattle.theory.proofs.Refutations.{ten_before_runs}
use Rattle.theory.proofs.RefutedCalls.{wrong_read}

-- ---- rows that are not the span aggregation

abbrev by_scenes : RuledQuery
by_scenes = scene_query 0 (0 ∷ 2 ∷ 7 ∷ []) (1 ∷ 6 ∷ 65535 ∷ [])

abbrev rows_due : List (Span ℕ)
rows_due = span 0 0 1 100 ∷ span 0 2 6 510 ∷ span 0 7 65535 50 ∷ span 1 0 1 7 ∷ []

-- every five frames from frame 65,528 on
abbrev by_beats : RuledQuery
by_beats = beat_query 0 5 65528

abbrev last_log : List (Span ℕ)
last_log = span 7 65523 65527 9 ∷ span 7 65520 65529 1 ∷ span 7 65532 65533 2 ∷ []

abbrev last_due : List (Span ℕ)
last_due = span 7 65528 65532 3 ∷ span 7 65533 65535 2 ∷ []

-- the definitions give these rows
due_rows : (window_rows by_scenes (bytes log_g) ≡ rows_due) × (window_rows by_beats (bytes last_log) ≡ last_due)
unfolding list_from every joined number_at bytes_of group_count frame_count meets record_length record_bytes record_at record_count records meeting sum aggregate aggregated bound_in beat beat_count scene window_count window_at windows window_row group_rows span_rows window_rows no_frames beat_query scene_query most_scenes
due_rows = (refl, refl)

-- so no other rows are the span aggregation (windows)
only_due : (rows : List (Span ℕ)) → SpanAggregation by_scenes (bytes log_g) rows → rows ≡ rows_due
unfolding bound_in rule_question scenes_known every scene_known scene_follows most_scenes frame_count no_frames scene_query ask
only_due rows a = (demand2.windows by_scenes (bytes log_g) refl refl rows).0 a ∙ due_rows.0

only_last : (rows : List (Span ℕ)) → SpanAggregation by_beats (bytes last_log) rows → rows ≡ last_due
unfolding bound_in rule_question beat_query ask
only_last rows a = (demand2.windows by_beats (bytes last_log) refl refl rows).0 a ∙ due_rows.1

-- and these rows are it
pub are_due : SpanAggregation by_scenes (bytes log_g) rows_due
unfolding bound_in rule_question scenes_known every scene_known scene_follows most_scenes frame_count no_frames scene_query ask
are_due = (demand2.windows by_scenes (bytes log_g) refl refl rows_due).1 (sym due_rows.0)

-- the second row with another last frame and value
abbrev second : ℕ → ℕ → List (Span ℕ)
second last v = span 0 0 1 100 ∷ span 0 2 last v ∷ span 0 7 65535 50 ∷ span 1 0 1 7 ∷ []

-- the value of a row, its last frame, and the number of rows
abbrev value_of : ℕ → List (Span ℕ) → ℕ
value_of i rows = (segment_at rows i).value

abbrev last_of : ℕ → List (Span ℕ) → ℕ
last_of i rows = (segment_at rows i).last

-- a record counted only if the window contains it; a record counted for each of its frames; a window that ends one frame early
pub records_inside_only : SpanAggregation by_scenes (bytes log_g) (second 6 410) → ⊥
unfolding segment_at
records_inside_only a = omega (arith, ap (value_of 1) (only_due _ a))

pub frame_by_frame_counted : SpanAggregation by_scenes (bytes log_g) (second 6 1210) → ⊥
unfolding segment_at
frame_by_frame_counted a = omega (arith, ap (value_of 1) (only_due _ a))

pub end_one_off : SpanAggregation by_scenes (bytes log_g) (second 5 300) → ⊥
unfolding segment_at
end_one_off a = omega (arith, ap (last_of 1) (only_due _ a))

-- a group left out; a row of a window that no record of the group meets; rows by window and then by group
pub group_left_out : SpanAggregation by_scenes (bytes log_g) (span 0 0 1 100 ∷ span 0 2 6 510 ∷ span 0 7 65535 50 ∷ []) → ⊥
group_left_out a = omega (arith, ap length (only_due _ a))

pub empty_window : SpanAggregation by_scenes (bytes log_g) (rows_due ++ (span 1 2 6 0 ∷ [])) → ⊥
empty_window a = omega (arith, ap length (only_due _ a))

pub window_by_window : SpanAggregation by_scenes (bytes log_g) (span 0 0 1 100 ∷ span 1 0 1 7 ∷ span 0 2 6 510 ∷ span 0 7 65535 50 ∷ []) → ⊥
unfolding segment_at
window_by_window a = omega (arith, ap (value_of 1) (only_due _ a))

-- the last window not cut off; a window before the start
pub not_cut_off : SpanAggregation by_beats (bytes last_log) (span 7 65528 65532 3 ∷ span 7 65533 65537 2 ∷ []) → ⊥
unfolding segment_at
not_cut_off a = omega (arith, ap (last_of 1) (only_last _ a))

pub before_the_start : SpanAggregation by_beats (bytes last_log) (span 7 65523 65527 10 ∷ last_due) → ⊥
before_the_start a = omega (arith, ap length (only_last _ a))

-- ---- the first frame, by a window of its own (frameByFrame)

pub first_frame : (kind start : ℕ) (log : List ℕ) (g : ℕ)
    → (value_in (window_rows (beat_query kind 1 start) log) g start ≡ value kind 1 (records log) g start → ⊥) → ⊥
first_frame kind start log g differ = differ (demand2.frame_by_frame kind start log g start (omega arith))

-- ---- what a query by a rule promises beyond its equations

-- the questions ahead of 20 are passed
in_order_lem : AllPass (ruled_order by_scenes (bytes log_g))
unfolding ruled_order rule_question width_questions bound_in scenes_known every scene_known scene_follows most_scenes frame_count no_frames scene_query ask kind_known log_questions record_count twins is_first record_length most_records each record_questions twin_questions span_questions marked group_known record_at number_at record_bytes bytes_of outcome
in_order_lem = (outcome_accepted (ruled_order by_scenes (bytes log_g)) (tt {0}) tt refl).0

module _ (after : List ℕ) where
  -- 'too few rows', by windows (notTooFew)
  pub windows_too_few : RuledPromise by_scenes (bytes log_g) (replicate 768 0) (refused 10 0) after → ⊥
  unfolding bound_in scene_query
  windows_too_few p = (p.windowed refl).not_too_few 0 refl

  -- 'too many rows', of four (tooMany)
  pub windows_too_many : RuledPromise by_scenes (bytes log_g) (replicate 768 0) (refused 20 0) after → ⊥
  unfolding bound_in scene_query slot_length most_rows
  windows_too_many p =
      let (rows, a, more) = ((p.windowed refl).too_many (omega arith) in_order_lem).0 refl in
      omega (arith, ap length (only_due rows a))

  -- cuts weighed, an error, and another number of rows (spans)
  pub windows_miscounted : (counts : Counts) → (counts ≡ record { rows = 4; error = 0; weighed = 0 } → ⊥)
      → RuledPromise by_scenes (bytes log_g) (replicate 768 0) (accepted counts) after → ⊥
  unfolding bound_in scene_query
  windows_miscounted counts other p =
      let s = (p.windowed refl).spans counts refl in
      other (s.counted ∙ ap (λ (rows : List (Span ℕ)). record { rows = length rows; error = 0; weighed = 0 }) (only_due _ s.aggregation))

  -- 'too few rows' of a bound that three rows answer (bounded)
  pub bound_too_few : RuledPromise (bounded_query (query 0 (Rows 3))) (bytes log_g) (replicate 768 0) (refused 10 0) after → ⊥
  unfolding bound_in rule_of bounded_query
  bound_too_few p = ten_before_runs after (p.bounded (Rows 3) refl)

-- success over an untouched slot, and under the header of a bound (spans)
pub windows_untouched : (counts : Counts)
    → RuledPromise by_scenes (bytes log_g) (replicate 768 0) (accepted counts) (replicate 768 0) → ⊥
unfolding bound_in scene_query
windows_untouched counts p = wrong_read _ ((p.windowed refl).spans counts refl).reads.header

pub windows_as_bound : (counts : Counts)
    → RuledPromise by_scenes (bytes log_g) (replicate 768 0) (accepted counts) (slot_bytes by_bound 0 0 rows_due) → ⊥
unfolding bound_in scene_query read_outcome slot_mark slot_bytes used_bytes
windows_as_bound counts p =
    let slot = slot_bytes by_bound 0 0 rows_due in
    let read = outcome_accepted (slot_questions slot) (header_of slot) _ ((p.windowed refl).spans counts refl).reads.header in
    omega (arith, ap (λ (h : Header). h.mark) read.1)
