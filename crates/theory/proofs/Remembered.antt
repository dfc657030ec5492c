-- What a memory is in the paper's words: which records a frame remembers, when it is covered, that width 1 gives what the tool gave
-- before, and that a query by windows reads no width. Assumes nothing.
use Prim.Native.Nat.{ℕ, ◌+◌, ◌-◌, ◌≤◌, ◌<◌}
use mathlib.Core.Bool.{true}
use mathlib.Core.List.{List, Memᴰ}
use mathlib.Core.Option.{Option, none, some}
use mathlib.Core.Path.{◌≡◌, refl, ap}
use native.Mathlib.Omega.{arith}
use lib.Dec.{eqb}
use lib.ListN.{length}
use borrow.Author.Tests.{eqb-true, eq-eqb, leb-true, le-leb, lt-ltb}
use Rattle.model.specs.Spans.{Span, group_count, frame_count, meets}
use Rattle.model.specs.Log.{records, value}
use Rattle.model.specs.Segments.{segments_of, segments}
use Rattle.model.specs.Windows.{bound_in, window_at, windows}
use Rattle.model.specs.Slot.{slot_kind}
use Rattle.model.specs.Questions.{outcome, lent, ask, ask_room, ask_width, width_known, query_by, file_questions, segments_questions, order_questions, enough_rows, query_questions, rule_question, width_questions, window_rows, rows_question, ruled_order, ruled_questions}
use Rattle.model.specs.Calls.{log_segments, segments_outcome, filled_list, answer_of, query_outcome, query_slot, ruled_answer, ruled_mark, ruled_outcome, ruled_slot}
use Rattle.model.specs.Check.{check_questions, check_outcome}
use Rattle.model.specs.NoMemory.{plain_value, plain_segments, plain_segments_questions, plain_segments_outcome, plain_list, plain_questions, plain_answer, plain_outcome, plain_slot, plain_check}
use Rattle.model.specs.Demands.{AllPass, Remembered, with_width, Memory}
use Rattle.model.specs.declared.Bound.{Bound}
use Rattle.model.specs.declared.RuledQuery.{RuledQuery}
use Rattle.model.specs.declared.Segment.{Segment}
use Rattle.theory.proofs.Tests.{and-true, true_and}
use Rattle.theory.proofs.Memory.{value_one}
use Rattle.theory.proofs.Bounds.{sound_records, frame_value}
use Rattle.theory.proofs.Windows.{meeting_some, meeting_from}
use Rattle.theory.proofs.Frames.{value_inside}

module _ (r : Span ℕ) (width g f : ℕ) (proper : r.first ≤ r.last) (some_frame : 1 ≤ width) where
  -- a record that meets the last frames contains one of them: its own last one, or the frame itself
  meets_remembered : meets r g (f - (width - 1)) f ≡ true → Remembered r width g f
  unfolding meets
  meets_remembered e =
      let (both, reaches) = and-true _ _ e in
      let (group, begun) = and-true _ _ both in
      let from = leb-true r.first f begun in
      let to = leb-true (f - (width - 1)) r.last reaches in
      (eqb-true _ _ group, (r.first + (f - (width - 1) - r.first), omega arith, omega arith, omega arith, omega arith))

  remembered_meets : Remembered r width g f → meets r g (f - (width - 1)) f ≡ true
  unfolding meets
  remembered_meets (group, (e, from, to, before, within)) =
      true_and _ _ (true_and _ _ (eq-eqb _ _ group) (le-leb r.first f (omega arith))) (le-leb (f - (width - 1)) r.last (omega arith))

module _ (kind width : ℕ) (log : List ℕ) (some_frame : 1 ≤ width) (all : AllPass (file_questions log)) (g f : ℕ) where
  covered_remembers : (v : ℕ) → value kind width (records log) g f ≡ some v
      → (r : Span ℕ) × Memᴰ r (records log) × Remembered r width g f
  covered_remembers v e =
      let (r, m, met) = meeting_from kind (records log) g (f - (width - 1)) f v (frame_value kind width (records log) g f v e) in
      (r, m, meets_remembered r width g f ((sound_records log all).1 r m).1 some_frame met)

  remembers_covered : g < group_count → f < frame_count → (r : Span ℕ) → Memᴰ r (records log) → Remembered r width g f
      → (v : ℕ) × (value kind width (records log) g f ≡ some v)
  unfolding value
  remembers_covered in_groups in_frames r m is =
      let met = remembered_meets r width g f ((sound_records log all).1 r m).1 some_frame is in
      let (v, found) = meeting_some kind (records log) g (f - (width - 1)) f r m met in
      (v, rw (lt-ltb g group_count in_groups, lt-ltb f frame_count in_frames) found)

-- frames past 65,535 don't exist
no_frame_lem : (kind width : ℕ) (rs : List (Span ℕ)) (g f : ℕ) → frame_count ≤ f → value kind width rs g f ≡ none
no_frame_lem kind width rs g f past = by (value kind width rs g f) refl
  where
    by : (o : Option ℕ) → value kind width rs g f ≡ o → value kind width rs g f ≡ none
    by none e = e
    by (some v) e = absurd (omega (arith, (value_inside kind width rs g f v e).1))

-- ---- width 1

values_before : (kind : ℕ) (rs : List (Span ℕ)) → value kind 1 rs ≡ plain_value kind rs
values_before kind rs i g f = value_one kind rs g f i

segments_before : (kind : ℕ) (log : List ℕ) → segments kind 1 (records log) ≡ plain_segments kind log
unfolding segments plain_segments
segments_before kind log = ap (λ val. segments_of eqb val group_count frame_count) (values_before kind (records log))

list_before : (kind : ℕ) (log : List ℕ) (list : List Segment)
    → (segments_outcome kind 1 log (length list) ≡ plain_segments_outcome kind log (length list))
    × (filled_list kind 1 log list ≡ plain_list kind log list)
unfolding segments_outcome filled_list segments_questions log_segments plain_segments_outcome plain_list plain_segments_questions outcome lent ask ask_room ask_width width_known
list_before kind log list = (rw (segments_before kind log), rw (segments_before kind log))

query_before : (kind : ℕ) (bound : Bound) (log slot : List ℕ)
    → (query_outcome (query_by kind bound 1) log (length slot) ≡ plain_outcome kind bound log (length slot))
    × (query_slot (query_by kind bound 1) log slot ≡ plain_slot kind bound log slot)
unfolding query_outcome query_slot query_questions order_questions enough_rows answer_of log_segments plain_outcome plain_slot plain_questions plain_answer outcome lent ask ask_room ask_width width_known
query_before kind bound log slot = (rw (segments_before kind log), rw (segments_before kind log))

check_before : (log slot : List ℕ) → check_outcome 1 log slot ≡ plain_check log slot
unfolding check_outcome check_questions plain_check outcome ask ask_room ask_width width_known
check_before log slot = rw (values_before (slot_kind slot) (records log))

-- ---- windows

windows_read_none : (q : RuledQuery) (width : ℕ) (log slot : List ℕ) → bound_in q.rule ≡ none
    → (ruled_outcome (with_width width q) log (length slot) ≡ ruled_outcome q log (length slot))
    × (ruled_slot (with_width width q) log slot ≡ ruled_slot q log slot)
unfolding ruled_outcome ruled_slot ruled_questions ruled_order rule_question width_questions rows_question ruled_answer ruled_mark window_rows windows window_at
windows_read_none q width log slot windowed =
    (rw (windowed, width_questions, rows_question, ruled_answer), rw (windowed, width_questions, rows_question, ruled_answer, ruled_mark))

pub memory : Memory
memory =
    record {
      remembered = λ r width g f proper one. (meets_remembered r width g f proper one, remembered_meets r width g f proper one);
      covered = λ kind width log one all g f in_groups in_frames. (
        λ (v, e). covered_remembers kind width log one all g f v e,
        λ (r, m, is). remembers_covered kind width log one all g f in_groups in_frames r m is,
      );
      no_frame = no_frame_lem;
      as_before = values_before;
      segments_as_before = list_before;
      query_as_before = query_before;
      check_as_before = check_before;
      windows = windows_read_none;
    }
