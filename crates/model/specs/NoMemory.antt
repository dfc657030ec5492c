-- The tool before it had a memory: a frame's value was made of the records that contain the frame itself, and no call was asked for
-- a width. Nothing here is what the tool gives now. It stands for the statement that width 1 gives what was given before.
use Rattle.std.specs.Prelude.{ℕ, ◌&&◌, cond, List, [], ◌∷◌, ◌++◌, map, ltb, eqb, length, drop}
use Rattle.std.proofs.Math.Option.{Option, none, get_or}
use Rattle.model.specs.Common.{is_some}
use Rattle.model.specs.Spans.{Span, group_count, frame_count}
use Rattle.model.specs.Log.{records, meeting, aggregated}
use Rattle.model.specs.Segments.{segments_of}
use Rattle.model.specs.Split.{Reduced, count_for, reduced}
use Rattle.model.specs.Slot.{slot_length, by_bound, slot_bytes, slot_kind, slot_error, slot_rows}
use Rattle.model.specs.Questions.{Question, ask, ask_room, kind_known, bound_known, log_questions, most_segments, Outcome, outcome, lent}
use Rattle.model.specs.Calls.{Counts, counts_of, segment_of}
use Rattle.model.specs.Check.{bounded_questions, against_questions}
use Rattle.model.specs.declared.Bound.{Bound}
use Rattle.model.specs.declared.Segment.{Segment}

-- a frame's value and the segments, as in `Log`, `Segments` and `Calls`
unfoldable pub plain_value : ℕ → List (Span ℕ) → ℕ → ℕ → Option ℕ
plain_value kind rs g f = cond (ltb g group_count && ltb f frame_count) (aggregated kind (meeting rs g f f)) none

unfoldable pub plain_segments : ℕ → List ℕ → List (Span ℕ)
plain_segments kind log = segments_of eqb (plain_value kind (records log)) group_count frame_count

-- the segment call
unfoldable pub plain_segments_questions : ℕ → List ℕ → ℕ → List Question
plain_segments_questions kind log room = ask_room most_segments room ∷ ask 2 0 (kind_known kind) ∷ log_questions log

unfoldable pub plain_segments_outcome : ℕ → List ℕ → ℕ → Outcome ℕ
plain_segments_outcome kind log room = outcome (plain_segments_questions kind log room) (length (plain_segments kind log))

unfoldable pub plain_list : ℕ → List ℕ → List Segment → List Segment
plain_list kind log list =
    lent (plain_segments_questions kind log (length list))
    (map segment_of (plain_segments kind log) ++ drop (length (plain_segments kind log)) list)
    list

-- the query by a bound
unfoldable pub plain_questions : ℕ → Bound → List ℕ → ℕ → List Question
plain_questions kind bound log room =
    ask_room slot_length room
    ∷ ask 2 0 (kind_known kind)
    ∷ ask 3 0 (bound_known bound)
    ∷ (log_questions log ++ (ask 10 0 (is_some (count_for kind bound (plain_segments kind log))) ∷ []))

unfoldable pub plain_answer : ℕ → Bound → List ℕ → Reduced
plain_answer kind bound log =
    get_or (reduced kind bound (plain_segments kind log)) (record { rows = []; error = 0; weighed = 0 })

unfoldable pub plain_outcome : ℕ → Bound → List ℕ → ℕ → Outcome Counts
plain_outcome kind bound log room = outcome (plain_questions kind bound log room) (counts_of (plain_answer kind bound log))

unfoldable pub plain_slot : ℕ → Bound → List ℕ → List ℕ → List ℕ
plain_slot kind bound log slot =
    lent (plain_questions kind bound log (length slot))
    (slot_bytes by_bound kind (plain_answer kind bound log).error (plain_answer kind bound log).rows ++ drop slot_length slot)
    slot

-- the check of a slot
unfoldable pub plain_check : List ℕ → List ℕ → Outcome (Unit {0})
plain_check log slot =
    outcome
    (ask_room slot_length (length slot)
    ∷ (log_questions log
    ++ (bounded_questions slot
    ++ against_questions (slot_kind slot) (slot_error slot) (slot_rows slot) (plain_value (slot_kind slot) (records log)))))
    tt
