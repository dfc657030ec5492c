-- A slot against its log: the questions of the call, and what it answers. The rows read are held against the values of the slot's
-- kind and a width frame by frame, and nothing here knows of segments.
use Rattle.std.specs.Prelude.{ℕ, Bool, true, false, cond, List, [], ◌∷◌, ◌++◌, map, leb, eqb, length}
use Rattle.std.proofs.Math.Option.{Option, none, some}
use Rattle.model.specs.Common.{every}
use Rattle.model.specs.Spans.{Span, group_count, frame_count}
use Rattle.model.specs.Log.{records, greatest_kind, value}
use Rattle.model.specs.Slot.{slot_length, by_bound, slot_kind, slot_error, slot_rows, value_in}
use Rattle.model.specs.Questions.{Question, ask, ask_room, ask_width, marked, log_questions, content_questions, Outcome, outcome}
use Rattle.model.specs.Fitting.{squared_error, whole}

-- the test holds of every frame of every group
unfoldable pub every_frame : (ℕ → ℕ → Bool) → Bool
every_frame test = every (λ g. every (test g) 0 frame_count) 0 group_count

-- a frame with this value, and the number of the row that contains it: the frame is covered exactly if it lies in a row
unfoldable pub covered_alike : Option ℕ → Option ℕ → Bool
covered_alike none none = true
covered_alike none (some r) = false
covered_alike (some v) none = false
covered_alike (some v) (some r) = true

-- the same: where the frame is covered and lies in a row, the row is not below its value
unfoldable pub not_below : Option ℕ → Option ℕ → Bool
not_below none o = true
not_below (some v) none = true
not_below (some v) (some r) = leb v r

-- the rows cover, group by group, just the covered frames
unfoldable pub same_cover : (ℕ → ℕ → Option ℕ) → List (Span ℕ) → Bool
same_cover val rows = every_frame (λ g f. covered_alike (val g f) (value_in rows g f))

-- no row is below a covered value
unfoldable pub never_below : (ℕ → ℕ → Option ℕ) → List (Span ℕ) → Bool
never_below val rows = every_frame (λ g f. not_below (val g f) (value_in rows g f))

-- 22 to 24, of a slot's kind, error and rows against the values of frames
unfoldable pub against_questions : ℕ → ℕ → List (Span ℕ) → (ℕ → ℕ → Option ℕ) → List Question
against_questions kind error rows val =
    ask 22 0 (same_cover val rows)
    ∷ ask 23 0 (cond (eqb kind greatest_kind) (never_below val rows) true)
    ∷ ask 24 0 (eqb error (squared_error val (map whole rows)))
    ∷ []

-- 11 to 17 of a slot by a bound: 11 takes its mark alone
unfoldable pub bounded_questions : List ℕ → List Question
bounded_questions slot = ask 11 0 (marked slot 0 0x50 by_bound) ∷ content_questions slot

-- 1, 25, the log's, the slot's, and then 22 to 24
unfoldable pub check_questions : ℕ → List ℕ → List ℕ → List Question
check_questions width log slot =
    ask_room slot_length (length slot)
    ∷ ask_width width
    ∷ (log_questions log
    ++ (bounded_questions slot
    ++ against_questions (slot_kind slot) (slot_error slot) (slot_rows slot) (value (slot_kind slot) width (records log))))

unfoldable pub check_outcome : ℕ → List ℕ → List ℕ → Outcome (Unit {0})
check_outcome width log slot = outcome (check_questions width log slot) tt
