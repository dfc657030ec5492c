-- Widths, shown of the definitions: the ends of a memory, which widths are known, and where question 25 stands. Assumes nothing.
use Prim.Native.Nat.{ℕ}
use mathlib.Core.Bool.{true, false}
use mathlib.Core.List.{List, [], ◌∷◌}
use mathlib.Core.Option.{none, some}
use mathlib.Core.Path.{◌≡◌, refl}
use lib.ListN.{replicate}
use Rattle.model.specs.Spans.{Span, group_count, frame_count, meets}
use Rattle.model.specs.Log.{record_length, record_count, meeting, sum, aggregate, aggregated, value}
use Rattle.model.specs.Split.{most_rows}
use Rattle.model.specs.Windows.{bound_in}
use Rattle.model.specs.Slot.{slot_length}
use Rattle.model.specs.Questions.{Question, Outcome, refused, ask, outcome, ask_room, kind_known, bound_known, most_records, log_questions, width_known, ask_width, order_questions, query_questions, query_by, rule_question, width_questions, ruled_order, ruled_questions, most_segments, segments_questions}
use Rattle.model.specs.Calls.{rule_of, bounded_query, beat_query, bound_of, letter_questions, by_letter_questions}
use Rattle.model.specs.Check.{check_questions}
use Rattle.model.specs.Demands.{with_width}
use Rattle.model.specs.declared.Bound.TheVariants.{Rows, Share}

-- one record, of one frame: w − 1 frames behind its last one and no further, none before its first, none past 65,535, and none of
-- another group
abbrev one_load : ℕ → List (Span ℕ)
one_load f = record { group = 0; first = f; last = f; value = 5 } ∷ []

pub memory_ends : (value 0 4096 (one_load 0) 0 0 ≡ some 5)
    × (value 0 4096 (one_load 0) 0 4095 ≡ some 5)
    × (value 0 4096 (one_load 0) 0 4096 ≡ none)
    × (value 0 4096 (one_load 9) 0 8 ≡ none)
    × (value 0 2 (one_load 65534) 0 65535 ≡ some 5)
    × (value 0 2 (one_load 65533) 0 65535 ≡ none)
    × (value 0 2 (one_load 65535) 0 65535 ≡ some 5)
    × (value 0 2 (one_load 65535) 0 65536 ≡ none)
    × (value 0 2 (one_load 3) 1 3 ≡ none)
unfolding group_count frame_count meets meeting sum aggregate aggregated value
memory_ends = (refl, refl, refl, refl, refl, refl, refl, refl, refl)

pub widths_known : (width_known 0 ≡ false) × (width_known 1 ≡ true) × (width_known 60 ≡ true) × (width_known 4096 ≡ true)
    × (width_known 4097 ≡ false) × (width_known 65535 ≡ false)
unfolding width_known
widths_known = (refl, refl, refl, refl, refl, refl)

abbrev first_no : List Question → Outcome (Unit {0})
first_no questions = outcome questions tt

-- a log of one byte, which is question 4's 'no'
abbrev a_byte : List ℕ
a_byte = 0 ∷ []

-- a query, whichever way it is put: 25 comes after 3 and before 4
pub asked_of_queries : (first_no (query_questions (query_by 0 (Rows 4) 0) a_byte 767) ≡ refused 1 0)
    × (first_no (query_questions (query_by 5 (Rows 4) 0) a_byte 768) ≡ refused 2 0)
    × (first_no (query_questions (query_by 0 (Rows 65) 0) a_byte 768) ≡ refused 3 0)
    × (first_no (query_questions (query_by 0 (Rows 64) 0) a_byte 768) ≡ refused 25 0)
    × (first_no (query_questions (query_by 0 (Share 0) 4097) a_byte 768) ≡ refused 25 0)
    × (first_no (query_questions (query_by 0 (Share 0) 4096) a_byte 768) ≡ refused 4 0)
    × (first_no (by_letter_questions 0 0x41 4 0 a_byte 768) ≡ refused 3 0)
    × (first_no (by_letter_questions 0 0x52 4 0 a_byte 768) ≡ refused 25 0)
    × (first_no (ruled_questions (bounded_query (query_by 0 (Share 1001) 0)) a_byte 768) ≡ refused 3 0)
    × (first_no (ruled_questions (bounded_query (query_by 0 (Share 1000) 0)) a_byte 768) ≡ refused 25 0)
unfolding outcome ask ask_room ask_width kind_known bound_known width_known most_rows most_records slot_length record_length record_count log_questions order_questions query_questions bound_in rule_of bounded_query rule_question width_questions ruled_order ruled_questions bound_of letter_questions by_letter_questions
asked_of_queries = (refl, refl, refl, refl, refl, refl, refl, refl, refl, refl)

-- the segment call: after 2. The check of a slot: after 1.
pub asked_of_calls : (first_no (segments_questions 0 0 a_byte 254) ≡ refused 1 0)
    × (first_no (segments_questions 5 0 a_byte 255) ≡ refused 2 0)
    × (first_no (segments_questions 0 0 a_byte 255) ≡ refused 25 0)
    × (first_no (segments_questions 0 1 a_byte 255) ≡ refused 4 0)
    × (first_no (check_questions 0 a_byte (replicate 767 0)) ≡ refused 1 0)
    × (first_no (check_questions 0 a_byte (replicate 768 0)) ≡ refused 25 0)
    × (first_no (check_questions 4097 a_byte (replicate 768 0)) ≡ refused 25 0)
    × (first_no (check_questions 4096 a_byte (replicate 768 0)) ≡ refused 4 0)
unfolding outcome ask ask_room ask_width kind_known width_known most_records slot_length most_segments record_length record_count log_questions segments_questions check_questions
asked_of_calls = (refl, refl, refl, refl, refl, refl, refl, refl)

-- a query by windows is not asked 25, whatever its width
pub not_asked_of_windows : (first_no (ruled_questions (with_width 0 (beat_query 0 0 1)) a_byte 768) ≡ refused 18 0)
    × (first_no (ruled_questions (with_width 0 (beat_query 0 1 0)) a_byte 768) ≡ refused 4 0)
    × (first_no (ruled_questions (with_width 4097 (beat_query 0 1 0)) a_byte 768) ≡ refused 4 0)
unfolding outcome ask ask_room ask_width kind_known most_records slot_length record_length record_count log_questions bound_in rule_question width_questions ruled_order ruled_questions beat_query
not_asked_of_windows = (refl, refl, refl)
