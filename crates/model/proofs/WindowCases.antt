-- Rows by windows, shown of the definitions: the published example of span aggregation (source document 000, Fig. 1), and cases at
-- the ends of what is allowed. Assumes nothing.
use Prim.Native.Nat.{ℕ}
use mathlib.Core.List.{List, [], ◌∷◌, ◌++◌}
use mathlib.Core.Path.{◌≡◌, refl}
use lib.ListN.{length, replicate}
use Rattle.model.specs.Common.{list_from, every, joined, number_at, bytes_of}
use Rattle.model.specs.Spans.{Span, group_count, frame_count, meets}
use Rattle.model.specs.Log.{record_length, record_bytes, record_at, record_count, twins, is_first, records, meeting, sum, aggregate, aggregated}
use Rattle.model.specs.Split.{most_rows}
use Rattle.model.specs.Windows.{bound_in, beat, beat_count, scene, window_count, window_at, windows, window_row, group_rows, span_rows}
use Rattle.model.specs.Slot.{slot_length, row_bytes, rows_bytes, used_bytes, slot_bytes}
use Rattle.model.specs.Questions.{ask, Outcome, refused, accepted, outcome, lent, each, marked, ask_room, kind_known, group_known, span_questions, record_questions, twin_questions, most_records, log_questions}
use Rattle.model.specs.Questions.{scene_follows, scene_known, most_scenes, scenes_known, rule_question, width_questions, window_rows, rows_question, ruled_order, ruled_questions}
use Rattle.model.specs.Calls.{Counts, counts_of, ruled_answer, ruled_mark, ruled_outcome, ruled_slot, no_frames, beat_query, scene_query}
use Rattle.model.specs.declared.RuledQuery.{RuledQuery}
use Rattle.model.proofs.Cases.{All, span, bytes, log_g, whole_slot}

-- a query, its log, what it says and its rows
record Case : Type 0 where
  query : RuledQuery
  log : List (Span ℕ)
  says : Outcome Counts
  rows : List (Span ℕ)

-- accepted with these rows
abbrev gives : RuledQuery → List (Span ℕ) → List (Span ℕ) → Case
gives q log rows =
    record { query = q; log = log; says = accepted (record { rows = length rows; error = 0; weighed = 0 }); rows = rows }

-- refused with this number
abbrev refuses : RuledQuery → List (Span ℕ) → ℕ → List (Span ℕ) → Case
refuses q log number rows = record { query = q; log = log; says = refused number 0; rows = rows }

-- project assignments with their monthly salaries: project A is group 0, project B group 1, a month is a frame
abbrev projects : List (Span ℕ)
projects = span 0 1 4 800 ∷ span 0 3 6 400 ∷ span 0 4 7 300 ∷ span 1 4 5 500 ∷ span 1 7 8 500 ∷ []

-- the same, with month 8 at frame 65,535
abbrev last_projects : List (Span ℕ)
last_projects =
    span 0 65528 65531 800 ∷ span 0 65530 65533 400 ∷ span 0 65531 65534 300 ∷ span 1 65531 65532 500 ∷ span 1 65534 65535 500 ∷ []

abbrev window_cases : List Case
window_cases =
    -- 'for each project, what is the average monthly salary in each trimester?'
    gives (scene_query 4 (1 ∷ 5 ∷ []) (4 ∷ 8 ∷ [])) projects
    (span 0 1 4 50000 ∷ span 0 5 8 35000 ∷ span 1 1 4 50000 ∷ span 1 5 8 50000 ∷ [])
    ∷
    -- the same in the last months that there are, by beats
    gives (beat_query 4 4 65528) last_projects
    (span 0 65528 65531 50000 ∷ span 0 65532 65535 35000 ∷ span 1 65528 65531 50000 ∷ span 1 65532 65535 50000 ∷ [])
    ∷
    -- G by scenes that touch, and one of which no record of group 1 meets: each record once, whole
    gives (scene_query 0 (0 ∷ 2 ∷ 7 ∷ []) (1 ∷ 6 ∷ 65535 ∷ [])) log_g
    (span 0 0 1 100 ∷ span 0 2 6 510 ∷ span 0 7 65535 50 ∷ span 1 0 1 7 ∷ [])
    ∷
    -- G by the other kinds: the windows' own frames, the plain greatest load
    gives (scene_query 1 (2 ∷ []) (6 ∷ [])) log_g (span 0 2 6 3 ∷ [])
    ∷ gives (scene_query 2 (2 ∷ []) (6 ∷ [])) log_g (span 0 2 6 100 ∷ [])
    ∷ gives (scene_query 3 (2 ∷ []) (6 ∷ [])) log_g (span 0 2 6 210 ∷ [])
    ∷ gives (scene_query 4 (2 ∷ []) (6 ∷ [])) log_g (span 0 2 6 17000 ∷ [])
    ∷
    -- frames before the start lie in no window, and the last window is cut off at 65,535
    gives (beat_query 0 5 65528) (span 7 0 65527 9 ∷ span 7 65520 65529 1 ∷ span 7 65532 65533 2 ∷ [])
    (span 7 65528 65532 3 ∷ span 7 65533 65535 2 ∷ [])
    ∷ gives (beat_query 0 65535 65535) (span 3 65535 65535 4 ∷ span 3 65534 65534 5 ∷ []) (span 3 65535 65535 4 ∷ [])
    ∷
    -- no record, no row
    gives (beat_query 0 1000 0) [] []
    ∷
    -- a length of 0; no scene; 17 scenes; as many firsts as lasts there are not
    refuses (beat_query 0 0 1) [] 18 []
    ∷ refuses (scene_query 0 [] []) [] 19 []
    ∷ refuses (scene_query 0 (list_from 0 17 (λ i. i)) (list_from 0 17 (λ i. i))) [] 19 []
    ∷ refuses (scene_query 0 (0 ∷ 2 ∷ []) (1 ∷ [])) [] 19 []
    ∷
    -- 16 scenes; a scene of one frame; a first frame above the last; two scenes that share a frame, and in wrong order
    gives (scene_query 0 (list_from 0 16 (λ i. i)) (list_from 0 16 (λ i. i))) [] []
    ∷ refuses (scene_query 0 (2 ∷ []) (1 ∷ [])) [] 19 []
    ∷ refuses (scene_query 0 (0 ∷ 3 ∷ []) (3 ∷ 4 ∷ [])) [] 19 []
    ∷ refuses (scene_query 0 (5 ∷ 0 ∷ []) (6 ∷ 1 ∷ [])) [] 19 []
    ∷
    -- 2 comes before 18 and 19
    refuses (beat_query 5 0 1) [] 2 []
    ∷
    -- 64 rows
    gives (beat_query 2 1 65472) (span 6 65000 65535 7 ∷ []) (list_from 65472 64 (λ i. span 6 i i 7))
    ∷
    -- and 65
    refuses (beat_query 2 1 65471) (span 6 65000 65535 7 ∷ []) 20 (list_from 65471 65 (λ i. span 6 i i 7))
    ∷ []

abbrev Holds : Case → Type 0
Holds c =
    (ruled_outcome c.query (bytes c.log) slot_length ≡ c.says) × (span_rows c.query.kind c.log (windows c.query) ≡ c.rows)

-- Every row of the table holds.
pub windows_worked : All Holds window_cases
unfolding list_from every joined number_at bytes_of group_count frame_count meets record_length record_bytes record_at record_count twins is_first records meeting sum aggregate aggregated most_rows bound_in beat beat_count scene window_count window_at windows window_row group_rows span_rows slot_length ask outcome lent each marked ask_room kind_known group_known span_questions record_questions twin_questions most_records log_questions scene_follows scene_known most_scenes scenes_known rule_question width_questions window_rows rows_question ruled_order ruled_questions counts_of ruled_answer ruled_outcome no_frames beat_query scene_query
windows_worked = ((refl, refl), ((refl, refl), ((refl, refl), ((refl, refl), ((refl, refl), ((refl, refl), ((refl, refl), ((refl, refl), ((refl, refl), ((refl, refl), ((refl, refl), ((refl, refl), ((refl, refl), ((refl, refl), ((refl, refl), ((refl, refl), ((refl, refl), ((refl, refl), ((refl, refl), ((refl, refl), ((refl, refl), tt)))))))))))))))))))))

-- the slot of the published example, in a buffer of 770 bytes: the last two bytes are kept
pub slot_of_projects : ruled_slot (scene_query 4 (1 ∷ 5 ∷ []) (4 ∷ 8 ∷ [])) (bytes projects) (replicate 770 9)
    ≡ whole_slot
    (0x50 ∷ 0x53 ∷ 4 ∷ 4 ∷ 0 ∷ 0 ∷ 0 ∷ 0 ∷ 0 ∷ 0 ∷ 0 ∷ 0
    ∷ 0x50 ∷ 0x52 ∷ 0 ∷ 1 ∷ 0 ∷ 4 ∷ 0 ∷ 0x50 ∷ 0xC3 ∷ 0 ∷ 0
    ∷ 0x50 ∷ 0x52 ∷ 0 ∷ 5 ∷ 0 ∷ 8 ∷ 0 ∷ 0xB8 ∷ 0x88 ∷ 0 ∷ 0
    ∷ 0x50 ∷ 0x52 ∷ 1 ∷ 1 ∷ 0 ∷ 4 ∷ 0 ∷ 0x50 ∷ 0xC3 ∷ 0 ∷ 0
    ∷ 0x50 ∷ 0x52 ∷ 1 ∷ 5 ∷ 0 ∷ 8 ∷ 0 ∷ 0x50 ∷ 0xC3 ∷ 0 ∷ 0 ∷ [])
    ++ (9 ∷ 9 ∷ [])
unfolding list_from every joined number_at bytes_of group_count frame_count meets record_length record_bytes record_at record_count twins is_first records meeting sum aggregate aggregated most_rows bound_in scene window_count window_at windows window_row group_rows span_rows slot_length row_bytes rows_bytes used_bytes slot_bytes ask lent each marked ask_room kind_known group_known span_questions record_questions twin_questions most_records log_questions scene_follows scene_known most_scenes scenes_known rule_question width_questions window_rows rows_question ruled_order ruled_questions counts_of ruled_answer ruled_mark ruled_slot no_frames scene_query
slot_of_projects = refl
