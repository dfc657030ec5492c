-- What each call answers, and what the places lent to it hold afterwards. For each answer that is an enum, the paper's
-- number and values for each of its cases.
use Rattle.std.specs.Prelude as std
use Rattle.std.specs.Prelude.{◌≡◌, Result, Ok, Err, option_map, ℕ, suc, false, cond, List, [], ◌∷◌, ◌++◌, map, ltb, eqb, length, take, drop, replicate}
use Rattle.std.proofs.Math.Option.{Option, none, some, get_or}
use Rattle.model.specs.Common.{option_of}
use Rattle.model.specs.Spans.{Span}
use Rattle.model.specs.Log.{record_length, record_bytes, records, without_twins}
use Rattle.model.specs.Segments.{segments}
use Rattle.model.specs.Split.{most_rows, Reduced, reduced}
use Rattle.model.specs.Windows.{bound_in}
use Rattle.model.specs.Slot.{slot_length, by_bound, by_windows, slot_bytes, slot_mark, slot_kind, slot_count, slot_error, slot_row, slot_rows, value_in}
use Rattle.model.specs.Questions.{Question, ask, ask_room, kind_known, Outcome, refused, accepted, outcome, lent}
use Rattle.model.specs.Questions.{write_questions, without_twins_questions, segments_questions, query_questions, slot_questions, lookup_questions}
use Rattle.model.specs.Questions.{most_scenes, query_by, with_bound, window_rows, ruled_questions}
use Rattle.model.specs.declared.Record.{Record}
use Rattle.model.specs.declared.Segment.{Segment}
use Rattle.model.specs.declared.Row.{Row}
use Rattle.model.specs.declared.Bound.{Bound}
use Rattle.model.specs.declared.Bound.TheVariants.{Rows, Share}
use Rattle.model.specs.declared.Query.{Query}
use Rattle.model.specs.declared.Rule.{Rule}
use Rattle.model.specs.declared.Rule.TheVariants as rule
use Rattle.model.specs.declared.RuledQuery.{RuledQuery}
use Rattle.model.specs.declared.Question.{Question as Number}
use Rattle.model.specs.declared.Question.TheVariants as question
use Rattle.model.specs.declared.Refusal.{Refusal}
use Rattle.model.specs.declared.Kind.{Kind}
use Rattle.model.specs.declared.Kind.TheVariants as kind
use Rattle.model.specs.declared.Written.{Written}
use Rattle.model.specs.declared.Header as code
use Rattle.model.specs.declared.Reading.{Reading}

-- the code's structs as spans, and back
unfoldable pub record_span : Record → Span ℕ
record_span r = record { group = r.group; first = r.first; last = r.last; value = r.load }

unfoldable pub segment_of : Span ℕ → Segment
segment_of s = record { group = s.group; first = s.first; last = s.last; value = s.value }

unfoldable pub segment_span : Segment → Span ℕ
segment_span s = record { group = s.group; first = s.first; last = s.last; value = s.value }

unfoldable pub row_of_span : Span ℕ → Row
row_of_span s = record { group = s.group; first = s.first; last = s.last; value = s.value }

unfoldable pub row_span : Row → Span ℕ
row_span r = record { group = r.group; first = r.first; last = r.last; value = r.value }

-- The paper's number of each question, and of what is none its own number.

unfoldable pub number : Number → ℕ
number question.Room = 1
number question.Kind = 2
number question.Bound = 3
number question.LogLength = 4
number question.RecordCount = 5
number question.RecordMark = 6
number question.Group = 7
number question.FrameOrder = 8
number question.Load = 9
number question.EnoughRows = 10
number question.SlotMark = 11
number question.SlotKind = 12
number question.RowCount = 13
number question.RowMark = 14
number question.RowFields = 15
number question.RowOrder = 16
number question.Rest = 17
number question.WindowLength = 18
number question.Scenes = 19
number question.WindowRows = 20
number question.Twin = 21
number question.Coverage = 22
number question.GreatestLoad = 23
number question.SlotError = 24
number question.Width = 25
number question.PairCount = 26
number (question.Other other) = other.number

-- What a call answers: the number of the question that refused it, with its index, or what it gives.

unfoldable pub answer_case : {A B : Type 0} → (A → B) → Result A Refusal → Outcome B
answer_case given (Ok a) = accepted (given a)
answer_case given (Err r) = refused (number r.question) r.index

-- The paper's number of each kind. A number is answered as question 2 answers it, with its kind where it has one.

unfoldable pub kind_number : Kind → ℕ
kind_number kind.Sum = 0
kind_number kind.Count = 1
kind_number kind.Least = 2
kind_number kind.Greatest = 3
kind_number kind.Mean = 4
kind_number (kind.Other other) = other.number

abbrev pub IsKind : ℕ → Result Kind Refusal → Type 0
IsKind n r = answer_case kind_number r ≡ outcome (ask 2 0 (kind_known n) ∷ []) n

-- A list of questions alone, and the record writer, which gives nothing more where it has written.

abbrev pub asked_case : Result (Unit {0}) Refusal → Outcome (Unit {0})
asked_case = answer_case (λ _. tt)

-- How many: the bytes that the call for logs on file has written, or the segments.

abbrev pub count_case : Result ℕ Refusal → Outcome ℕ
count_case = answer_case (λ n. n)

-- The record writer.

unfoldable pub write_outcome : Span ℕ → ℕ → Outcome (Unit {0})
write_outcome r room = outcome (write_questions r room) tt

unfoldable pub written_buffer : Span ℕ → List ℕ → List ℕ
written_buffer r buffer = lent (write_questions r (length buffer)) (record_bytes r ++ drop record_length buffer) buffer

-- The call for logs on file: the number of bytes written.

unfoldable pub without_twins_outcome : List ℕ → ℕ → Outcome ℕ
without_twins_outcome log room = outcome (without_twins_questions log room) (length (without_twins log))

unfoldable pub without_twins_buffer : List ℕ → List ℕ → List ℕ
without_twins_buffer log buffer =
    lent (without_twins_questions log (length buffer)) (without_twins log ++ drop (length (without_twins log)) buffer) buffer

-- The segment call: the number of segments.

unfoldable pub log_segments : ℕ → ℕ → List ℕ → List (Span ℕ)
log_segments kind width log = segments kind width (records log)

unfoldable pub segments_outcome : ℕ → ℕ → List ℕ → ℕ → Outcome ℕ
segments_outcome kind width log room =
    outcome (segments_questions kind width log room) (length (log_segments kind width log))

unfoldable pub filled_list : ℕ → ℕ → List ℕ → List Segment → List Segment
filled_list kind width log list =
    lent (segments_questions kind width log (length list))
    (map segment_of (log_segments kind width log) ++ drop (length (log_segments kind width log)) list)
    list

-- The query: rows, error and cuts weighed.

pub record Counts : Type 0 where
  pub rows : ℕ
  pub error : ℕ
  pub weighed : ℕ

unfoldable pub counts_in : Written → Counts
counts_in w = record { rows = w.rows; error = w.error; weighed = w.weighed }

abbrev pub query_case : Result Written Refusal → Outcome Counts
query_case = answer_case counts_in

-- the segments that a query reduces
abbrev pub query_segments : Query → List ℕ → List (Span ℕ)
query_segments q log = log_segments q.kind q.width log

-- the paper's answer to a query, of 0 rows where there is none
unfoldable pub answer_of : Query → List ℕ → Reduced
answer_of q log =
    get_or (reduced q.kind q.bound (query_segments q log)) (record { rows = []; error = 0; weighed = 0 })

unfoldable pub counts_of : Reduced → Counts
counts_of r = record { rows = length r.rows; error = r.error; weighed = r.weighed }

unfoldable pub query_outcome : Query → List ℕ → ℕ → Outcome Counts
query_outcome q log room = outcome (query_questions q log room) (counts_of (answer_of q log))

-- the cuts weighed of an answer: 0 in a refusal
unfoldable pub cuts_weighed : Outcome Counts → ℕ
cuts_weighed (refused number index) = 0
cuts_weighed (accepted counts) = counts.weighed

-- the cuts that a query weighs: those of its table where every question is passed, and else 0
unfoldable pub query_weighed : Query → List ℕ → ℕ → ℕ
query_weighed q log room = lent (query_questions q log room) (answer_of q log).weighed 0

unfoldable pub query_slot : Query → List ℕ → List ℕ → List ℕ
query_slot q log slot =
    lent (query_questions q log (length slot))
    (slot_bytes by_bound q.kind (answer_of q log).error (answer_of q log).rows ++ drop slot_length slot)
    slot

-- The query by a rule: that of its bound, or rows by windows, which have no error and weigh no cuts.

unfoldable pub ruled_answer : RuledQuery → List ℕ → Reduced
ruled_answer q log =
    elim (bound_in q.rule) [
      | none ↦ record { rows = window_rows q log; error = 0; weighed = 0 }
      | some bound ↦ answer_of (with_bound q bound) log
    ]

unfoldable pub ruled_mark : RuledQuery → ℕ
ruled_mark q = elim (bound_in q.rule) [ none ↦ by_windows | some bound ↦ by_bound ]

unfoldable pub ruled_outcome : RuledQuery → List ℕ → ℕ → Outcome Counts
ruled_outcome q log room = outcome (ruled_questions q log room) (counts_of (ruled_answer q log))

unfoldable pub ruled_slot : RuledQuery → List ℕ → List ℕ → List ℕ
ruled_slot q log slot =
    lent (ruled_questions q log (length slot))
    (slot_bytes (ruled_mark q) q.kind (ruled_answer q log).error (ruled_answer q log).rows ++ drop slot_length slot)
    slot

-- Queries by a rule: with a bound, every so many frames from a start frame on, and by scenes, whose first and last frames are two
-- lists. Lists of unequal length are no count of scenes. Where no width is given it is 1; by windows it is not read.

unfoldable pub no_frames : List ℕ
no_frames = replicate most_scenes 0

unfoldable pub rule_of : Bound → Rule
rule_of (Rows c) = rule.Rows c
rule_of (Share p) = rule.Share p

unfoldable pub bounded_query : Query → RuledQuery
bounded_query q =
    record { kind = q.kind; rule = rule_of q.bound; width = q.width; firsts = no_frames; lasts = no_frames }

unfoldable pub beat_query : ℕ → ℕ → ℕ → RuledQuery
beat_query kind length start =
    record { kind = kind; rule = rule.Every length start; width = 1; firsts = no_frames; lasts = no_frames }

unfoldable pub scene_query : ℕ → List ℕ → List ℕ → RuledQuery
scene_query kind firsts lasts =
    record {
      kind = kind;
      rule = rule.Scenes (cond (eqb (length firsts) (length lasts)) (length firsts) 0);
      width = 1;
      firsts = take most_scenes (firsts ++ no_frames);
      lasts = take most_scenes (lasts ++ no_frames);
    }

-- A query whose bound is given by a letter and a number: 52 for a row limit, 45 for a share. Any other letter is question 3's
-- 'no'.

unfoldable pub bound_of : ℕ → ℕ → Option Bound
bound_of letter x = cond (eqb letter 0x52) (some (Rows x)) (cond (eqb letter 0x45) (some (Share x)) none)

unfoldable pub letter_questions : ℕ → ℕ → List Question
letter_questions kind room = ask_room slot_length room ∷ ask 2 0 (kind_known kind) ∷ ask 3 0 false ∷ []

-- all questions of a query by letter: where the letter names a bound, that query's
unfoldable pub by_letter_questions : ℕ → ℕ → ℕ → ℕ → List ℕ → ℕ → List Question
by_letter_questions kind letter x width log room =
    elim (bound_of letter x) [
      | none ↦ letter_questions kind room
      | some bound ↦ query_questions (query_by kind bound width) log room
    ]

unfoldable pub letter_outcome : ℕ → ℕ → ℕ → ℕ → List ℕ → ℕ → Outcome Counts
letter_outcome kind letter x width log room =
    elim (bound_of letter x) [
      | none ↦ outcome (letter_questions kind room) (record { rows = 0; error = 0; weighed = 0 })
      | some bound ↦ query_outcome (query_by kind bound width) log room
    ]

unfoldable pub letter_slot : ℕ → ℕ → ℕ → ℕ → List ℕ → List ℕ → List ℕ
letter_slot kind letter x width log slot =
    elim (bound_of letter x) [ none ↦ slot | some bound ↦ query_slot (query_by kind bound width) log slot ]

unfoldable pub letter_weighed : ℕ → ℕ → ℕ → ℕ → List ℕ → ℕ → ℕ
letter_weighed kind letter x width log room =
    elim (bound_of letter x) [ none ↦ 0 | some bound ↦ query_weighed (query_by kind bound width) log room ]

-- The reader: which header, kind, error and row count, and the rows beside them.

pub record Header : Type 0 where
  pub mark : ℕ
  pub kind : ℕ
  pub error : ℕ
  pub rows : ℕ

unfoldable pub header_in : code.Header → Header
header_in h = record { mark = h.mark; kind = h.kind; error = h.error; rows = h.rows }

abbrev pub read_case : Result code.Header Refusal → Outcome Header
read_case = answer_case header_in

abbrev pub reading_case : Result Reading Refusal → Outcome Header
reading_case = answer_case (λ r. header_in r.header)

-- what the slot's first bytes say
abbrev pub header_of : List ℕ → Header
header_of slot =
    record { mark = slot_mark slot; kind = slot_kind slot; error = slot_error slot; rows = slot_count slot }

unfoldable pub read_outcome : List ℕ → Outcome Header
read_outcome slot = outcome (slot_questions slot) (header_of slot)

-- the rows read, none in a refusal
unfoldable pub read_rows : List ℕ → List (Span ℕ)
read_rows slot = lent (slot_questions slot) (slot_rows slot) []

-- The reader into a lent list of rows: question 1 asks for 64 places too. The first places hold the rows read, and those behind
-- them what they held.

unfoldable pub read_list_questions : List ℕ → ℕ → List Question
read_list_questions slot room = ask_room most_rows room ∷ slot_questions slot

unfoldable pub read_list_outcome : List ℕ → ℕ → Outcome Header
read_list_outcome slot room = outcome (read_list_questions slot room) (header_of slot)

unfoldable pub read_list : List ℕ → List Row → List Row
read_list slot list =
    lent (read_list_questions slot (length list))
    (map row_of_span (slot_rows slot) ++ drop (length (slot_rows slot)) list)
    list

-- The walk by slot and number: a row, or none for 'end'; and the number of the next row, unchanged at the end and in a
-- refusal.

unfoldable pub row_found : std.Option Row → Option (Span ℕ)
row_found row = option_of (option_map row_span row)

abbrev pub step_case : Result (std.Option Row) Refusal → Outcome (Option (Span ℕ))
step_case = answer_case row_found

unfoldable pub step_outcome : List ℕ → ℕ → Outcome (Option (Span ℕ))
step_outcome slot number =
    outcome (slot_questions slot) (cond (ltb number (slot_count slot)) (some (slot_row slot number)) none)

unfoldable pub step_next : List ℕ → ℕ → ℕ
step_next slot number =
    lent (slot_questions slot) (cond (ltb number (slot_count slot)) (suc number) number) number

-- Lookup: a row value, or none for 'uncovered'.

abbrev pub lookup_case : Result (std.Option ℕ) Refusal → Outcome (Option ℕ)
lookup_case = answer_case option_of

unfoldable pub lookup_outcome : List ℕ → ℕ → ℕ → Outcome (Option ℕ)
lookup_outcome slot group frame = outcome (lookup_questions slot group) (value_in (slot_rows slot) group frame)
