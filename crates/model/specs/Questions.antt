-- The questions, in the paper's order. A call's questions are a list; the first that is answered 'no' refuses the call.
use Rattle.std.specs.Prelude.{ℕ, zero, suc, ◌-◌, ◌*◌, ◌%◌, Bool, true, ◌&&◌, ◌||◌, cond, List, [], ◌∷◌, ◌++◌, leb, ltb, eqb, length, get_or}
use Rattle.std.proofs.Math.Option.{none, some}
use Rattle.model.specs.Common.{every, is_some}
use Rattle.model.specs.Spans.{Span, frame_count}
use Rattle.model.specs.Log.{record_length, record_at, record_count, records, is_first}
use Rattle.model.specs.Segments.{segments}
use Rattle.model.specs.Split.{most_rows, count_for}
use Rattle.model.specs.Windows.{bound_in, windows, span_rows}
use Rattle.model.specs.Slot.{slot_length, by_bound, by_windows, row_place, slot_mark, slot_kind, slot_count, slot_error, slot_row}
use Rattle.model.specs.declared.Bound.{Bound}
use Rattle.model.specs.declared.Bound.TheVariants.{Rows, Share}
use Rattle.model.specs.declared.Query.{Query}
use Rattle.model.specs.declared.Rule.TheVariants as rule
use Rattle.model.specs.declared.RuledQuery.{RuledQuery}

pub record Question : Type 0 where
  pub number : ℕ
  pub index : ℕ
  pub passed : Bool

unfoldable pub ask : ℕ → ℕ → Bool → Question
ask number index passed = record { number = number; index = index; passed = passed }

-- what a call says: the number and index of its first 'no', or what it gives
pub data Outcome (A : Type 0) : Type 0 where
  refused : ℕ → ℕ → Outcome A
  accepted : A → Outcome A

unfoldable pub outcome : {A : Type 0} → List Question → A → Outcome A
outcome [] a = accepted a
outcome (q ∷ qs) a = cond q.passed (outcome qs a) (refused q.number q.index)

-- what is lent to a call holds afterwards: what the call gives where every question is passed, and else what it held
unfoldable pub lent : {A : Type 0} → List Question → A → A → A
lent [] given kept = given
lent (q ∷ qs) given kept = cond q.passed (lent qs given kept) kept

-- the questions of `count` records or rows from index i on, one's before the next one's
unfoldable pub each : (ℕ → List Question) → ℕ → ℕ → List Question
each questions i zero = []
each questions i (suc count) = questions i ++ each questions (suc i) count

-- the place i holds a mark of two bytes
unfoldable pub marked : List ℕ → ℕ → ℕ → ℕ → Bool
marked bytes i a b = eqb (get_or bytes i 0) a && eqb (get_or bytes (suc i) 0) b

unfoldable pub ask_room : ℕ → ℕ → Question
ask_room needed room = ask 1 0 (leb needed room)

-- the kinds of a query and of a slot are 0 to 4
abbrev pub most_kind : ℕ
most_kind = 4

unfoldable pub kind_known : ℕ → Bool
kind_known kind = leb kind most_kind

unfoldable pub bound_known : Bound → Bool
bound_known (Rows c) = leb c most_rows
bound_known (Share p) = leb p 1000

-- the widths of a memory are 1 to 4,096 frames
abbrev pub most_width : ℕ
most_width = 4096

unfoldable pub width_known : ℕ → Bool
width_known width = leb 1 width && leb width most_width

unfoldable pub group_known : ℕ → Bool
group_known group = leb group 7

-- 7 to 9, of a record
unfoldable pub span_questions : Span ℕ → ℕ → List Question
span_questions r i =
    ask 7 i (group_known r.group) ∷ ask 8 i (leb r.first r.last) ∷ ask 9 i (leb r.value 1000) ∷ []

-- 6 to 9, of the record with index i
unfoldable pub record_questions : List ℕ → ℕ → List Question
record_questions log i =
    ask 6 i (marked log (record_length * i) 0x4C 0x44) ∷ span_questions (record_at log (record_length * i)) i

unfoldable pub most_records : ℕ
most_records = 128

-- 4 and 5, and then what each record is asked
abbrev pub with_records : (ℕ → List Question) → List ℕ → List Question
with_records questions log =
    ask 4 0 (eqb (length log % record_length) 0)
    ∷ ask 5 0 (leb (record_count log) most_records)
    ∷ each questions 0 (record_count log)

-- 4 to 9: all that a log on file is asked
unfoldable pub file_questions : List ℕ → List Question
file_questions log = with_records (record_questions log) log

-- 21, of the record with index i: has no earlier record the same nine bytes?
unfoldable pub twin_questions : List ℕ → ℕ → List Question
twin_questions log i = ask 21 i (is_first log i) ∷ []

-- 4 to 9 and 21
unfoldable pub log_questions : List ℕ → List Question
log_questions log = with_records (λ i. record_questions log i ++ twin_questions log i) log

-- 1, of a buffer as long as the log, and 4 to 9: those of the call for logs on file
unfoldable pub without_twins_questions : List ℕ → ℕ → List Question
without_twins_questions log room = ask_room (length log) room ∷ file_questions log

-- 25: is the width known?
unfoldable pub ask_width : ℕ → Question
ask_width width = ask 25 0 (width_known width)

-- those that a query and a log are asked ahead of 10
unfoldable pub order_questions : Query → List ℕ → List Question
order_questions q log =
    ask 2 0 (kind_known q.kind) ∷ ask 3 0 (bound_known q.bound) ∷ ask_width q.width ∷ log_questions log

-- 10: do the segments of the log answer the bound?
unfoldable pub enough_rows : Query → List ℕ → Bool
enough_rows q log = is_some (count_for q.kind q.bound (segments q.kind q.width (records log)))

unfoldable pub query_questions : Query → List ℕ → ℕ → List Question
query_questions q log room =
    ask_room slot_length room ∷ (order_questions q log ++ (ask 10 0 (enough_rows q log) ∷ []))

-- scene i begins after the last frame of the scene before
unfoldable pub scene_follows : List ℕ → List ℕ → ℕ → Bool
scene_follows firsts lasts zero = true
scene_follows firsts lasts (suc i) = ltb (get_or lasts i 0) (get_or firsts (suc i) 0)

-- scene i is from a first frame to a last one, wholly after the scene before
unfoldable pub scene_known : List ℕ → List ℕ → ℕ → Bool
scene_known firsts lasts i =
    leb (get_or firsts i 0) (get_or lasts i 0) && ltb (get_or lasts i 0) frame_count && scene_follows firsts lasts i

unfoldable pub most_scenes : ℕ
most_scenes = 16

-- 1 to 16 scenes, each as it must be
unfoldable pub scenes_known : List ℕ → List ℕ → ℕ → Bool
scenes_known firsts lasts count = leb 1 count && leb count most_scenes && every (scene_known firsts lasts) 0 count

-- 3 of a rule that is a bound, 18 of windows every so many frames, 19 of scenes
unfoldable pub rule_question : RuledQuery → Question
rule_question q =
    elim q.rule [
      | rule.Rows c ↦ ask 3 0 (bound_known (Rows c))
      | rule.Share p ↦ ask 3 0 (bound_known (Share p))
      | rule.Every length start ↦ ask 18 0 (ltb 0 length)
      | rule.Scenes count ↦ ask 19 0 (scenes_known q.firsts q.lasts count)
    ]

-- 25 of a rule that is a bound: windows read no width, and are not asked
unfoldable pub width_questions : RuledQuery → List Question
width_questions q = elim (bound_in q.rule) [ none ↦ [] | some bound ↦ ask_width q.width ∷ [] ]

-- a query by a bound, from its parts
abbrev pub query_by : ℕ → Bound → ℕ → Query
query_by kind bound width = record { kind = kind; bound = bound; width = width }

-- the query by a bound that a query by a rule is, where its rule is one
abbrev pub with_bound : RuledQuery → Bound → Query
with_bound q bound = query_by q.kind bound q.width

-- the rows of a query by windows
unfoldable pub window_rows : RuledQuery → List ℕ → List (Span ℕ)
window_rows q log = span_rows q.kind (records log) (windows q)

-- 10 of a rule that is a bound, 20 of windows: are there at most 64 rows?
unfoldable pub rows_question : RuledQuery → List ℕ → Question
rows_question q log =
    elim (bound_in q.rule) [
      | none ↦ ask 20 0 (leb (length (window_rows q log)) most_rows)
      | some bound ↦ ask 10 0 (enough_rows (with_bound q bound) log)
    ]

-- those that a query by a rule and a log are asked ahead of 10 or 20, and all
unfoldable pub ruled_order : RuledQuery → List ℕ → List Question
ruled_order q log = ask 2 0 (kind_known q.kind) ∷ rule_question q ∷ (width_questions q ++ log_questions log)

unfoldable pub ruled_questions : RuledQuery → List ℕ → ℕ → List Question
ruled_questions q log room = ask_room slot_length room ∷ (ruled_order q log ++ (rows_question q log ∷ []))

-- the places that a list of segments needs
unfoldable pub most_segments : ℕ
most_segments = 255

unfoldable pub segments_questions : ℕ → ℕ → List ℕ → ℕ → List Question
segments_questions kind width log room =
    ask_room most_segments room ∷ ask 2 0 (kind_known kind) ∷ ask_width width ∷ log_questions log

unfoldable pub write_questions : Span ℕ → ℕ → List Question
write_questions r room = ask_room record_length room ∷ span_questions r 0

-- the row's group is above the previous row's, or equal with its first frame above the previous last
unfoldable pub follows : Span ℕ → Span ℕ → Bool
follows r previous =
    ltb previous.group r.group || (eqb r.group previous.group && ltb previous.last r.first)

unfoldable pub in_order : List ℕ → ℕ → Bool
in_order slot zero = true
in_order slot (suc i) = follows (slot_row slot (suc i)) (slot_row slot i)

abbrev pub most_value : ℕ
most_value = 128000

unfoldable pub row_known : Span ℕ → Bool
row_known r = group_known r.group && leb r.first r.last && leb r.value most_value

-- 14 to 16, of the row with index i
unfoldable pub row_questions : List ℕ → ℕ → List Question
row_questions slot i =
    ask 14 i (marked slot (row_place i) 0x50 0x52) ∷ ask 15 i (row_known (slot_row slot i)) ∷ ask 16 i (in_order slot i) ∷ []

-- the `count` bytes from place i on are all zero
unfoldable pub zeros : List ℕ → ℕ → ℕ → Bool
zeros bytes i zero = true
zeros bytes i (suc count) = eqb (get_or bytes i 0) 0 && zeros bytes (suc i) count

-- 17: the bytes behind the rows are zero, and by windows there is no error
unfoldable pub tail_zero : List ℕ → Bool
tail_zero slot = zeros slot (row_place (slot_count slot)) (slot_length - row_place (slot_count slot))

unfoldable pub error_known : List ℕ → Bool
error_known slot = cond (eqb (slot_mark slot) by_windows) (eqb (slot_error slot) 0) true

-- 11: the header's mark is that of rows by a bound or of rows by windows
unfoldable pub header_marked : List ℕ → Bool
header_marked slot = marked slot 0 0x50 by_bound || marked slot 0 0x50 by_windows

-- 12 to 17
abbrev pub content_questions : List ℕ → List Question
content_questions slot =
    ask 12 0 (kind_known (slot_kind slot))
    ∷ ask 13 0 (leb (slot_count slot) most_rows)
    ∷ (each (row_questions slot) 0 (slot_count slot) ++ (ask 17 0 (tail_zero slot && error_known slot) ∷ []))

-- 1 and 11 to 17
unfoldable pub slot_questions : List ℕ → List Question
slot_questions slot = ask_room slot_length (length slot) ∷ ask 11 0 (header_marked slot) ∷ content_questions slot

-- the slot's, then 7
unfoldable pub lookup_questions : List ℕ → ℕ → List Question
lookup_questions slot group = slot_questions slot ++ (ask 7 0 (group_known group) ∷ [])
