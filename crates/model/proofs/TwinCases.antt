-- Twin records, shown of the definitions: what a log's questions say, and what the call for logs on file says and leaves in a buffer
-- of nines. Assumes nothing.
use Prim.Native.Nat.{ℕ, ◌-◌}
use mathlib.Core.List.{List, [], ◌∷◌, ◌++◌}
use mathlib.Core.Path.{◌≡◌, refl}
use lib.ListN.{length, replicate}
use Rattle.model.specs.Common.{list_from, every, joined, number_at, bytes_of}
use Rattle.model.specs.Spans.{Span}
use Rattle.model.specs.Log.{record_length, record_bytes, record_at, record_count, record_part, twins, is_first, firsts_of, without_twins}
use Rattle.model.specs.Questions.{ask, Outcome, refused, accepted, outcome, lent, each, marked, ask_room, group_known, span_questions, record_questions, twin_questions, most_records, file_questions, log_questions, without_twins_questions}
use Rattle.model.specs.Calls.{without_twins_outcome, without_twins_buffer}
use Rattle.model.proofs.Cases.{All, span, bytes}

-- a log and the length of a buffer; what the log's questions say; what the call for logs on file says, and the records that it writes
record Case : Type 0 where
  log : List (Span ℕ)
  room : ℕ
  asked : Outcome (Unit {0})
  says : Outcome ℕ
  kept : List (Span ℕ)

abbrev passed : Outcome (Unit {0})
passed = accepted tt

-- records of these fields
abbrev pub a : Span ℕ
a = span 0 0 3 100

abbrev pub b : Span ℕ
b = span 0 2 5 200

-- one with a load that is too high
abbrev pub bad : Span ℕ
bad = span 0 2 5 1001

abbrev case : List (Span ℕ) → ℕ → Outcome (Unit {0}) → Outcome ℕ → List (Span ℕ) → Case
case log room asked says kept = record { log = log; room = room; asked = asked; says = says; kept = kept }

-- records that differ from the first one in one byte each
abbrev nearly : List (Span ℕ)
nearly =
    a ∷ span 1 0 3 100 ∷ span 0 1 3 100 ∷ span 0 256 259 100 ∷ span 0 0 2 100 ∷ span 0 0 259 100 ∷ span 0 0 3 101 ∷ span 0 0 3 356
    ∷ []

abbrev twin_cases : List Case
twin_cases =
    -- next to each other, and further apart: the later one's index
    case (a ∷ a ∷ []) 18 (refused 21 1) (accepted 9) (a ∷ [])
    ∷ case (a ∷ b ∷ a ∷ []) 27 (refused 21 2) (accepted 18) (a ∷ b ∷ [])
    ∷
    -- three equal ones, and two pairs: in the order of first appearance
    case (a ∷ a ∷ a ∷ []) 27 (refused 21 1) (accepted 9) (a ∷ [])
    ∷ case (b ∷ a ∷ a ∷ b ∷ []) 36 (refused 21 2) (accepted 18) (b ∷ a ∷ [])
    ∷
    -- no twins: byte for byte; and no records
    case nearly 72 passed (accepted 72) nearly
    ∷ case [] 0 passed (accepted 0) []
    ∷
    -- behind a record that is refused, and before one
    case (a ∷ bad ∷ a ∷ []) 27 (refused 9 1) (refused 9 1) []
    ∷ case (a ∷ a ∷ bad ∷ []) 27 (refused 21 1) (refused 9 2) []
    ∷
    -- a buffer that is one byte short, and a longer one
    case (a ∷ a ∷ []) 17 (refused 21 1) (refused 1 0) []
    ∷ case (a ∷ a ∷ []) 20 (refused 21 1) (accepted 9) (a ∷ [])
    ∷ []

abbrev Holds : Case → Type 0
Holds c =
    (outcome (log_questions (bytes c.log)) tt ≡ c.asked) × (without_twins_outcome (bytes c.log) c.room ≡ c.says)
    × (without_twins_buffer (bytes c.log) (replicate c.room 9) ≡ bytes c.kept ++ replicate (c.room - length (bytes c.kept)) 9)

-- Every row of the table holds.
pub twins_worked : All Holds twin_cases
unfolding list_from every joined number_at bytes_of record_length record_bytes record_at record_count record_part twins is_first firsts_of without_twins ask outcome lent each marked ask_room group_known span_questions record_questions twin_questions most_records file_questions log_questions without_twins_questions without_twins_outcome without_twins_buffer
twins_worked = ((refl, refl, refl), ((refl, refl, refl), ((refl, refl, refl), ((refl, refl, refl), ((refl, refl, refl), ((refl, refl, refl), ((refl, refl, refl), ((refl, refl, refl), ((refl, refl, refl), ((refl, refl, refl), tt))))))))))
