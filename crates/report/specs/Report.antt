-- The program `profile`: it reads kind (1 byte), 52 for a limit or 45 for a share, the bound (2 bytes), then the log, and
-- prints the answer. It reads no width, so that the width is 1. Fewer than 4 bytes print `no 2 0`; more than 65,536 bytes print `no 5 0` ahead of all questions.
use Rattle.std.specs.Prelude.{ℕ, cond, List, [], ltb, length, get_or, drop}
use Rattle.std.proofs.Math.Option.{none, some}
use Rattle.model.specs.Common.{number_at}
use Rattle.model.specs.Spans.{Span}
use Rattle.model.specs.Slot.{slot_length}
use Rattle.model.specs.Questions.{query_by}
use Rattle.model.specs.Calls.{answer_of, bound_of, letter_outcome}
use Rattle.text.specs.Text.{refusal_text, answer_text}

-- the rows of the paper's answer to the query that a letter names
unfoldable pub letter_rows : ℕ → ℕ → ℕ → List ℕ → List (Span ℕ)
letter_rows kind letter x log =
    elim (bound_of letter x)
    [ none ↦ [] | some bound ↦ (answer_of (query_by kind bound 1) log).rows ]

-- the text of the answer to a query: kind, letter and number of its bound, log
unfoldable pub query_text : ℕ → ℕ → ℕ → List ℕ → List ℕ
query_text kind letter x log = answer_text (letter_outcome kind letter x 1 log slot_length) (letter_rows kind letter x log)

-- the most bytes that are read
unfoldable pub most_input : ℕ
most_input = 65536

-- the bytes ahead of the log
unfoldable pub head_length : ℕ
head_length = 4

unfoldable pub profile_text : List ℕ → List ℕ
profile_text input =
    let text = query_text (get_or input 0 0) (get_or input 1 0) (number_at 2 input 2) (drop head_length input) in
    cond (ltb most_input (length input)) (refusal_text 5 0) (cond (ltb (length input) head_length) (refusal_text 2 0) text)
