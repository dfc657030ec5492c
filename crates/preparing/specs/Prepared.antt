-- A query's answer and slot as they are prepared: the questions in two parts, and the slot of a reduction or of rows by windows.
use Rattle.std.specs.Prelude.{Result, Ok, Err, IfOk, ◌≡◌, ℕ, cond, List, ◌∷◌, ◌++◌, leb, length}
use Rattle.std.proofs.Math.Option.{Option, none, some}
use Rattle.model.specs.Spans.{Span}
use Rattle.model.specs.Split.{most_rows, Reduced}
use Rattle.model.specs.Slot.{slot_length, slot_bytes}
use Rattle.model.specs.Questions.{Question, Outcome, outcome, ask, ask_room, kind_known, log_questions}
use Rattle.model.specs.Calls.{answer_case, Counts, counts_in, counts_of}
use Rattle.model.specs.declared.Question as code
use Rattle.model.specs.declared.Refusal.{Refusal}
use Rattle.model.specs.declared.Written.{Written}
use Rattle.preparing.specs.declared.Prepared.{Prepared}

-- 1, 2 and those of the rule: those that need no look at the log
unfoldable pub early_questions : ℕ → List Question → ℕ → List Question
early_questions kind rule room = ask_room slot_length room ∷ ask 2 0 (kind_known kind) ∷ rule

-- those ahead of 10 or 20
unfoldable pub ahead_of_rows : ℕ → List Question → List ℕ → ℕ → List Question
ahead_of_rows kind rule log room = early_questions kind rule room ++ log_questions log

-- this answer and its slot with these rows
unfoldable pub with_rows : ℕ → ℕ → Written → List (Span ℕ) → Prepared
with_rows mark kind w rows = record { written = w; bytes = slot_bytes mark kind w.error rows }

-- an answer and its slot, and the 'no' of this question where there is none
unfoldable pub laid_out : ℕ → code.Question → ℕ → Option Reduced → Result Prepared Refusal
laid_out mark question kind none = Err (record { question = question; index = 0 })
laid_out mark question kind (some d) =
    Ok
    (record {
      written = record { rows = length d.rows; error = d.error; weighed = d.weighed };
      bytes = slot_bytes mark kind d.error d.rows;
    })

-- rows by windows, where they are at most 64
unfoldable pub listed : List (Span ℕ) → Option Reduced
listed rows = cond (leb (length rows) most_rows) (some (record { rows = rows; error = 0; weighed = 0 })) none

-- what was prepared, as a query's answer
abbrev pub prepared_case : Result Prepared Refusal → Outcome Counts
prepared_case = answer_case (λ p. counts_in p.written)

-- what was prepared is what these questions say of an answer, and the slot that is written with it
abbrev pub Prepares : List Question → ℕ → ℕ → Reduced → Result Prepared Refusal → Type 0
Prepares questions mark kind given p =
    (prepared_case p ≡ outcome questions (counts_of given))
    × IfOk p (λ p. p.bytes ≡ slot_bytes mark kind given.error given.rows)
