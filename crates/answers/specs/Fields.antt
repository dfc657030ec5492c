-- What a call says, as the fields of its C answer: question 0 where it is accepted; in a refusal the number and index of the
-- first 'no', and 0 in every other field. Assumes nothing.
use Rattle.std.specs.Prelude.{ℕ}
use Rattle.std.proofs.Math.Option.{Option, none, some}
use Rattle.model.specs.Spans.{Span}
use Rattle.model.specs.Questions.{Outcome, refused, accepted}
use Rattle.model.specs.Calls.{Counts, Header}
use Rattle.answers.specs.declared.CAnswer.{CAnswer}
use Rattle.answers.specs.declared.CLogAnswer.{CLogAnswer}
use Rattle.answers.specs.declared.CQueryAnswer.{CQueryAnswer}
use Rattle.answers.specs.declared.CSegmentsAnswer.{CSegmentsAnswer}
use Rattle.answers.specs.declared.CReadAnswer.{CReadAnswer}
use Rattle.answers.specs.declared.CStepAnswer.{CStepAnswer}
use Rattle.answers.specs.declared.CLookupAnswer.{CLookupAnswer}

unfoldable pub asked_fields : Outcome (Unit {0}) → CAnswer
asked_fields (accepted u) = record { question = 0; index = 0 }
asked_fields (refused number index) = record { question = number; index = index }

unfoldable pub log_fields : Outcome ℕ → CLogAnswer
log_fields (accepted n) = record { question = 0; index = 0; length = n }
log_fields (refused number index) = record { question = number; index = index; length = 0 }

unfoldable pub query_fields : Outcome Counts → CQueryAnswer
query_fields (accepted c) =
    record { question = 0; index = 0; rows = c.rows; error = c.error; weighed = c.weighed }
query_fields (refused number index) = record { question = number; index = index; rows = 0; error = 0; weighed = 0 }

unfoldable pub segments_fields : Outcome ℕ → CSegmentsAnswer
segments_fields (accepted count) = record { question = 0; index = 0; count = count }
segments_fields (refused number index) = record { question = number; index = index; count = 0 }

unfoldable pub read_fields : Outcome Header → CReadAnswer
read_fields (accepted h) = record { question = 0; index = 0; kind = h.kind; mark = h.mark; rows = h.rows; error = h.error }
read_fields (refused number index) = record { question = number; index = index; kind = 0; mark = 0; rows = 0; error = 0 }

-- a step that gives no row
unfoldable pub no_row : ℕ → ℕ → ℕ → CStepAnswer
no_row number index next =
    record {
      question = number;
      index = index;
      found = 0;
      group = 0;
      first = 0;
      last = 0;
      value = 0;
      next = next;
    }

-- a step: found is 1 for a row and 0 at the end; next is the number of the row that comes next
unfoldable pub step_fields : Outcome (Option (Span ℕ)) → ℕ → CStepAnswer
step_fields (accepted (some r)) next =
    record {
      question = 0;
      index = 0;
      found = 1;
      group = r.group;
      first = r.first;
      last = r.last;
      value = r.value;
      next = next;
    }
step_fields (accepted none) next = no_row 0 0 next
step_fields (refused number index) next = no_row number index next

-- a lookup: covered is 1 where a row holds the frame
unfoldable pub lookup_fields : Outcome (Option ℕ) → CLookupAnswer
lookup_fields (accepted (some v)) = record { question = 0; index = 0; covered = 1; value = v }
lookup_fields (accepted none) = record { question = 0; index = 0; covered = 0; value = 0 }
lookup_fields (refused number index) = record { question = number; index = index; covered = 0; value = 0 }
