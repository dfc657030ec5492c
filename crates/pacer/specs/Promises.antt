-- The third demand of two pieces of code together: what the reader returns of a slot that a query has written.
use Rattle.std.specs.Prelude.{Result, Ok, Err, ℕ, List, [], ◌++◌, map, drop, ◌≡◌}
use Rattle.model.specs.Slot.{slot_length, by_bound}
use Rattle.model.specs.Questions.{accepted}
use Rattle.model.specs.Calls.{Counts, reading_case}
use Rattle.model.specs.Arrays.{rows_in, row_array}
use Rattle.model.specs.Guarantee.{BestRows}
use Rattle.model.specs.Fitting.{whole}
use Rattle.model.specs.Demands.{lists_for, NeverShort}
use Rattle.model.specs.declared.Query.{Query}
use Rattle.model.specs.declared.Reading.{Reading}
use Rattle.model.specs.declared.Refusal.{Refusal}
use Rattle.model.specs.declared.Row.{Row}
use Rattle.preparing.specs.declared.Prepared.{Prepared}

-- the rows that a reader gives: rows of zeros where it refuses the slot
unfoldable pub rows_given : Result Reading Refusal → List Row
rows_given (Ok r) = r.rows
rows_given (Err refusal) = row_array []

-- What was read is a slot of rows by a bound, of the query's kind, with an error and a row count. So many rows of those returned,
-- taken as a list of rows that hold whole numbers, are a list that fits for the kind, with this squared error. With a row limit c
-- they are at most c, no such list of at most c rows has a smaller error, and none of the same error has fewer rows. With a share p
-- they are within it, no such list of as many rows has a smaller error, and every one of fewer rows exceeds p. For kind 3 they
-- never fall short.
pub record BestReading (q : Query) (log : List ℕ) (reading : Result Reading Refusal) : Type 0 where
  pub error : ℕ
  pub count : ℕ
  pub header : reading_case reading
      ≡ accepted (record { mark = by_bound; kind = q.kind; error = error; rows = count })
  pub best : BestRows (lists_for q.kind q.width log) q.bound error (map whole (rows_in (rows_given reading) count))
  pub never_short : NeverShort q log (rows_in (rows_given reading) count)

-- a slot in which something prepared is stored: the slot as it was where it is refused
unfoldable pub stored_in : List ℕ → Result Prepared Refusal → List ℕ
stored_in slot (Ok p) = p.bytes ++ drop slot_length slot
stored_in slot (Err refusal) = slot

-- what would be given by a query that is always refused
unfoldable pub no_counts : Counts
no_counts = record { rows = 0; error = 0; weighed = 0 }
