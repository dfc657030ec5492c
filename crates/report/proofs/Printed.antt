-- The rows that are read back from a query's slot are the rows of its answer, so their text is the text of the answer.
-- Assumes nothing.
use Prim.Native.Nat.{ℕ, ◌≤◌, zero-le}
use mathlib.Core.List.{List}
use mathlib.Core.Option.{Option, none, some}
use mathlib.Core.Path.{◌≡◌, refl, sym}
use borrow.Author.Tests.{leb-true}
use lib.ListN.{length}
use Rattle.model.specs.Split.{most_rows}
use Rattle.model.specs.Slot.{slot_length, slot_count}
use Rattle.model.specs.Questions.{Outcome, refused, accepted, ask, slot_questions, query_by}
use Rattle.model.specs.Calls.{Counts, Header, answer_of, counts_of, query_outcome, query_slot, bound_of, letter_questions, letter_outcome, letter_slot, read_outcome, read_rows}
use Rattle.model.specs.Arrays.{rows_in, row_array}
use Rattle.model.specs.declared.Bound.{Bound}
use Rattle.model.specs.declared.Query.{Query}
use Rattle.model.specs.declared.Row.{Row}
use Rattle.theory.proofs.Tests.{true≢false}
use Rattle.theory.proofs.Refusals.{all_head, all_tail, outcome_accepted, accepted_query}
use Rattle.theory.proofs.Demands.{demand2}
use Rattle.preparing.proofs.Answering.{rows_held}
use Rattle.text.specs.Text.{answer_text}
use Rattle.text.specs.Put.{row_count}
use Rattle.report.specs.Report.{letter_rows, query_text}

-- a slot that is read has at most 64 rows
few_read : (slot : List ℕ) (header : Header) → read_outcome slot ≡ accepted header → header.rows ≤ 64
unfolding read_outcome slot_questions ask most_rows
few_read slot header e =
    let (all, same) = outcome_accepted (slot_questions slot) _ header e in
    rw same (leb-true (slot_count slot) 64 (all_head _ _ (all_tail _ _ (all_tail _ _ (all_tail _ _ all)))))

-- what is read back after an accepted query
rows_read_lem : (q : Query) (log slot : List ℕ) (counts : Counts) → query_outcome q log (length slot) ≡ accepted counts
    → (counts.rows ≤ 64) × (rows_in (row_array (read_rows (query_slot q log slot))) counts.rows ≡ (answer_of q log).rows)
unfolding counts_of
rows_read_lem q log slot counts ok =
    let reads = demand2.written q log slot counts ok in
    let (room, order, enough, same) = accepted_query q log (length slot) counts ok in
    rw (same, reads.body) (few_read (query_slot q log slot) _ reads.header, rows_held (answer_of q log).rows)

module _ (kind letter x : ℕ) (log slot : List ℕ) (size : length slot ≡ slot_length) where
  -- a query by letter that is accepted has a letter that names a bound
  named : (counts : Counts) → letter_outcome kind letter x 1 log (length slot) ≡ accepted counts
      → (counts.rows ≤ 64)
      × (rows_in (row_array (read_rows (letter_slot kind letter x 1 log slot))) counts.rows ≡ letter_rows kind letter x log)
  unfolding letter_outcome letter_slot letter_rows letter_questions ask
  named counts ok = by (bound_of letter x) refl
    where
      by : (o : Option Bound) → bound_of letter x ≡ o
          → (counts.rows ≤ 64)
          × (rows_in (row_array (read_rows (letter_slot kind letter x 1 log slot))) counts.rows ≡ letter_rows kind letter x log)
      by none h =
          let (all, same) = outcome_accepted (letter_questions kind (length slot)) _ counts (rw (h, letter_outcome) at ok) in
          absurd (true≢false (sym (all_head _ _ (all_tail _ _ (all_tail _ _ all)))))
      by (some bound) h =
          rw (h, letter_slot, letter_rows)
          (rows_read_lem (query_by kind bound 1) log slot counts (rw (h, letter_outcome) at ok))

  -- the text of the answer with the rows that were read
  pub printed : (says : Outcome Counts) (rows : List Row) → says ≡ letter_outcome kind letter x 1 log (length slot)
      → rows ≡ row_array (read_rows (letter_slot kind letter x 1 log slot))
      → (row_count says ≤ 64) × (answer_text says (rows_in rows (row_count says)) ≡ query_text kind letter x log)
  unfolding row_count query_text answer_text
  printed (refused n i) rows e is = (zero-le, rw (← size, ← e))
  printed (accepted counts) rows e is =
      let (few, same) = named counts (sym e) in
      (few, rw (← size, ← e, is, same))
