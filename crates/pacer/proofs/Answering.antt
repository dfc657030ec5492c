-- What a query leaves in the slot that is lent, what is said of one by a letter, and what the reader makes of the slot. Assumes nothing.
use Prim.Native.Nat.{ℕ, ◌≤◌}
use Rattle.std.specs.Prelude.{Result, Ok, Err, IfOk}
use mathlib.Core.List.{List, [], ◌∷◌, ◌++◌}
use mathlib.Core.Option.{none, some}
use mathlib.Core.Path.{◌≡◌, sym, ap, ◌∙◌}
use lib.ListN.{length, drop}
use borrow.Author.Tests.{leb-true}
use Rattle.model.specs.Split.{Reduced}
use Rattle.model.specs.Slot.{slot_length, by_bound, slot_bytes}
use Rattle.model.specs.Questions.{Question, ask, ask_room, outcome, lent, slot_questions, query_questions, ruled_questions, query_by}
use Rattle.model.specs.Calls.{answer_case, answer_of, query_outcome, query_slot, ruled_answer, ruled_mark, ruled_slot}
use Rattle.model.specs.Calls.{bound_of, letter_questions, letter_outcome, letter_slot, reading_case, read_outcome, read_rows}
use Rattle.model.specs.Arrays.{rows_in, row_array}
use Rattle.model.specs.Demands.{BestSlot}
use Rattle.model.specs.declared.Bound.{Bound}
use Rattle.model.specs.declared.Query.{Query}
use Rattle.model.specs.declared.RuledQuery.{RuledQuery}
use Rattle.model.specs.declared.Row.{Row}
use Rattle.model.specs.declared.Reading.{Reading}
use Rattle.model.specs.declared.Refusal.{Refusal}
use Rattle.theory.proofs.Refusals.{all_head, all_lent, outcome_accepted, refused_lent}
use Rattle.theory.proofs.Demands.{best_never_short}
use Rattle.preparing.specs.declared.Prepared.{Prepared}
use Rattle.preparing.specs.Prepared.{Prepares}
use Rattle.preparing.proofs.Answering.{rows_held}
use Rattle.pacer.specs.Promises.{rows_given, BestReading, stored_in, no_counts}

-- ---- the slot that is lent

-- what was prepared of questions of which the first asks for room
module _ (rest : List Question) (mark kind : ℕ) (given : Reduced) (slot : List ℕ) where
  abbrev asked : List Question
  asked = ask_room slot_length (length slot) ∷ rest

  -- it has room if it is written; stored, it is what the call leaves in the slot
  abbrev Stores : Result Prepared Refusal → Type 0
  Stores p =
      IfOk p (λ _. slot_length ≤ length slot)
      × (stored_in slot p ≡ lent asked (slot_bytes mark kind given.error given.rows ++ drop slot_length slot) slot)

  stored : (p : Result Prepared Refusal) → Prepares asked mark kind given p → Stores p
  unfolding answer_case stored_in ask_room ask
  stored (Ok p) (says, bytes) =
      let all = (outcome_accepted asked _ _ (sym says)).0 in
      (leb-true _ _ (all_head _ _ all), rw bytes (sym (all_lent asked _ _ all)))
  stored (Err refusal) (says, bytes) = (tt, sym (refused_lent asked _ _ _ _ _ (sym says)))

-- by a bound, and by a rule
pub stored_by_bound : (q : Query) (log slot : List ℕ) (p : Result Prepared Refusal)
    → Prepares (query_questions q log (length slot)) by_bound q.kind (answer_of q log) p
    → IfOk p (λ _. slot_length ≤ length slot) × (stored_in slot p ≡ query_slot q log slot)
unfolding query_questions query_slot
stored_by_bound q log slot p prepares = stored _ by_bound q.kind (answer_of q log) slot p prepares

pub stored_by_rule : (q : RuledQuery) (log slot : List ℕ) (p : Result Prepared Refusal)
    → Prepares (ruled_questions q log (length slot)) (ruled_mark q) q.kind (ruled_answer q log) p
    → IfOk p (λ _. slot_length ≤ length slot) × (stored_in slot p ≡ ruled_slot q log slot)
unfolding ruled_questions ruled_slot
stored_by_rule q log slot p prepares = stored _ (ruled_mark q) q.kind (ruled_answer q log) slot p prepares

-- ---- a letter for the bound

module _ (kind letter x width : ℕ) (log slot : List ℕ) where
  -- what is said of a query whose bound the letter names
  pub by_letter : (bound : Bound) → bound_of letter x ≡ some bound
      → (query_outcome (query_by kind bound width) log (length slot) ≡ letter_outcome kind letter x width log (length slot))
      × (query_slot (query_by kind bound width) log slot ≡ letter_slot kind letter x width log slot)
  unfolding letter_outcome letter_slot
  by_letter bound h = (rw (h, letter_outcome), rw (h, letter_slot))

  -- and of another letter
  pub no_letter : bound_of letter x ≡ none
      → (outcome (letter_questions kind (length slot)) no_counts ≡ letter_outcome kind letter x width log (length slot))
      × (slot ≡ letter_slot kind letter x width log slot)
  unfolding letter_outcome letter_slot no_counts
  no_letter h = (rw (h, letter_outcome), rw (h, letter_slot))

-- ---- what the reader returns

-- the rows of the slot, or rows of zeros
pub rows_read : (slot : List ℕ) (read : Result Reading Refusal) → reading_case read ≡ read_outcome slot
    → IfOk read (λ r. r.rows ≡ row_array (read_rows slot)) → rows_given read ≡ row_array (read_rows slot)
unfolding rows_given answer_case read_outcome read_rows
rows_read slot (Ok r) header rows = rows
rows_read slot (Err refusal) header rows = ap row_array (sym (refused_lent (slot_questions slot) _ _ _ _ [] (sym header)))

-- of a slot that holds best rows, the reader returns best rows
pub best_reading : (q : Query) (log slot : List ℕ) (read : Result Reading Refusal) → BestSlot q log slot
    → reading_case read ≡ read_outcome slot → rows_given read ≡ row_array (read_rows slot)
    → BestReading q log read
best_reading q log slot read b header rows =
    let is : rows_in (rows_given read) (length b.rows) ≡ b.rows =
    ap (λ (l : List Row). rows_in l (length b.rows)) (rows ∙ ap row_array b.reads.body) ∙ rows_held b.rows in
    record {
      error = b.error;
      count = length b.rows;
      header = header ∙ b.reads.header;
      best = rw is b.best;
      never_short = rw is (best_never_short q log b.error b.rows b.best);
    }
