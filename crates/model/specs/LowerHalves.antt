-- The tool before halves went up: at a half, a row value was the lower whole number. Nothing here is what the tool gives now. It
-- stands for the statements about what the upper number changes and what it does not, and about slots that were written before.
use Rattle.std.specs.Prelude.{ℕ, suc, ◌*◌, ◌/◌, ◌%◌, cond, List, [], ◌∷◌, ◌++◌, ltb, eqb, pos, length}
use Rattle.std.proofs.Math.Option.{Option, none, some, get_or}
use Rattle.model.specs.Common.{is_some}
use Rattle.model.specs.Spans.{Span}
use Rattle.model.specs.Log.{greatest_kind}
use Rattle.model.specs.Blocks.{segment_at, block, totals, error_with}
use Rattle.model.specs.Split.{least, weighed, cuts_of, rows_of, chosen, rows_tried, Reduced, gap_below, runs}
use Rattle.model.specs.Slot.{slot_length}
use Rattle.model.specs.Questions.{Outcome, ask, ask_room, outcome, order_questions}
use Rattle.model.specs.Calls.{Counts, counts_of, query_segments}
use Rattle.model.specs.declared.Bound.{Bound}
use Rattle.model.specs.declared.Query.{Query}

-- the whole number nearest to sum / frames, the lower one at a half (0 for no frames)
unfoldable pub lower_nearest : ℕ → ℕ → ℕ
lower_nearest sum frames = cond (ltb frames (2 * (sum % frames))) (suc (sum / frames)) (sum / frames)

-- row value and error of a block, as in `Blocks`
unfoldable pub lower_value : ℕ → List (Span ℕ) → ℕ
lower_value kind b =
    cond (eqb kind greatest_kind) (totals b).greatest (lower_nearest (totals b).sum (totals b).frames)

unfoldable pub lower_error : ℕ → List (Span ℕ) → ℕ
lower_error kind b = error_with (pos (lower_value kind b)) b

-- the answer to a bound, as in `Split`
unfoldable pub lower_error_of : ℕ → List (Span ℕ) → ℕ → ℕ → ℕ
lower_error_of kind segs j i = lower_error kind (block (segment_at segs) j i)

unfoldable pub lower_least_of : ℕ → List (Span ℕ) → ℕ → Option ℕ
lower_least_of kind segs k = least (lower_error_of kind segs) (gap_below segs) k (length segs)

unfoldable pub lower_count_for : ℕ → Bound → List (Span ℕ) → Option ℕ
lower_count_for kind bound segs = chosen bound (lower_least_of kind segs) (length segs) (runs segs)

unfoldable pub lower_reduced_to : ℕ → Bound → List (Span ℕ) → ℕ → Reduced
lower_reduced_to kind bound segs k =
    record {
      rows = rows_of (lower_value kind) (segment_at segs) (length segs) (cuts_of (lower_error_of kind segs) (gap_below segs) k (length segs));
      error = get_or (lower_least_of kind segs k) 0;
      weighed = weighed (lower_error_of kind segs) (gap_below segs) (rows_tried bound (length segs) k) (length segs);
    }

unfoldable pub lower_reduced : ℕ → Bound → List (Span ℕ) → Option Reduced
lower_reduced kind bound segs =
    elim (lower_count_for kind bound segs) [ none ↦ none | some k ↦ some (lower_reduced_to kind bound segs k) ]

-- the answer to a query and what the call said, as in `Questions` and `Calls`
unfoldable pub lower_answer : Query → List ℕ → Reduced
lower_answer q log =
    get_or (lower_reduced q.kind q.bound (query_segments q log)) (record { rows = []; error = 0; weighed = 0 })

unfoldable pub lower_outcome : Query → List ℕ → ℕ → Outcome Counts
lower_outcome q log room =
    outcome
    (ask_room slot_length room
    ∷ (order_questions q log ++ (ask 10 0 (is_some (lower_count_for q.kind q.bound (query_segments q log))) ∷ [])))
    (counts_of (lower_answer q log))
