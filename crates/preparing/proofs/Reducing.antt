-- From the reduction of segments in arrays to the definition's: its rows are those between its cuts. Assumes nothing.
use Prim.Native.Nat.{ℕ, ◌-◌, ◌≤◌, ◌<◌}
use Rattle.std.specs.Prelude as std
use Rattle.std.specs.Prelude.{Some, None, Ok}
use mathlib.Core.List.{List, [], ◌∷◌, ◌++◌}
use mathlib.Core.Option.{Option, none, some}
use mathlib.Core.Path.{◌≡◌, refl, sym, ap, ◌∙◌}
use native.Mathlib.Omega.{arith}
use lib.ListN.{length, drop}
use Rattle.model.specs.Common.{option_of, list_from}
use Rattle.model.specs.Spans.{Span}
use Rattle.model.specs.Blocks.{segment_at, block, row_value, row_of}
use Rattle.model.specs.Reductions.{IsReduction}
use Rattle.model.specs.Room.{Measured}
use Rattle.model.specs.Slot.{by_bound}
use Rattle.model.specs.Split.{Reduced, least, cuts_of, rows_of, chosen, error_of, gap_below, runs, least_of, count_for, reduced_to, reduced}
use Rattle.model.specs.declared.Bound.{Bound}
use Rattle.model.specs.declared.Question.TheVariants as question
use Rattle.theory.proofs.Tests.{none≢some, some_inj}
use Rattle.theory.proofs.Table.{cuts_of-length}
use Rattle.theory.proofs.Blocks.{rows_length}
use Rattle.theory.proofs.Answer.{reduced_to_lem}
use Rattle.theory.proofs.SlotLaws.{length-list_from}
use Rattle.theory.proofs.Lists.{list_from_cong, segment_at_lem}
use Rattle.choice.proofs.Meeting.{by_rows}
use Rattle.cuts.specs.Held.{ascending, reduction_for, cuts_for}
use Rattle.cuts.specs.declared.Reduction.{Reduction}
use Rattle.split.specs.Ready.{Reduces}
use Rattle.split.proofs.Measuring.{costs_of}
use Rattle.model.specs.Arrays.{rows_in, row_array}
use Rattle.model.specs.declared.Row.{Row}
use Rattle.preparing.specs.Prepared.{with_rows, laid_out}
use Rattle.preparing.proofs.Answering.{rows_held}
use Rattle.rows.specs.Between.{Ordered, rows_between}
use Rattle.rows.proofs.Cut.{ordered, rows_between_lem}

-- rows go by the segments of their blocks only
rows_cong : (kind : ℕ) (h k : ℕ → Span ℕ) (low : ℕ → ℕ) (n : ℕ) → ((x : ℕ) → x < n → h x ≡ k x) → (i : ℕ) (cuts : List ℕ) → i ≤ n
    → IsReduction low i cuts → rows_of (row_value kind) h i cuts ≡ rows_of (row_value kind) k i cuts
unfolding rows_of row_of block
rows_cong kind h k low n e i [] le is = refl
rows_cong kind h k low n e i (j ∷ js) le is =
    let (lt, above, rest) = is in
    rw (
      rows_cong kind h k low n e j js (omega arith) rest,
      e j (omega arith),
      e (i - 1) (omega arith),
      list_from_cong h k j (i - j) (λ x a b. e x (omega arith)),
    )

-- the definition's reduction d, as a reduction and its cuts
pub record Answers (kind : ℕ) (h : ℕ → Span ℕ) (n : ℕ) (bound : Bound) (r : Reduction) (cuts : List ℕ) : Type 0 where
  pub d : Reduced
  pub is : reduced kind bound (list_from 0 n h) ≡ some d
  pub count : r.count ≡ length d.rows
  pub error : r.error ≡ d.error
  pub weighed : r.weighed ≡ d.weighed
  pub counted : count_for kind bound (list_from 0 n h) ≡ some r.count
  pub order : Ordered cuts r.count n
  pub rows : rows_between kind h cuts r.count n ≡ d.rows

module _ (kind : ℕ) (h : ℕ → Span ℕ) (n : ℕ) (ok : Measured (list_from 0 n h)) {bound : Bound} {found : std.Option Reduction} {before cuts : List ℕ} (g : Reduces (error_of kind (list_from 0 n h)) (gap_below (list_from 0 n h)) n (runs (list_from 0 n h)) bound found before cuts) where
  abbrev segs : List (Span ℕ)
  segs = list_from 0 n h

  size : length segs ≡ n
  size = length-list_from 0 n h

  same_choice : chosen bound (by_rows (error_of kind segs) (gap_below segs) n) n (runs segs) ≡ count_for kind bound segs
  unfolding count_for least_of
  same_choice = ap (λ (x : ℕ). chosen bound (λ k. least (error_of kind segs) (gap_below segs) k x) x (runs segs)) (sym size)

  -- the reduction by the number of rows that answers
  reduction_none : count_for kind bound segs ≡ none → found ≡ None
  unfolding reduction_for
  reduction_none e = rw (g.answer, same_choice ∙ e, reduction_for)

  pub unanswered : found ≡ None → reduced kind bound segs ≡ none
  unfolding reduced reduction_for option_of
  unanswered f = by (count_for kind bound segs) refl
    where
      by : (o : Option ℕ) → count_for kind bound segs ≡ o → reduced kind bound segs ≡ none
      by none e = rw (e, reduced)
      by (some k) e = absurd (none≢some (ap option_of f) (ap option_of (rw (same_choice ∙ e, reduction_for) at g.answer)))

  module _ (k : ℕ) (e : count_for kind bound segs ≡ some k) where
    chosen_is : chosen bound (by_rows (error_of kind segs) (gap_below segs) n) n (runs segs) ≡ some k
    chosen_is = same_choice ∙ e

    abbrev cuts_of_lem : List ℕ
    cuts_of_lem = cuts_of (error_of kind segs) (gap_below segs) k n

    count_is : length cuts_of_lem ≡ k
    count_is = cuts_of-length (error_of kind segs) (gap_below segs) k n

    is_cuts : IsReduction (gap_below segs) n cuts_of_lem
    is_cuts =
        let costs = rw size at (costs_of kind segs ok) in
        let (t, is) = costs.answers bound k chosen_is in
        costs.sound k t is

    stored : cuts ≡ ascending cuts_of_lem ++ drop k before
    unfolding cuts_for
    stored = g.cuts ∙ rw (chosen_is, cuts_for)

    rows_are : rows_between kind h cuts k n ≡ rows_of (row_value kind) (segment_at segs) n cuts_of_lem
    rows_are =
        rw stored
        ((rw count_is at (rows_between_lem kind h n cuts_of_lem (drop k before)))
        ∙ rows_cong kind h (segment_at segs) (gap_below segs) n (λ x lt. sym (segment_at_lem h n x lt)) n cuts_of_lem (omega arith) is_cuts)

    answers_by : (r : Reduction) → found ≡ Some r → Answers kind h n bound r cuts
    unfolding reduction_for reduced_to least_of option_of
    answers_by r f =
        let here = some_inj (ap option_of f) (ap option_of (rw (chosen_is, reduction_for) at g.answer)) in
        rw here (record {
          d = reduced_to kind bound segs k;
          is = reduced_to_lem kind segs bound k e;
          count = rw size (sym (rows_length (row_value kind) (segment_at segs) n cuts_of_lem ∙ count_is));
          error = rw size;
          weighed = rw size;
          counted = e;
          order = rw stored (rw count_is at (ordered (gap_below segs) n cuts_of_lem (drop k before) is_cuts));
          rows = rows_are ∙ rw size;
        })

  pub answers : (r : Reduction) → found ≡ Some r → Answers kind h n bound r cuts
  unfolding option_of
  answers r f = by (count_for kind bound segs) refl
    where
      by : (o : Option ℕ) → count_for kind bound segs ≡ o → Answers kind h n bound r cuts
      by none e = absurd (none≢some (ap option_of (reduction_none e)) (ap option_of f))
      by (some k) e = answers_by k e r f

-- the rows between the cuts, laid out, are the definition's
pub laid_rows : (kind : ℕ) (h : ℕ → Span ℕ) (n : ℕ) {bound : Bound} {r : Reduction} {cuts : List ℕ} → Answers kind h n bound r cuts → (rows : List Row)
    → rows ≡ row_array (rows_between kind h cuts r.count n) → Ok (with_rows by_bound kind (record { rows = r.count; error = r.error; weighed = r.weighed }) (rows_in rows r.count)) ≡ laid_out by_bound question.EnoughRows kind (reduced kind bound (list_from 0 n h))
unfolding with_rows laid_out
laid_rows kind h n a rows made =
    rw (made, a.rows, a.count, rows_held a.d.rows, a.is, a.error, a.weighed)
