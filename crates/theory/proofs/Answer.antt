-- The paper's answer to a query is the reduction that its bound asks for, and its rows are best among all lists that fit for its
-- kind. Assumes nothing.
use Prim.Native.Nat.{ℕ, ◌≤◌, ◌<◌}
use mathlib.Core.Bool.{false}
use mathlib.Core.List.{List, [], ◌∷◌, ◌++◌, map, map-append}
use mathlib.Core.Logic.{◌↔◌}
use mathlib.Core.Option.{Option, some}
use mathlib.Core.Path.{◌≡◌, refl, sym, ap, ◌∙◌}
use native.Mathlib.Omega.{arith}
use lib.IntN.{ℤ, pos}
use lib.ListN.{length}
use Rattle.model.specs.Common.{is_some}
use Rattle.model.specs.Spans.{Span, group_count, frame_count, meets, holds}
use Rattle.model.specs.Log.{greatest_kind, value}
use Rattle.model.specs.Segments.{segments}
use Rattle.model.specs.Blocks.{segment_at, row_value, row_of, block_error, error_with}
use Rattle.model.specs.Split.{cuts_of, rows_of, error_of, gap_below, runs, least_of, count_for, reduced_to, reduced}
use Rattle.model.specs.Reductions.{IsReduction, reduction_error}
use Rattle.model.specs.Slot.{value_in}
use Rattle.model.specs.Guarantee.{LeastOfFewest, BestRows, NoRows}
use Rattle.model.specs.Fitting.{due, squared_error, FitsFor, whole, row_lists}
use Rattle.model.specs.Demands.{Cut, Reduces}
use Rattle.model.specs.declared.Bound.{Bound}
use Rattle.theory.proofs.Tests.{cases, is_none}
use Rattle.theory.proofs.Frames.{value_inside}
use Rattle.theory.proofs.Cost.{cost_of, error_in, best_row, best_rows, error_under}
use Rattle.theory.proofs.Blocks.{wider}
use Rattle.theory.proofs.RowValues.{row_cost}
use Rattle.theory.proofs.Table.{sound, cuts_of-length}
use Rattle.theory.proofs.Converse.{fits, allowed, error, count}
use Rattle.theory.proofs.Labels.{labelled_frame}
use Rattle.theory.proofs.Cutting.{no_better_lem}
use Rattle.theory.proofs.Bounds.{by_number}
use Rattle.theory.proofs.Guarantee.{limit_of, ByReductions}
use Rattle.theory.proofs.Guarantee as guarantee

-- ---- the answer is the reduction that the bound asks for

module _ (kind : ℕ) (segs : List (Span ℕ)) where
  pub reduced_to_lem : (bound : Bound) (k : ℕ) → count_for kind bound segs ≡ some k
      → reduced kind bound segs ≡ some (reduced_to kind bound segs k)
  unfolding reduced
  reduced_to_lem bound k h = rw (h, reduced)

  pub widens : (a b i : ℕ) → a ≤ b → b < i → error_of kind segs b i ≤ error_of kind segs a i
  unfolding error_of block_error error_with error_in cost_of row_cost
  widens = wider (row_cost kind) (segment_at segs)

  -- the cuts of k rows, read back from the split table
  abbrev pub cuts_to : ℕ → List ℕ
  cuts_to k = cuts_of (error_of kind segs) (gap_below segs) k (length segs)

  pub answer_reduces : (bound : Bound) (k : ℕ) → count_for kind bound segs ≡ some k
      → Cut kind segs (reduced_to kind bound segs k) (cuts_to k) × Reduces kind bound segs (cuts_to k) × (length (cuts_to k) ≡ k)
  unfolding count_for least_of gap_below runs reduced_to
  answer_reduces bound k h =
      let (t, found, reduces) =
      guarantee.answer_reduces (segment_at segs) (length segs) (error_of kind segs) widens bound k h in (
        record {
          rows = refl;
          error = rw found (sym (sound (error_of kind segs) (gap_below segs) widens k (length segs) t found).1);
        },
        reduces,
        cuts_of-length (error_of kind segs) (gap_below segs) k (length segs),
      )

-- ---- reductions and fitting lists

whole_rows : (kind : ℕ) (seg : ℕ → Span ℕ) (i : ℕ) (cuts : List ℕ)
    → map whole (rows_of (row_value kind) seg i cuts) ≡ best_rows (row_cost kind) seg i cuts
unfolding rows_of row_of whole row_cost
whole_rows kind seg i [] = refl
whole_rows kind seg i (j ∷ js) =
    map-append whole (rows_of (row_value kind) seg j js) (row_of (row_value kind) seg j i ∷ [])
    ∙ ap (λ l. l ++ (best_row (row_cost kind) seg j i ∷ [])) (whole_rows kind seg j js)

module _ (kind width : ℕ) (rs : List (Span ℕ)) where
  abbrev val : ℕ → ℕ → Option ℕ
  val = value kind width rs

  abbrev segs : List (Span ℕ)
  segs = segments kind width rs

  abbrev seg : ℕ → Span ℕ
  seg = segment_at segs

  abbrev n : ℕ
  n = length segs

  -- the rows of a reduction are a list that fits for the kind, with the reduction's error
  reach : (cuts : List ℕ) → IsReduction (gap_below segs) n cuts
      → FitsFor kind val (map whole (rows_of (row_value kind) seg n cuts))
      × (squared_error val (map whole (rows_of (row_value kind) seg n cuts)) ≡ reduction_error (error_of kind segs) n cuts)
      × (length (map whole (rows_of (row_value kind) seg n cuts)) ≡ length cuts)
  unfolding gap_below squared_error error_under error_of block_error error_with error_in cost_of row_cost segments
  reach cuts is =
      rw (whole_rows kind seg n cuts) (
        record {
          covers = fits (row_cost kind) val group_count frame_count (value_inside kind width rs) seg n (by_number segs) cuts is;
          nowhere_below = λ k g f v z p q.
              allowed (row_cost kind) val group_count frame_count (value_inside kind width rs) seg n (by_number segs) cuts is g f v z p q k;
        },
        error (row_cost kind) val group_count frame_count (value_inside kind width rs) seg n (by_number segs) cuts is,
        count (row_cost kind) val group_count frame_count (value_inside kind width rs) seg n (by_number segs) cuts is,
      )

  -- a list that fits for the kind is no better than some reduction
  beaten : (rows : List (Span ℤ)) → FitsFor kind val rows
      → (cuts : List ℕ) × IsReduction (gap_below segs) n cuts × (length cuts ≤ length rows)
      × (reduction_error (error_of kind segs) n cuts ≤ squared_error val rows)
  unfolding gap_below squared_error error_under error_of block_error error_with error_in cost_of row_cost segments
  beaten rows f =
      no_better_lem (row_cost kind) val group_count frame_count (value_inside kind width rs) seg n (by_number segs) rows f.covers
      (λ g x v z p q k. f.nowhere_below k g x v z p q)

  by_reductions : ByReductions (row_lists kind val) seg n (error_of kind segs)
  unfolding gap_below
  by_reductions =
      record {
        widens = widens kind segs;
        made = λ cuts. map whole (rows_of (row_value kind) seg n cuts);
        reach = reach;
        beaten = beaten;
      }

  -- the best rows
  pub best_rows_lem : (bound : Bound) (cuts : List ℕ) → Reduces kind bound segs cuts
      → BestRows (row_lists kind val) bound (reduction_error (error_of kind segs) n cuts) (map whole (rows_of (row_value kind) seg n cuts))
  unfolding by_reductions gap_below runs
  best_rows_lem = guarantee.best_choice by_reductions

  -- the answer's number of rows is at most the limit, and with a share at most the most rows of a slot
  pub count_le : (bound : Bound) (k : ℕ) → count_for kind bound segs ≡ some k → k ≤ limit_of bound
  unfolding count_for least_of gap_below runs
  count_le = guarantee.count_le by_reductions

  -- too few rows
  pub too_few_rows : (bound : Bound) → (is_some (count_for kind bound segs) ≡ false) ↔ NoRows (row_lists kind val) bound
  unfolding count_for least_of gap_below runs is_some
  too_few_rows bound =
      let (none-fits, refuses) = guarantee.too_few_rows by_reductions bound in
      ((λ h. none-fits (is_none _ h)), λ nothing. ap is_some (refuses nothing))

  -- the least error of the fewest rows
  pub only_least : (L : ℕ) × LeastOfFewest (row_lists kind val) L × ((M : ℕ) → LeastOfFewest (row_lists kind val) M → M ≡ L)
  only_least = guarantee.only_least by_reductions

-- ---- rows of kind 3

-- the number of a frame's row, as a whole number
pub whole_value : (rows : List (Span ℕ)) (g f : ℕ) (z : ℤ) → value_in (map whole rows) g f ≡ some z
    → (r : ℕ) × (value_in rows g f ≡ some r) × (z ≡ pos r)
unfolding value_in whole holds meets
whole_value [] g f z e = absurd (let x : ◌≡◌ {A = ℕ} 0 1 = cc in omega arith)
whole_value (r ∷ rows) g f z e =
    cases (holds r g f) (λ t. (r.value, rw t, cc (rw t at e)))
    (λ t. let (x, is, same) = whole_value rows g f z (rw t at e) in (x, rw t is, same))

-- a list that fits for kind 3 has a number for every covered frame, and it is at least the frame's value
pub never_short_lem : (val : ℕ → ℕ → Option ℕ) (rows : List (Span ℕ)) → FitsFor greatest_kind val (map whole rows)
    → (g f v : ℕ) → val g f ≡ some v → (r : ℕ) × (value_in rows g f ≡ some r) × (v ≤ r)
unfolding due
never_short_lem val rows fit g f v e =
    let once = fit.covers.exact g f ∙ ap due e in
    let (z, label) = labelled_frame g f (map whole rows) (omega arith) in
    let (r, is, same) = whole_value rows g f z label in
    (r, is, rw same at (fit.nowhere_below refl g f v z e label))
