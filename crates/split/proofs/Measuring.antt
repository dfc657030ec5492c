-- What blocks of measured segments cost: all that a table asks of errors and gaps. And the reductions that need no table: one row, no
-- segments, and no row for some run. Assumes nothing.
use Rattle.std.specs.Prelude as std
use Rattle.std.specs.Prelude.{Some, None}
use Rattle.std.specs.Borrow.{Bor}
use Prim.Native.Nat.{ℕ, zero, suc, ◌-◌, ◌*◌, ◌≤◌, ◌<◌, zero-le, min}
use mathlib.Core.Bool.{Bool, false, ◌&&◌, not}
use mathlib.Core.List.{List}
use mathlib.Core.Option.{some}
use mathlib.Core.Path.{◌≡◌, refl, sym, ap, ◌∙◌, subst}
use native.Mathlib.Omega.{arith}
use lib.Dec.{ltb, eqb, lit<}
use lib.ListN.{length, get_or, set, replicate, length-replicate, get_or-replicate}
use borrow.Author.Tests.{le-leb, ltb-true, ltb-false}
use Rattle.model.specs.Common.{list_from, sum_from}
use Rattle.model.specs.Spans.{Span}
use Rattle.model.specs.Blocks.{segment_at, last_gap, runs_to}
use Rattle.model.specs.Split.{single, cell, least, weighed, cuts_of, fewest, within, first_that, most_rows, chosen, rows_tried, error_of, gap_below, runs}
use Rattle.model.specs.Reductions.{IsReduction, reduction_error}
use Rattle.model.specs.Arrays.{span_in, segments_in}
use Rattle.model.specs.Calls.{kind_number}
use Rattle.model.specs.declared.Kind.{Kind}
use Rattle.model.specs.declared.Segments.{Segments}
use Rattle.model.specs.Room.{Measured, most_error}
use Rattle.model.specs.declared.Bound.{Bound}
use Rattle.model.specs.declared.Bound.TheVariants.{Rows, Share}
use Rattle.theory.proofs.Tests.{cases, none≢some, some_inj, true≢false}
use Rattle.theory.proofs.Lists.{after_set}
use Rattle.theory.proofs.Table.{sound, blocks_le, cuts_of-length}
use Rattle.theory.proofs.Choice.{last_gap-le, runs_le, errors_some}
use Rattle.theory.proofs.Bounds.{error_range, reduction_error_le}
use Rattle.theory.proofs.Guarantee.{answer_reduces}
use Rattle.theory.proofs.Answer.{widens}
use Rattle.theory.proofs.SlotLaws.{length-list_from}
use Rattle.triangle.specs.Places.{gap_at, Agree}
use Rattle.triangle.specs.Costs.{Costs}
use Rattle.triangle.proofs.Agreeing.{costs_cong}
use Rattle.choice.specs.Errors.{no_error, Stands}
use Rattle.choice.specs.Bounds.{covers_runs, last_row, meets, meets_in, stop_row, filled_rows, Comparable}
use Rattle.choice.specs.Columns.{FilledColumn}
use Rattle.choice.proofs.Errors.{none_in, some_in}
use Rattle.choice.proofs.Meeting.{by_rows, comparable, meets_column}
use Rattle.choice.proofs.Choosing.{no_rows, few_rows}
use Rattle.measures.proofs.Growing.{measurable, error_plain}
use Rattle.errors.specs.Filled.{cost_in}
use Rattle.cuts.specs.Held.{ascending, reduction_for, cuts_for}
use Rattle.cuts.specs.declared.Reduction.{Reduction}
use Rattle.cuts.proofs.Answering.{reduction_weighed}
use Rattle.table.proofs.Filling.{stop_met, stop_end}
use Rattle.choice.specs.declared.Task.{Task}
use Rattle.split.specs.Ready.{Ready, Counted, no_segments, Reduces, Reduced}
use Rattle.split.proofs.Sharing.{reduces_cong}

-- ---- all that a table asks

-- of errors that a wider block does not lower and that stay in range, whatever a block costs
module _ (segs : List (Span ℕ)) (few : length segs ≤ 255) (err : ℕ → ℕ → ℕ)
    (widens : (a b i : ℕ) → a ≤ b → b < i → err b i ≤ err a i)
    (range : (j i : ℕ) → j ≤ i → i ≤ length segs → err j i ≤ most_error)
    (reduction-le : (i : ℕ) (cuts : List ℕ) → i ≤ length segs → IsReduction (gap_below segs) i cuts
    → reduction_error err i cuts ≤ most_error) where
  costs_by : Costs err (gap_below segs) (length segs) (runs segs)
  unfolding gap_below runs
  costs_by =
      record {
        few = few;
        gap_below = gap_below_lem;
        block_le = λ j i above lt le. range j i (omega arith) le;
        least_le = λ k i t le e.
            let (is, q) = sound err (last_gap (segment_at segs)) widens k i t e in
            omega (arith, q, reduction-le i (cuts_of err (last_gap (segment_at segs)) k i) le is);
        possible = λ k lo hi. errors_some (segment_at segs) (length segs) err widens k lo hi;
        needed = λ k t e.
            let (is, q) = sound err (last_gap (segment_at segs)) widens k (length segs) t e in
            let size = cuts_of-length err (last_gap (segment_at segs)) k (length segs) in
            let many = runs_le (segment_at segs) (length segs) (cuts_of err (last_gap (segment_at segs)) k (length segs)) is in
            let few = blocks_le (last_gap (segment_at segs)) (length segs) (cuts_of err (last_gap (segment_at segs)) k (length segs)) is in
            (omega arith, omega arith);
        sound = λ k t e. (sound err (last_gap (segment_at segs)) widens k (length segs) t e).0;
        answers = λ bound k e.
            let (t, is, reduces) = answer_reduces (segment_at segs) (length segs) err widens bound k e in
            (t, is);
      }
    where
      gap_below_lem : (i : ℕ) → 0 < i → i ≤ length segs → last_gap (segment_at segs) i < i
      gap_below_lem zero lo le = absurd (omega arith)
      gap_below_lem (suc i) lo le = omega (arith, last_gap-le (segment_at segs) i)

-- of the errors of measured segments, by the kind
pub costs_of : (kind : ℕ) (segs : List (Span ℕ)) → Measured segs → Costs (error_of kind segs) (gap_below segs) (length segs) (runs segs)
costs_of kind segs ok =
    costs_by segs ok.few (error_of kind segs) (widens kind segs) (error_range kind segs ok)
    (reduction_error_le kind segs ok (gap_below segs))

-- ---- segments in arrays

pub count_is : (segments : Segments) → length (segments_in segments) ≡ segments.count
unfolding segments_in
count_is s = length-list_from 0 s.count (span_in s.groups s.firsts s.lasts s.values)

pub few_segments : (segments : Segments) → Measured (segments_in segments) → segments.count ≤ 255
few_segments segments ok = omega (arith, ok.few, count_is segments)

module _ (kind : ℕ) {segments : Segments} {task : Task} (c : Counted segments task) where
  pub costs : Costs (error_of kind (segments_in segments)) (gap_below (segments_in segments)) task.segments task.runs
  costs = rw (c.all, c.is_runs) (rw (count_is segments) at (costs_of kind (segments_in segments) c.measured))

  -- the error of all segments, without groups, is their own
  pub whole_is : (e : ℕ) → e ≡ cost_in kind segments 0 segments.count → e ≡ error_of kind (segments_in segments) 0 task.segments
  whole_is e is = is ∙ sym (error_plain segments kind 0 segments.count (omega arith)) ∙ ap (error_of kind (segments_in segments) 0) (sym c.all)

  -- the reduction by the task is that of the segments
  pub reduced : {bound : Bound} {r : std.Option Reduction} {before after : List ℕ}
      → Reduces (error_of kind (segments_in segments)) (gap_below (segments_in segments)) task.segments task.runs bound r before after
      → Reduced kind segments bound r before after
  reduced {bound} {r} {before} {after} h =
      subst (λ (n : ℕ). Reduces (error_of kind (segments_in segments)) (gap_below (segments_in segments)) n (runs (segments_in segments)) bound r before after) c.all
      (subst (λ (m : ℕ). Reduces (error_of kind (segments_in segments)) (gap_below (segments_in segments)) task.segments m bound r before after) c.is_runs h)

  module _ (gaps : List ℕ) (gaps-at : (i : ℕ) → i ≤ segments.count → get_or gaps i 0 ≡ gap_below (segments_in segments) i) where
    -- the blocks' costs without groups, and the gaps that are held, are the segments' own
    pub agree : Agree (cost_in kind segments) (gap_at gaps) (error_of kind (segments_in segments)) (gap_below (segments_in segments)) task.segments
    unfolding gap_at
    agree =
        let all = c.all in
        record {
          gaps = λ i le. gaps-at i (omega arith);
          errors = λ j i above lt le. sym (error_plain segments kind j i (omega arith));
        }

    pub costs_held : Costs (cost_in kind segments) (gap_at gaps) task.segments task.runs
    costs_held = costs_cong agree costs

    -- and so is the reduction by them
    pub reduced_held : {bound : Bound} {r : std.Option Reduction} {before after : List ℕ}
        → Reduces (cost_in kind segments) (gap_at gaps) task.segments task.runs bound r before after
        → Reduced kind segments bound r before after
    reduced_held {bound} h = reduced (reduces_cong agree task.runs bound h)

-- segments with their gaps are ready
pub ready : (segments : Bor Segments) (gaps : Bor (List ℕ)) (kind : Kind) (task : Task) → Counted segments.now task
    → ((i : ℕ) → i ≤ segments.now.count → get_or gaps.now i 0 ≡ gap_below (segments_in segments.now) i)
    → Ready (record { segments = segments; gaps = gaps; kind = kind; task = task })
ready segments gaps kind task c gaps-at =
    record {
      all = c.all;
      measurable = measurable segments.now c.measured;
      costs = costs_held (kind_number kind) c gaps.now gaps-at;
    }

-- ---- one row

-- the error of one row is that of the block of all segments
one_row_error : (err : ℕ → ℕ → ℕ) (low : ℕ → ℕ) (n t : ℕ) → 1 ≤ n → least err low 1 n ≡ some t → t ≡ err 0 n
unfolding least cell single
one_row_error err low zero t some_segments e = absurd (omega arith)
one_row_error err low (suc n) t some_segments e =
    cases (eqb (low (suc n)) 0) (λ whole. sym (some_inj refl (rw whole at e)))
    (λ cut. absurd (none≢some {a = t} refl (rw cut at e)))

-- the errors by row count where that of one row alone is worked out
abbrev pub one_error : ℕ → List ℕ
one_error e = set (replicate 65 no_error) 1 e

module _ {err : ℕ → ℕ → ℕ} {low : ℕ → ℕ} (task : Task) (costs : Costs err low task.segments task.runs) (one : task.runs ≡ 1) (e : ℕ) (is-error : e ≡ err 0 task.segments) where
  -- the errors of no row and of one
  one_column : (k : ℕ) → k ≤ 1 → Stands (get_or (one_error e) k 0) (by_rows err low task.segments k)
  one_column k le =
      let (t, is) = costs.possible 1 (omega arith) task.some_segments in
      let same = one_row_error err low task.segments t task.some_segments is in
      let small = costs.least_le 1 task.segments t (omega arith) is in
      after_set (λ x v. Stands v (by_rows err low task.segments x)) (replicate 65 no_error) 1 e (rw (length-replicate 65 no_error) (lit< tt))
      (rw is (record { is = some_in e (omega arith) ∙ ap some (is-error ∙ sym same); le = omega arith })) k
      (λ other.
      let first : k ≡ 0 = omega arith in
      rw (first, get_or-replicate 65 0 no_error 0 (lit< tt), no_rows err low task.segments task.some_segments)
      (record { is = none_in no_error (omega arith); le = omega arith }))

  pub one_comparable : Comparable task.bound (one_error e) task.runs 1
  one_comparable = comparable costs (one_error e) 1 (λ k le. (one_column k le).is) task.some_segments task.bound task.known (lit< tt)

  -- and no further row is tried
  pub one_filled : {last : ℕ} {more : Bool} → last ≡ last_row task.bound task.segments
      → more ≡ ltb 1 last && not (meets_in task.bound (one_error e) task.runs 1) → more ≡ false → FilledColumn err low task (one_error e) 1
  unfolding filled_rows
  one_filled {last} {more} is_last goes stops =
      record { costs = costs; rows = rw (← is_last) (sym stopped); errors = one_column }
    where
      met : meets_in task.bound (one_error e) task.runs 1 ≡ meets task.bound (by_rows err low task.segments) task.runs 1
      met = meets_column costs (one_error e) 1 (λ k le. (one_column k le).is) task.some_segments task.bound

      stopped : stop_row (meets task.bound (by_rows err low task.segments) task.runs) 1 (last - 1) ≡ 1
      stopped =
          cases (ltb 1 last)
          (λ lt.
          cases (meets task.bound (by_rows err low task.segments) task.runs 1)
          (λ is. stop_met (meets task.bound (by_rows err low task.segments) task.runs) 1 last (ltb-true 1 last lt) is)
          (λ unmet. absurd (true≢false (sym (rw (lt, met, unmet) at goes) ∙ stops))))
          (λ far. stop_end (meets task.bound (by_rows err low task.segments) task.runs) 1 last (ltb-false 1 last far))

-- ---- no segments, and no row for some run

module _ (err : ℕ → ℕ → ℕ) (low : ℕ → ℕ) where
  none_chosen : (bound : Bound) → chosen bound (by_rows err low 0) 0 0 ≡ some 0
  unfolding chosen fewest first_that least cell within most_rows
  none_chosen (Rows c) =
      let small : min c 0 ≡ 0 = omega arith in
      rw (le-leb 0 c zero-le, small)
  none_chosen (Share p) = rw (le-leb 0 (p * 0) zero-le)

  none_tried : (bound : Bound) → rows_tried bound 0 0 ≡ 0
  unfolding rows_tried
  none_tried (Rows c) = omega arith
  none_tried (Share p) = refl

  pub no_segments_lem : (n m : ℕ) (bound : Bound) (cuts : List ℕ) → n ≡ 0 → m ≡ 0
      → (Some no_segments ≡ reduction_for err low n m bound) × (cuts ≡ cuts_for err low n m bound cuts)
  unfolding reduction_for cuts_for cuts_of ascending least cell weighed sum_from
  no_segments_lem n m bound cuts none_here no_runs =
      rw (none_here, no_runs)
      (rw (none_chosen bound, reduction_for, none_tried bound), rw (none_chosen bound, cuts_for))

  pub too_few_lem : (n m : ℕ) (bound : Bound) (cuts : List ℕ) → covers_runs bound m ≡ false
      → (None ≡ reduction_for err low n m bound) × (cuts ≡ cuts_for err low n m bound cuts)
  unfolding reduction_for cuts_for
  too_few_lem n m bound cuts few =
      let none_here = few_rows (by_rows err low n) n m bound few in
      (rw (none_here, reduction_for), rw (none_here, cuts_for))

-- a reduction by equation has its cuts weighed within the bound
pub reduces : {err : ℕ → ℕ → ℕ} {low : ℕ → ℕ} {n m : ℕ} {bound : Bound} {r : std.Option Reduction} {before after : List ℕ}
    → (r ≡ reduction_for err low n m bound) × (after ≡ cuts_for err low n m bound before) → Reduces err low n m bound r before after
reduces {err} {low} {n} {m} {bound} {r} (answer, cuts) =
    record { answer = answer; cuts = cuts; weighed = reduction_weighed err low n m bound r answer }

pub no_runs : (segments : Segments) → segments.count ≡ 0 → runs (segments_in segments) ≡ 0
unfolding runs runs_to list_from segments_in
no_runs segments none_here = rw none_here
