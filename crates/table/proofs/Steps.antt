-- What the loops that fill the table keep, and their steps: a cell's scan, the next cell, the next row, the end. `err` is the error of
-- each block and `gap` the last gap below each number of segments, of n segments in m runs. Assumes nothing.
use Prim.Native.Nat.{ℕ, ◌+◌, ◌-◌, ◌*◌, ◌%◌, ◌≤◌, ◌<◌, max}
use mathlib.Core.Bool.{Bool, true, false, ◌&&◌, not}
use mathlib.Core.List.{List}
use mathlib.Core.Option.{Option}
use mathlib.Core.Path.{◌≡◌, sym, ap, ◌∙◌}
use native.Mathlib.Decide.{dec_le}
use native.Mathlib.Omega.{arith}
use mir.Syntax.{w8, w64}
use mir.Val.{Fits}
use lib.Dec.{ltb}
use lib.Seq.{get_or-set_same, get_or-set_other}
use lib.ListN.{length, get_or, set, replicate, length-set, length-replicate, get_or-replicate}
use borrow.Author.Tests.{ltb-true, ltb-false, lt-ltb, le-ltb, not-true}
use Rattle.model.specs.Split.{untried, plus, exceeds, weigh, scan, cell, least, table_place, most_rows}
use Rattle.model.specs.Split as split
use Rattle.model.specs.Room.{most_error}
use Rattle.model.specs.declared.Bound.{Bound}
use Rattle.model.specs.declared.Bound.TheVariants.{Rows, Share}
use Rattle.theory.proofs.Tests.{cases, and-true, true≢false}
use Rattle.theory.proofs.Lists.{after_set}
use Rattle.triangle.specs.Costs.{Costs}
use Rattle.triangle.specs.Places.{row_start}
use Rattle.triangle.proofs.Starts.{start_le, in_room}
use Rattle.triangle.proofs.Agreeing.{weigh_cut}
use Rattle.choice.specs.Errors.{no_error, error_in, Stands}
use Rattle.choice.specs.declared.Task.{Task}
use Rattle.choice.specs.Bounds.{Known, last_row, meets, meets_in, stop_row, filled_rows, Comparable}
use Rattle.choice.proofs.Errors.{none_in, exceeds_in}
use Rattle.choice.proofs.Meeting.{by_rows, comparable, meets_column}
use Rattle.choice.proofs.Choosing.{no_rows, last_pos}
use Rattle.cuts.specs.Held.{Fills}
use Rattle.table.specs.declared.Best.{Best}
use Rattle.table.specs.Held.{best_in, FirstRow}
use Rattle.table.proofs.Scan.{plus_in, weigh_tried, scan_left, scan_end, scan_on, cell_scan}
use Rattle.table.proofs.Filling.{place_first, place_out, place_other, place_short, place_here, weighed_from, weighed_start, weighed_row, weighed_cell, weighed_end, weighed_small, stop_on, stop_met, stop_end}

-- ---- one scan

-- what is left of the scan of cell (k,i), from candidate at − 1 down to `low`, is the cell; `errors` holds row k − 1 up to i
pub record Scanning (err : ℕ → ℕ → ℕ) (gap : ℕ → ℕ) (n m k : ℕ) (errors : List ℕ) (i low at : ℕ) (best : Best) : Type 0 where
  pub costs : Costs err gap n m
  pub inside : i ≤ n
  pub row : k - 1 ≤ low
  pub above : gap i ≤ low
  pub old : (x : ℕ) → k - 1 ≤ x → x < i → Stands (get_or errors x 0) (least err gap (k - 1) x)
  pub from : low < at
  pub to : at ≤ i
  pub total : best.total ≤ no_error
  pub cut : best.cut < i
  pub tried : best.tried + at ≤ i
  pub left : scan (least err gap (k - 1)) (λ j. err j i) low (at - low) (best_in best)
      ≡ cell err gap k i

-- the cell (k,i)
pub record Found (err : ℕ → ℕ → ℕ) (gap : ℕ → ℕ) (k i : ℕ) (best : Best) : Type 0 where
  pub is : best_in best ≡ cell err gap k i
  pub total : best.total ≤ no_error
  pub cut : best.cut < i

module _ {err : ℕ → ℕ → ℕ} {gap : ℕ → ℕ} {n m k : ℕ} {errors : List ℕ} {i low at : ℕ} {best : Best} (inv : Scanning err gap n m k errors i low at best) where
  -- the place of the error of the block that begins with the candidate
  pub candidate_place : {size start : ℕ} → row_start (n + 1) ≤ size → start ≡ row_start i
      → (start + (at - 1) < size) × Fits w64 (start + (at - 1)) × Fits w64 ((start + (at - 1)) * 8)
  candidate_place room is =
      let few = inv.costs.few in
      let inside = inv.inside in
      let from = inv.from in
      let to = inv.to in
      let here = in_room n i (at - 1) inside (omega arith) in
      let small = start_le i (omega arith) in
      (omega arith, omega arith, omega arith)

-- that candidate is tried
module _ {err : ℕ → ℕ → ℕ} {gap : ℕ → ℕ} {n m k : ℕ} {errors : List ℕ} {i low at : ℕ} {best : Best} (inv : Scanning err gap n m k errors i low at best) {error : ℕ} (is-error : error ≡ err (at - 1) i) where
  small_error : error ≤ most_error
  small_error =
      let from = inv.from in
      let to = inv.to in
      let above = inv.above in
      rw is-error (inv.costs.block_le (at - 1) i (omega arith) (omega arith) inv.inside)

  before : Stands (get_or errors (at - 1) 0) (least err gap (k - 1) (at - 1))
  before = let from = inv.from in let to = inv.to in let row = inv.row in inv.old (at - 1) (omega arith) (omega arith)

  pub total_fits : Fits w64 (get_or errors (at - 1) 0 + error)
  total_fits =
      let le = before.le in
      let small = small_error in
      omega arith

  module _ (next : Best) (is-next : best_in next ≡ weigh (best_in best) (error_in (get_or errors (at - 1) 0 + error)) (at - 1)) (small : next.total ≤ no_error) where
    tried_next : best_in next
        ≡ weigh (best_in best) (plus (least err gap (k - 1) (at - 1)) (err (at - 1) i)) (at - 1)
    tried_next =
        let to = inv.to in
        let inside = inv.inside in
        is-next
        ∙ ap (λ (e : Option ℕ). weigh (best_in best) e (at - 1))
        (plus_in (get_or errors (at - 1) 0) error _ before
        (λ s e. inv.costs.least_le (k - 1) (at - 1) s (omega arith) e) small_error)
        ∙ rw is-error

    exceeding : exceeds (err (at - 1) i) (error_in next.total) ≡ ltb next.total error
    exceeding =
        rw (← is-error) (exceeds_in error next.total (omega (arith, small_error)))

    low_cut : next.cut < i
    unfolding best_in
    low_cut =
        let from = inv.from in
        let to = inv.to in
        rw (ap (λ (b : split.Best). b.cut) tried_next) (weigh_cut (best_in best) _ (at - 1) i inv.cut (omega arith))

    pub scan_early : next.total < error → Found err gap k i next
    unfolding best_in
    scan_early lt =
        record {
          is =
              sym (scan_left _ (λ j. err j i) low at (best_in best) (best_in next) inv.from tried_next (exceeding ∙ lt-ltb _ _ lt))
              ∙ inv.left;
          total = small;
          cut = low_cut;
        }

    pub scan_last : at - 1 ≡ low → Found err gap k i next
    scan_last e =
        record {
          is = sym (scan_end _ (λ j. err j i) low at (best_in best) (best_in next) inv.from tried_next e) ∙ inv.left;
          total = small;
          cut = low_cut;
        }

    pub scan_next : error ≤ next.total → (at - 1 ≡ low → ⊥) → Scanning err gap n m k errors i low (at - 1) next
    unfolding best_in
    scan_next le other =
        let one = ap (λ (b : split.Best). b.tried) tried_next ∙ weigh_tried (best_in best) _ _ in
        let from = inv.from in
        let to = inv.to in
        let few = inv.tried in
        record {
          costs = inv.costs;
          inside = inv.inside;
          row = inv.row;
          above = inv.above;
          old = inv.old;
          from = omega arith;
          to = omega arith;
          total = small;
          cut = low_cut;
          tried = omega arith;
          left =
              sym (scan_on _ (λ j. err j i) low at (best_in best) (best_in next) inv.from tried_next (exceeding ∙ le-ltb _ _ le))
              ∙ inv.left;
        }

-- ---- the cells of a row

-- row k is filled from cell i on, and the errors before i are still those of row k − 1
pub record Cells (err : ℕ → ℕ → ℕ) (gap : ℕ → ℕ) (n m k : ℕ) (errors table : List ℕ) (weighed i : ℕ) : Type 0 where
  pub costs : Costs err gap n m
  pub few : n ≤ 255
  pub second : 2 ≤ k
  pub rows : k ≤ 64
  pub from : k ≤ i
  pub to : i ≤ n + 1
  pub size_errors : length errors ≡ 256
  pub size_table : length table ≡ 16384
  pub old : (x : ℕ) → k - 1 ≤ x → x < i → Stands (get_or errors x 0) (least err gap (k - 1) x)
  pub new : (x : ℕ) → i ≤ x → x ≤ n → Stands (get_or errors x 0) (least err gap k x)
  pub places_old : (x : ℕ) → x < 16384 → x % 256 < i → get_or table x 0 ≡ table_place err gap (k - 1) n x
  pub places_new : (x : ℕ) → x < 16384 → i ≤ x % 256 → get_or table x 0 ≡ table_place err gap k n x
  pub count : weighed ≡ weighed_from err gap n k i

module _ {err : ℕ → ℕ → ℕ} {gap : ℕ → ℕ} {n m k : ℕ} {errors table : List ℕ} {weighed i : ℕ} (inv : Cells err gap n m k errors table weighed i) (more : k < i) where
  -- the scan of the cell before i begins
  pub scan_start : (g low : ℕ) → g ≡ gap (i - 1) → low ≡ max (k - 1) g
      → Scanning err gap n m k errors (i - 1) low (i - 1) (record { total = no_error; cut = 0; tried = 0 })
  unfolding best_in untried
  scan_start g low is-gap is-low =
      let second = inv.second in
      let to = inv.to in
      let gap-lt = inv.costs.gap_below (i - 1) (omega arith) (omega arith) in
      record {
        costs = inv.costs;
        inside = omega arith;
        row = omega arith;
        above = omega arith;
        old = λ x ge lt. inv.old x ge (omega arith);
        from = omega arith;
        to = omega arith;
        total = omega arith;
        cut = omega arith;
        tried = omega arith;
        left =
            rw (is-low, is-gap, none_in no_error (omega arith))
            (cell_scan err gap k (i - 1) inv.second);
      }

  -- the cell is found
  module _ {found : Best} (is : Found err gap k (i - 1) found) where
    is_cut : found.cut ≡ (cell err gap k (i - 1)).cut
    unfolding best_in
    is_cut = ap (λ (b : split.Best). b.cut) is.is

    is_tried : found.tried ≡ (cell err gap k (i - 1)).tried
    unfolding best_in
    is_tried = ap (λ (b : split.Best). b.tried) is.is

    is_total : Stands found.total (least err gap k (i - 1))
    unfolding best_in least
    is_total = record { is = ap (λ (b : split.Best). b.total) is.is; le = is.total }

    is_count : weighed + found.tried ≡ weighed_from err gap n k (i - 1)
    is_count =
        ap (λ (w : ℕ). w + found.tried) inv.count
        ∙ ap (λ (w : ℕ). weighed_from err gap n k i + w) is_tried
        ∙ weighed_cell err gap n k i (omega arith) inv.to

    pub cut_fits : Fits w8 found.cut
    cut_fits =
        let low = is.cut in
        let to = inv.to in
        let few = inv.few in
        omega arith

    pub count_fits : Fits w64 (weighed + found.tried)
    count_fits =
        let to = inv.to in
        let small =
        weighed_small err gap n k (i - 1) inv.second inv.rows inv.few (omega arith) (omega arith) in
        omega (arith, is_count)

    pub cells_next : Cells err gap n m k (set errors (i - 1) found.total) (set table ((k - 1) * 256 + (i - 1)) found.cut) (weighed + found.tried) (i - 1)
    cells_next =
        let to = inv.to in
        let few = inv.few in
        let second = inv.second in
        let rows = inv.rows in
        let size = inv.size_errors in
        let size_table = inv.size_table in
        let place : ((k - 1) * 256 + (i - 1)) % 256 ≡ i - 1 = omega arith in
        record {
          costs = inv.costs;
          few = few;
          second = second;
          rows = rows;
          from = omega arith;
          to = omega arith;
          size_errors = simp length-set size;
          size_table = simp length-set size_table;
          old = λ x ge lt. rw (get_or-set_other errors (i - 1) x found.total 0 (λ e. omega arith)) (inv.old x ge (omega arith));
          new = λ x ge le.
              after_set (λ y v. Stands v (least err gap k y)) errors (i - 1) found.total (omega arith) is_total x
              (λ other. inv.new x (omega arith) le);
          places_old = λ x lt short.
              get_or-set_other table ((k - 1) * 256 + (i - 1)) x found.cut 0 (λ e. omega arith) ∙ inv.places_old x lt (omega arith);
          places_new = λ x lt long.
              after_set (λ y v. v ≡ table_place err gap k n y) table ((k - 1) * 256 + (i - 1)) found.cut (omega arith)
              (is_cut ∙ place_here err gap n k (i - 1) (omega arith) (omega arith) few) x
              (λ other.
              elim (dec_le i (x % 256)) [
                | yes le ↦ inv.places_new x lt le
                | no far ↦
                    inv.places_old x lt (omega arith)
                    ∙ place_other err gap n k x (omega arith) (λ e. other (omega arith))
              ]);
          count = is_count;
        }

-- ---- the rows

-- the rows to k are filled, of those to `last` that the bound may ask for
pub record Filled (err : ℕ → ℕ → ℕ) (gap : ℕ → ℕ) (task : Task) (last : ℕ) (errors column table : List ℕ) (weighed k : ℕ) : Type 0 where
  pub costs : Costs err gap task.segments task.runs
  pub rows : last ≤ 64
  pub inside : last ≤ task.segments
  pub from : 1 ≤ k
  pub to : k ≤ last
  pub size_errors : length errors ≡ 256
  pub size_column : length column ≡ 65
  pub size_table : length table ≡ 16384
  pub errors_at : (x : ℕ) → k ≤ x → x ≤ task.segments → Stands (get_or errors x 0) (least err gap k x)
  pub column_at : (x : ℕ) → x ≤ k → Stands (get_or column x 0) (by_rows err gap task.segments x)
  pub places : (x : ℕ) → x < 16384 → get_or table x 0 ≡ table_place err gap k task.segments x
  pub count : weighed ≡ split.weighed err gap k task.segments
  pub left : stop_row (meets task.bound (by_rows err gap task.segments) task.runs) k (last - k)
      ≡ filled_rows task.bound (by_rows err gap task.segments) task.segments task.runs

module _ {err : ℕ → ℕ → ℕ} {gap : ℕ → ℕ} (task : Task) (costs : Costs err gap task.segments task.runs) {last : ℕ} (is_last : last ≡ last_row task.bound task.segments) where
  last_le : (b : Bound) → Known b → (last_row b task.segments ≤ 64) × (last_row b task.segments ≤ task.segments)
  unfolding last_row Known most_rows
  last_le (Rows c) h = (omega arith, omega arith)
  last_le (Share p) h = (omega arith, omega arith)

  -- in no row the error is 'none', since there is a segment
  column_first : (column : List ℕ) (v : ℕ) → length column ≡ 65 → Stands v (by_rows err gap task.segments 1) → (x : ℕ) → x ≤ 1
      → Stands (get_or (set (set column 0 no_error) 1 v) x 0) (by_rows err gap task.segments x)
  column_first column v size is x le =
      after_set (λ y v. Stands v (by_rows err gap task.segments y)) (set column 0 no_error) 1 v (simp length-set (omega arith)) is x
      (λ other.
      let first : x ≡ 0 = omega arith in
      rw (first, get_or-set_same column 0 no_error 0 (omega arith), no_rows err gap task.segments task.some_segments)
      (record { is = none_in no_error (omega arith); le = omega arith }))

  pub filled_start : {errors table : List ℕ} (column : List ℕ) → FirstRow err gap task.segments errors → length column ≡ 65 → table ≡ replicate 16384 0
      → Filled err gap task last errors (set (set column 0 no_error) 1 (get_or errors task.segments 0)) table 0 1
  unfolding filled_rows
  filled_start {errors} column first size is-table =
      let (rows, inside) = last_le task.bound task.known in
      let tries = last_pos costs task.some_segments task.bound task.covers in
      record {
        costs = costs;
        rows = omega arith;
        inside = omega arith;
        from = omega arith;
        to = omega arith;
        size_errors = first.size;
        size_column = simp length-set size;
        size_table = ap length is-table ∙ length-replicate {A = ℕ} 16384 0;
        errors_at = λ x lo hi. first.errors_at x hi;
        column_at = column_first column (get_or errors task.segments 0) size (first.errors_at task.segments (omega arith));
        places = λ x lt. rw is-table (get_or-replicate 16384 x 0 0 lt ∙ place_first err gap task.segments x);
        count = weighed_start err gap task.segments;
        left = rw is_last;
      }

module _ {err : ℕ → ℕ → ℕ} {gap : ℕ → ℕ} {task : Task} {last : ℕ} {errors column table : List ℕ} {weighed k : ℕ} (inv : Filled err gap task last errors column table weighed k) where
  inside : k ≤ task.segments
  inside = let to = inv.to in let all = inv.inside in omega arith

  -- the errors of all segments can be compared
  pub compares : Comparable task.bound column task.runs k
  compares =
      let to = inv.to in
      let rows = inv.rows in
      comparable inv.costs column k (λ x le. (inv.column_at x le).is) inside task.bound task.known (omega arith)

  met : meets_in task.bound column task.runs k ≡ meets task.bound (by_rows err gap task.segments) task.runs k
  met = meets_column inv.costs column k (λ x le. (inv.column_at x le).is) inside task.bound

  module _ {more : Bool} (goes : more ≡ ltb k last && not (meets_in task.bound column task.runs k)) where
    on : more ≡ true → (k < last) × (meets task.bound (by_rows err gap task.segments) task.runs k ≡ false)
    on e =
        let (lt, unmet) = and-true (ltb k last) (not (meets_in task.bound column task.runs k)) (sym goes ∙ e) in
        (ltb-true k last lt, sym met ∙ not-true _ unmet)

    -- the next row begins
    pub cells_start : more ≡ true → Cells err gap task.segments task.runs (k + 1) errors table weighed (task.segments + 1)
    cells_start e =
        let lt = (on e).0 in
        let from = inv.from in
        let rows = inv.rows in
        let all = inv.inside in
        let row : k + 1 - 1 ≡ k = omega arith in
        record {
          costs = inv.costs;
          few = inv.costs.few;
          second = omega arith;
          rows = omega arith;
          from = omega arith;
          to = omega arith;
          size_errors = inv.size_errors;
          size_table = inv.size_table;
          old = rw row (λ x ge lt'. inv.errors_at x ge (omega arith));
          new = λ x ge le. absurd (omega arith);
          places_old = rw row (λ x lt' short. inv.places x lt');
          places_new = λ x lt' far. inv.places x lt' ∙ place_out err gap task.segments k (k + 1) x (omega arith);
          count = inv.count ∙ weighed_row err gap task.segments k;
        }

    -- and ends
    pub filled_next : {errors' table' : List ℕ} {weighed' i : ℕ} → Cells err gap task.segments task.runs (k + 1) errors' table' weighed' i → i ≤ k + 1
        → more ≡ true → Filled err gap task last errors' (set column (k + 1) (get_or errors' task.segments 0)) table' weighed' (k + 1)
    filled_next {errors'} {table'} {weighed'} {i} cells end e =
        let (lt, unmet) = on e in
        let rows = inv.rows in
        let all = inv.inside in
        let size = inv.size_column in
        let from = cells.from in
        record {
          costs = inv.costs;
          rows = rows;
          inside = all;
          from = omega arith;
          to = omega arith;
          size_errors = cells.size_errors;
          size_column = simp length-set size;
          size_table = cells.size_table;
          errors_at = λ x lo hi. cells.new x (omega arith) hi;
          column_at = λ x le.
              after_set (λ y v. Stands v (by_rows err gap task.segments y)) column (k + 1) (get_or errors' task.segments 0) (omega arith)
              (cells.new task.segments (omega arith) (omega arith)) x (λ other. inv.column_at x (omega arith));
          places = λ x small.
              elim (dec_le (k + 1) (x % 256)) [
                | yes long ↦ cells.places_new x small (omega arith)
                | no short ↦
                    cells.places_old x small (omega arith)
                    ∙ place_short err gap task.segments (k + 1) x (omega arith) (omega arith)
              ];
          count =
              (let first_Cell : i ≡ k + 1 = omega arith in
              cells.count ∙ rw first_Cell (weighed_end err gap task.segments (k + 1) (omega arith)));
          left = sym (stop_on (meets task.bound (by_rows err gap task.segments) task.runs) k last lt unmet) ∙ inv.left;
        }

    stopped : more ≡ false → k ≡ filled_rows task.bound (by_rows err gap task.segments) task.segments task.runs
    stopped e =
        cases (ltb k last)
        (λ lt.
        cases (meets task.bound (by_rows err gap task.segments) task.runs k)
        (λ is. sym (stop_met (meets task.bound (by_rows err gap task.segments) task.runs) k last (ltb-true k last lt) is) ∙ inv.left)
        (λ unmet. absurd (true≢false (sym (rw (lt, met, unmet) at goes) ∙ e))))
        (λ far. sym (stop_end (meets task.bound (by_rows err gap task.segments) task.runs) k last (ltb-false k last far)) ∙ inv.left)

    pub fills : more ≡ false → Fills err gap task table column k weighed
    fills e =
        record {
          filled =
              record {
                costs = inv.costs;
                rows = stopped e;
                errors = inv.column_at;
              };
          places = inv.places;
          weighed = inv.count;
        }
