-- `fill` meets its contract. Between rows the table is filled to row `k`; between cells, from cell `i` on; between candidates, what is
-- left of the scan is the cell. Assumes nothing.
use Prim.Native.Nat.{ℕ, ◌+◌, ◌-◌}
use mathlib.Core.Path.{◌≡◌, refl}
use lib.ListN.{get_or}
use Rattle.triangle.specs.Places.{error_at, gap_at}
use Rattle.cuts.proofs.Answering.{reduction_weighed}
use Rattle.table.proofs.Steps.{Found, candidate_place, total_fits, scan_early, scan_last, scan_next, scan_start, cut_fits, count_fits, cells_next, filled_start, compares, cells_start, filled_next, fills}
use Rattle.table.proofs.fill.Goals as goal
use Rattle.table.proofs.fill.Goals.{then-next-error, else-next-error+then-at-low, At-scan, Joined-next-error, Start}

-- the errors of the blocks, the last gaps, and what is asked of them
abbrev err : Start → ℕ → ℕ → ℕ
err s = error_at s.args.errors.now

abbrev gap : Start → ℕ → ℕ
gap s = gap_at s.args.gaps.now

-- the error of the block that begins with the candidate
error_at_lem : (c : At-scan)
    → get_or c.args.errors.now (c.row_start-start.result + (c.scan.at - 1)) 0
    ≡ err (goal.at.At-scan c).Start (c.scan.at - 1) (c.loop-i.i - 1)
unfolding error_at
error_at_lem c = rw c.scan.invariant.1

-- the cell, by either way out of the scan
found : (c : Joined-next-error)
    → Found (err (goal.at.Joined-next-error c).Start) (gap (goal.at.Joined-next-error c).Start) (c.loop-row.k + 1) (c.loop-i.i - 1) c.if-next-error.found
found c =
    let inv = c.scan.invariant.0 in
    let error = error_at_lem (goal.at.Joined-next-error c).At-scan in
    let next = c.weigh-next.ensures in
    elim c.if-next-error.branch [
      | then-next-error w ↦ rw w.found-is (scan_early inv error _ next.weighed next.at_most_none w.if-next-error.true)
      | else-next-error+then-at-low w ↦
          rw w.found-is (scan_last inv error _ next.weighed next.at_most_none w.if-at-low.true)
    ]

pub first_row-requires : goal.first_row-requires
first_row-requires c = record {
  costs = (_, c.requires.costs);
  room = c.requires.room;
  blank = refl;
}

pub loop-row-init : goal.loop-row-init
loop-row-init c =
    filled_start c.args.task c.requires.costs c.last_row-last.ensures c.args.column.now c.first_row.ensures c.told-column refl

pub goes_on-requires : goal.goes_on-requires
goes_on-requires c = compares c.loop-row.invariant

pub loop-i-init : goal.loop-i-init
loop-i-init c = cells_start c.loop-row.invariant c.goes_on.ensures c.loop-row-test.true

pub scan-init : goal.scan-init
unfolding gap_at
scan-init c = (
  scan_start c.loop-i.invariant c.loop-i-test.true _ _ c.from.ensures c.max-low.ensures,
  c.row_start-start.ensures,
)

pub overflow_add-error : goal.overflow_add-error
overflow_add-error c = (candidate_place c.scan.invariant.0 c.requires.room c.scan.invariant.1).1

pub offset_bounds-errors-start : goal.offset_bounds-errors-start
offset_bounds-errors-start c = (candidate_place c.scan.invariant.0 c.requires.room c.scan.invariant.1).2

pub bounds-errors-start : goal.bounds-errors-start
bounds-errors-start c = (candidate_place c.scan.invariant.0 c.requires.room c.scan.invariant.1).0

pub overflow_add-total : goal.overflow_add-total
overflow_add-total c = total_fits c.scan.invariant.0 (error_at_lem (goal.at.overflow_add-total c).At-scan)

pub scan-preserved : goal.scan-preserved
scan-preserved c =
    let next = c.weigh-next.ensures in (
      scan_next c.scan.invariant.0 (error_at_lem (goal.at.scan-preserved c).At-scan) _ next.weighed next.at_most_none c.if-next-error.false c.if-at-low.false,
      c.scan.invariant.1,
    )

pub overflow_cast-table : goal.overflow_cast-table
overflow_cast-table c = cut_fits c.loop-i.invariant c.loop-i-test.true (found (goal.at.overflow_cast-table c).Joined-next-error)

pub overflow_add-weighed : goal.overflow_add-weighed
overflow_add-weighed c = count_fits c.loop-i.invariant c.loop-i-test.true (found (goal.at.overflow_add-weighed c).Joined-next-error)

pub loop-i-preserved : goal.loop-i-preserved
loop-i-preserved c = cells_next c.loop-i.invariant c.loop-i-test.true (found (goal.at.loop-i-preserved c).Joined-next-error)

pub loop-row-preserved : goal.loop-row-preserved
loop-row-preserved c = filled_next c.loop-row.invariant c.goes_on.ensures c.loop-i.invariant c.loop-i-test.false c.loop-row-test.true

pub answer_in-requires : goal.answer_in-requires
answer_in-requires c = (_, _, fills c.loop-row.invariant c.goes_on.ensures c.loop-row-test.false)

pub returns : goal.returns
returns c =
    let filled = fills c.loop-row.invariant c.goes_on.ensures c.loop-row-test.false in
    let answer = c.answer_in.ensures (err (goal.at.returns c).Start) (gap (goal.at.returns c).Start) filled in record {
      answer = answer.0;
      cuts = answer.1;
      column = λ k le. filled.filled.errors k (rw filled.filled.rows le);
      weighed_bound = reduction_weighed (err (goal.at.returns c).Start) (gap (goal.at.returns c).Start) c.args.task.segments c.args.task.runs c.args.task.bound _ answer.0;
    }
