-- `first_row` meets its contract. Assumes nothing.
use Prim.Native.Nat.{◌≤◌, ◌<◌}
use mathlib.Core.Path.{◌≡◌, sym, ◌∙◌}
use native.Mathlib.Omega.{arith}
use native.Mathlib.Nat.{add-zero}
use lib.Dec.{lit<}
use lib.ListN.{length, length-set, get_or, get_or-replicate}
use Rattle.model.specs.Split.{least}
use Rattle.theory.proofs.Lists.{after_set}
use Rattle.triangle.specs.Places.{error_at, gap_at}
use Rattle.triangle.proofs.Starts.{start_le, in_room}
use Rattle.choice.specs.Errors.{no_error, Stands}
use Rattle.table.proofs.Scan.{first_none, first_error}
use Rattle.table.proofs.first_row.Goals as goal
use Rattle.table.proofs.first_row.Goals.{After-row_start}

pub loop-i-init : goal.loop-i-init
loop-i-init c = record {
  few = c.requires.costs.1.few;
  to = omega arith;
  size = c.told-row;
  filled = λ x lt.
      let first : x ≡ 0 = omega arith in
      rw (first, c.requires.blank, get_or-replicate 256 0 no_error 0 (lit< tt)) (first_none _ _);
}

-- the place of the error of the block of the first i segments, and that error
here : (c : After-row_start)
    → (c.row_start.result < length c.args.errors.now) × (c.row_start.result ≤ 65025)
here c =
    let few = c.loop-i.invariant.few in
    let inside = in_room c.args.n c.loop-i.i 0 (omega arith) (omega arith) in
    let small = start_le c.loop-i.i (omega arith) in
    (omega (arith, c.row_start.ensures, c.requires.room), omega (arith, c.row_start.ensures))

error : (c : After-row_start) →
    get_or c.args.errors.now c.row_start.result 0 ≡ error_at c.args.errors.now 0 c.loop-i.i
unfolding error_at
error c = rw (c.row_start.ensures, add-zero)

pub offset_bounds-errors-row_start : goal.offset_bounds-errors-row_start
offset_bounds-errors-row_start c = omega (arith, here c)

pub bounds-errors-row_start : goal.bounds-errors-row_start
bounds-errors-row_start c = (here (goal.at.bounds-errors-row_start c).After-row_start).0

pub single-requires : goal.single-requires
unfolding gap_at
single-requires c = λ none_below.
    let gap : gap_at c.args.gaps.now c.loop-i.i ≡ 0 = sym c.from.ensures ∙ none_below in
    let small = c.requires.costs.1.block_le 0 c.loop-i.i (omega arith) (omega arith) (omega arith) in
    omega (arith, error (goal.at.single-requires c).After-row_start)

pub loop-i-preserved : goal.loop-i-preserved
unfolding gap_at
loop-i-preserved c =
    let a = c.args in
    let inv = c.loop-i.invariant in
    record {
      few = inv.few;
      to = omega arith;
      size = simp length-set inv.size;
      filled = λ x lt.
          after_set (λ y v. Stands v (least (error_at a.errors.now) (gap_at a.gaps.now) 1 y)) c.loop-i.row c.loop-i.i c.single.result (omega arith)
          (first_error (error_at a.errors.now) (gap_at a.gaps.now) c.loop-i.i _ _ _ (omega arith) c.from.ensures (error (goal.at.loop-i-preserved c).After-row_start) c.single.ensures) x
          (λ other. inv.filled x (omega arith));
    }

pub returns : goal.returns
returns c = record { size = c.loop-i.invariant.size; errors_at = λ i le. c.loop-i.invariant.filled i (omega arith) }
