-- `between` meets its contract. The invariant: the rows of the first `next` blocks are stored. Assumes nothing.
use Prim.Native.Nat.{◌+◌}
use mathlib.Core.Path.{◌≡◌}
use native.Mathlib.Omega.{arith}
use Rattle.model.specs.Calls.{kind_number}
use Rattle.model.specs.Common.{list_from}
use Rattle.measures.proofs.Growing.{measurable_prefix}
use Rattle.model.specs.Arrays.{segment_in}
use Rattle.rows.specs.Between.{end_before, rows_between}
use Rattle.rows.proofs.Cut.{row_stored}
use Rattle.rows.proofs.between.Goals as goal
use Rattle.rows.proofs.between.Goals.{After-end-to}

-- a block ends where the next one begins
is_end : (c : After-end-to)
    → c.end-to.result ≡ end_before c.args.cuts.now c.args.count c.args.segments.now.count (c.loop-next.next + 1)
is_end c = c.end-to.ensures

pub loop-next-init : goal.loop-next-init
unfolding list_from
loop-next-init c = c.no_rows-made.ensures

pub row-requires : goal.row-requires
row-requires c =
    let (begins, ends) = c.requires.ordered c.loop-next.next (omega arith) in
    let from = c.from-from.ensures in
    let to = is_end c in
    (omega arith, measurable_prefix c.requires.measurable c.end-to.result (omega arith))

pub loop-next-preserved : goal.loop-next-preserved
loop-next-preserved c =
    row_stored (kind_number c.args.kind) (segment_in c.args.segments.now) c.args.cuts.now c.args.count c.args.segments.now.count c.loop-next.next c.from-from.result c.end-to.result _ _ (omega arith)
    c.loop-next.invariant c.from-from.ensures (is_end (goal.at.loop-next-preserved c).After-end-to) c.row.ensures

pub returns : goal.returns
unfolding rows_between
returns c =
    let all : c.loop-next.next ≡ c.args.count = omega arith in
    rw all at c.loop-next.invariant
