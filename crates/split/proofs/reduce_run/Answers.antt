-- `reduce_run` meets its contract. Assumes nothing.
use mathlib.Core.Path.{◌≡◌}
use Rattle.model.specs.Arrays.{segments_in}
use Rattle.model.specs.Calls.{kind_number}
use Rattle.model.specs.Split.{error_of, gap_below}
use Rattle.measures.proofs.Growing.{measurable}
use Rattle.choice.specs.Columns.{FilledColumn}
use Rattle.split.proofs.Measuring.{costs, whole_is, one_error, one_comparable, one_filled, reduced, reduces}
use Rattle.split.proofs.reduce_run.Goals as goal
use Rattle.split.proofs.reduce_run.Goals.{After-whole, Else-goes_on}

pub whole-requires : goal.whole-requires
whole-requires c = measurable c.args.segments.now c.requires.0.measured

-- the error of all segments in one row
error_is : (c : After-whole) → c.whole.result ≡ error_of (kind_number c.args.kind) (segments_in c.args.segments.now) 0 c.args.task.segments
error_is c = whole_is (kind_number c.args.kind) c.requires.0 c.whole.result c.whole.ensures

pub goes_on-requires : goal.goes_on-requires
goes_on-requires c =
    one_comparable c.args.task (costs (kind_number c.args.kind) c.requires.0) c.requires.1 c.whole.result (error_is (goal.at.goes_on-requires c).After-whole)

-- no further row is tried
filled : (c : Else-goes_on)
    → FilledColumn (error_of (kind_number c.args.kind) (segments_in c.args.segments.now)) (gap_below (segments_in c.args.segments.now)) c.args.task (one_error c.whole.result) 1
filled c =
    one_filled c.args.task (costs (kind_number c.args.kind) c.requires.0) c.requires.1 c.whole.result (error_is (goal.at.Else-goes_on c).After-whole) c.last_row.ensures
    c.goes_on.ensures c.if-goes_on.false

pub one_row-requires : goal.one_row-requires
one_row-requires c = (_, _, filled (goal.at.one_row-requires c).Else-goes_on)

pub returns : goal.returns
returns c = reduced (kind_number c.args.kind) c.requires.0 (reduces (c.one_row.ensures _ _ (filled (goal.at.returns c).Else-goes_on)))
