-- `between` meets its contract. The invariant: the rows of the first `next` blocks are stored. Assumes nothing.
use mathlib.Core.Path.{◌≡◌}
use Rattle.model.specs.Common.{list_from}
use Rattle.model.specs.Calls.{kind_number}
use Rattle.model.specs.Arrays.{segment_in, row_array}
use Rattle.rows.specs.Between.{row_between}
use Rattle.rows.proofs.between.Given as goal

abbrev pub invariant-loop-next : goal.invariant-loop-next
invariant-loop-next l = l.made ≡ row_array (list_from 0 l.next (row_between (kind_number l.kind) (segment_in l.segments) l.cuts l.count l.segments.count))
