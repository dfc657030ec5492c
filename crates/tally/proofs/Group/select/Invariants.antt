-- `tally::Group::select` meets its contract. The loop's invariant: the records of the group so far, with those among the records
-- left, are the group's records. Assumes nothing.
use Prim.Native.Nat.{◌≤◌}
use Rattle.model.specs.Arrays.{span_in}
use Rattle.tally.specs.Tally.{owns_in}
use Rattle.tally.proofs.Loads.{Selected}
use Rattle.tally.proofs.Group.select.Given as goal

abbrev pub invariant-loop-index : goal.invariant-loop-index
invariant-loop-index l =
    (l.self.count ≤ l.index)
    × Selected l.group (span_in l.records.groups l.records.firsts l.records.lasts l.records.loads) l.records.count l.index (owns_in l.self)
