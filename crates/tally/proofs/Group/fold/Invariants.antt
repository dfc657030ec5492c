-- `tally::Group::fold` meets its contract. The loop's invariant: what the loads left come to from here is what all come to from
-- the start. Assumes nothing.
use Prim.Native.Nat.{◌-◌}
use Rattle.std.specs.List.{FoldsTo}
use Rattle.model.specs.Common.{list_from}
use Rattle.tally.specs.Tally.{own_in, owns_in, loads_or, TakesUp}
use Rattle.tally.proofs.Group.fold.Given as goal

abbrev pub invariant-loop-index : goal.invariant-loop-index
invariant-loop-index g l =
    (last : _)
    → FoldsTo (TakesUp (goal.F-post g l.take)) l.found (loads_or l.start l.a l.b (list_from l.index (l.self.count - l.index) (own_in l.self))) last
    → FoldsTo (TakesUp (goal.F-post g l.take)) l.start (loads_or l.start l.a l.b (owns_in l.self)) last
