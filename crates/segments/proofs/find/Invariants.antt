-- `segments::find` meets its contract. The loop's invariant: what is made, with the groups left behind it, joins to the segments.
-- Assumes nothing.
use Prim.Native.Nat.{◌-◌}
use mathlib.Core.List.{◌++◌}
use mathlib.Core.Path.{◌≡◌}
use Rattle.model.specs.Spans.{group_count, frame_count}
use Rattle.model.specs.Log.{value}
use Rattle.model.specs.Segments.{groups_from, segments}
use Rattle.model.specs.Calls.{kind_number}
use Rattle.model.specs.Arrays.{records_in, segments_in}
use Rattle.segments.specs.Steps.{joined, Made}
use Rattle.segments.proofs.find.Given as goal

abbrev pub invariant-loop-group : goal.invariant-loop-group
invariant-loop-group l =
    let kind = kind_number l.kind in
    let all = records_in l.records in
    Made l.made
    × (joined (segments_in l.made ++ groups_from (value kind 1 all) frame_count l.group (group_count - l.group))
    ≡ segments kind 1 all)
