-- `segments::find_group` meets its contract. The loop's invariant: what is made, with the frames left behind it, joins to the whole.
-- Assumes nothing.
use Prim.Native.Nat.{◌-◌, ◌≤◌}
use mathlib.Core.List.{[], ◌++◌}
use mathlib.Core.Path.{◌≡◌}
use Rattle.model.specs.Spans.{frame_count}
use Rattle.model.specs.Segments.{frames_from}
use Rattle.model.specs.Arrays.{segments_in}
use Rattle.tally.specs.Tally.{owns_in, own_value}
use Rattle.model.specs.Calls.{kind_number}
use Rattle.segments.specs.Steps.{joined, Made}
use Rattle.segments.proofs.find_group.Given as goal

abbrev pub invariant-loop-kind : goal.invariant-loop-kind
invariant-loop-kind l =
    let val = own_value (kind_number l.kind) (owns_in l.own) in
    (l.a ≤ 65535)
    × Made l.made
    × (joined (segments_in l.made ++ frames_from val l.group l.a (frame_count - l.a) [])
    ≡ joined (segments_in l.initial.made ++ frames_from val l.group 0 frame_count []))

abbrev pub decreases-loop-kind : goal.decreases-loop-kind
decreases-loop-kind l = 65535 - l.a
