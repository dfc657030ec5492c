-- `tabulate` meets its contract. Assumes nothing.
use Prim.Native.Nat.{ℕ, ◌≤◌}
use mathlib.Core.Path.{◌≡◌}
use lib.Dec.{lit≤}
use lib.ListN.{get_or}
use Rattle.model.specs.Arrays.{segments_in}
use Rattle.model.specs.Calls.{kind_number}
use Rattle.model.specs.Split.{gap_below}
use Rattle.triangle.specs.Places.{row_start}
use Rattle.split.proofs.Sharing.{room_for}
use Rattle.split.proofs.Measuring.{few_segments, ready, reduced_held}
use Rattle.split.proofs.tabulate.Goals as goal
use Rattle.split.proofs.tabulate.Goals.{After-gaps-gaps}

gaps_at : (c : After-gaps-gaps) (i : ℕ) → i ≤ c.args.segments.now.count
    → get_or c.gaps-gaps.result i 0 ≡ gap_below (segments_in c.args.segments.now) i
unfolding segments_in
gaps_at c = c.gaps-gaps.ensures c.args.segments.now.values

pub gaps-gaps-requires : goal.gaps-gaps-requires
gaps-gaps-requires c = few_segments c.args.segments.now c.requires.measured

pub within-requires-clause-ready : goal.within-requires-clause-ready
within-requires-clause-ready c = ready _ _ _ _ c.requires (gaps_at (goal.at.within-requires-clause-ready c).After-gaps-gaps)

pub within-requires-clause-room : goal.within-requires-clause-room
unfolding row_start
within-requires-clause-room c = (room_for c.args.task.segments 8 c.if-task-le8.true, lit≤ tt)

pub within-requires-then-task-le32-clause-ready : goal.within-requires-then-task-le32-clause-ready
within-requires-then-task-le32-clause-ready c =
    ready _ _ _ _ c.requires (gaps_at (goal.at.within-requires-then-task-le32-clause-ready c).After-gaps-gaps)

pub within-requires-then-task-le32-clause-room : goal.within-requires-then-task-le32-clause-room
unfolding row_start
within-requires-then-task-le32-clause-room c = (room_for c.args.task.segments 32 c.if-task-le32.true, lit≤ tt)

pub large-requires : goal.large-requires
large-requires c = ready _ _ _ _ c.requires (gaps_at (goal.at.large-requires c).After-gaps-gaps)

pub returns-then-task-le8 : goal.returns-then-task-le8
returns-then-task-le8 c =
    reduced_held (kind_number c.args.kind) c.requires _ (gaps_at (goal.at.returns-then-task-le8 c).After-gaps-gaps) c.within.ensures

pub returns-then-task-le32 : goal.returns-then-task-le32
returns-then-task-le32 c =
    reduced_held (kind_number c.args.kind) c.requires _ (gaps_at (goal.at.returns-then-task-le32 c).After-gaps-gaps)
    c.within-then-task-le32.ensures

pub returns-else-task-le32 : goal.returns-else-task-le32
returns-else-task-le32 c =
    reduced_held (kind_number c.args.kind) c.requires _ (gaps_at (goal.at.returns-else-task-le32 c).After-gaps-gaps) c.large.ensures
