-- `Work::large` meets its contract. Assumes nothing.
use lib.Dec.{lit≤}
use Rattle.triangle.specs.Places.{row_start}
use Rattle.split.proofs.Sharing.{room_for}
use Rattle.split.proofs.Work.large.Goals as goal

pub apart-requires-clause-room : goal.apart-requires-clause-room
unfolding row_start
apart-requires-clause-room c = (room_for c.args.self.now.task.segments 64 c.if-self-le64.true, lit≤ tt)

pub apart-requires-then-self-le128-clause-room : goal.apart-requires-then-self-le128-clause-room
unfolding row_start
apart-requires-then-self-le128-clause-room c = (room_for c.args.self.now.task.segments 128 c.if-self-le128.true, lit≤ tt)

pub apart-requires-else-self-le128-clause-room : goal.apart-requires-else-self-le128-clause-room
unfolding row_start
apart-requires-else-self-le128-clause-room c = (room_for c.args.self.now.task.segments 255 c.requires.costs.few, lit≤ tt)
