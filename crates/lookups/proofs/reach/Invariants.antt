-- `lookups::reach` meets its contract. The invariant: rows below `at` end before the place, and those behind the `size` from there on do
-- not. The measure is `size`. Assumes nothing.
use Rattle.lookups.proofs.Halving.{Between}
use Rattle.lookups.proofs.reach.Given as goal

abbrev pub invariant-loop-size : goal.invariant-loop-size
invariant-loop-size l = Between l.slot l.count l.place l.at l.size

abbrev pub decreases-loop-size : goal.decreases-loop-size
decreases-loop-size l = l.size
