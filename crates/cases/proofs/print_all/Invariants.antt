-- Each case is taken off the bytes that are left.
use Rattle.std.proofs.Common.{length}
use Rattle.cases.proofs.print_all.Given as goal

abbrev pub decreases-loop-size : goal.decreases-loop-size
decreases-loop-size g l = length l.rest
