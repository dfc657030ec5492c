-- The recursion falls by the number of rows.
use Rattle.cuts.proofs.+read_back.Given as goal

abbrev pub decreases-read_back : goal.decreases-read_back
decreases-read_back l = l.k
