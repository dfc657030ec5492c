-- `tail::words` meets its contract. The invariant: the words so far, or-ed together, are zero exactly if their bytes are. Assumes nothing.
use Prim.Native.Nat.{◌*◌}
use mathlib.Core.Path.{◌≡◌}
use lib.Dec.{eqb}
use Rattle.model.specs.Questions.{zeros}
use Rattle.tail.proofs.words.Given as goal

abbrev pub invariant-loop-k : goal.invariant-loop-k
invariant-loop-k l = eqb l.any 0 ≡ zeros l.bytes l.at (8 * l.k)
