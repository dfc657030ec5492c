-- `tail::blocks` meets its contract. The invariant of both loops: the two words that gather are zero exactly if the bytes so far are.
-- Assumes nothing.
use Prim.Native.Nat.{ℕ, ◌+◌, ◌*◌}
use mathlib.Core.Bool.{◌&&◌}
use mathlib.Core.List.{List}
use mathlib.Core.Path.{◌≡◌}
use lib.Dec.{eqb}
use Rattle.model.specs.Questions.{zeros}
use Rattle.tail.proofs.blocks.Given as goal

-- so many bytes are gathered
abbrev pub SoFar : List ℕ → ℕ → ℕ → ℕ → ℕ → Type 0
SoFar bytes at first second size = eqb first 0 && eqb second 0 ≡ zeros bytes at size

abbrev pub invariant-loop-j : goal.invariant-loop-j
invariant-loop-j l = SoFar l.bytes l.at l.first l.second (64 * l.k + 16 * l.j)

abbrev pub invariant-loop-k : goal.invariant-loop-k
invariant-loop-k l = SoFar l.bytes l.at l.first l.second (64 * l.k)
