-- `gaps` meets its contract. The invariant: `low` is the last gap below `i`, and the places to `i` hold such gaps. Assumes nothing.
use Prim.Native.Nat.{ℕ, ◌≤◌}
use mathlib.Core.Path.{◌≡◌}
use lib.ListN.{length, get_or}
use Rattle.model.specs.Blocks.{last_gap}
use Rattle.measures.proofs.Gapped.{plain}
use Rattle.measures.proofs.gaps.Given as goal

abbrev pub invariant-loop-i : goal.invariant-loop-i
invariant-loop-i l = (length l.out ≡ 256) × (l.low ≡ last_gap (plain l.segments) l.i) × ((x : ℕ) → x ≤ l.i → get_or l.out x 0 ≡ last_gap (plain l.segments) x)
