-- `runs` meets its contract. The invariant: `out` runs begin among the first `i` segments. Assumes nothing.
use mathlib.Core.Path.{◌≡◌}
use Rattle.model.specs.Blocks.{runs_to}
use Rattle.measures.proofs.Gapped.{plain}
use Rattle.measures.proofs.runs.Given as goal

abbrev pub invariant-loop-i : goal.invariant-loop-i
invariant-loop-i l = l.out ≡ runs_to (plain l.segments) l.i
