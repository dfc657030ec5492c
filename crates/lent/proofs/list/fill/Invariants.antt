-- The invariant: the list with its first `index` places copied. Assumes nothing.
use Rattle.std.proofs.Common.{◌≡◌}
use Rattle.model.specs.Calls.{segment_of}
use Rattle.model.specs.Arrays.{segment_in}
use Rattle.theory.proofs.Copying.{copied}
use Rattle.lent.proofs.list.fill.Given as goal

abbrev pub invariant-loop-index : goal.invariant-loop-index
invariant-loop-index l =
    let s = l.segments in
    l.list ≡ copied (λ i. segment_of (segment_in s i)) l.initial.list l.index
