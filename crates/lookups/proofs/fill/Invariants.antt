-- `lookups::fill` meets its contract. The invariant: the first `i` places of both lists hold what is written for their pairs. Assumes nothing.
use mathlib.Core.Path.{◌≡◌}
use Rattle.model.specs.Lookups.{pair_found, value_shown, covered_shown}
use Rattle.theory.proofs.Copying.{copied}
use Rattle.lookups.proofs.fill.Given as goal

abbrev pub invariant-loop-i : goal.invariant-loop-i
invariant-loop-i l =
    (l.values ≡ copied (λ k. value_shown (pair_found l.slot l.groups l.frames k)) l.initial.values l.i)
    × (l.covered ≡ copied (λ k. covered_shown (pair_found l.slot l.groups l.frames k)) l.initial.covered l.i)
