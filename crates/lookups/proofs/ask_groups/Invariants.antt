-- `lookups::ask_groups` meets its contract. The invariant: what is left to ask says what the whole says. Assumes nothing.
use Prim.Native.Nat.{◌-◌}
use mathlib.Core.Path.{◌≡◌}
use lib.ListN.{length}
use Rattle.model.specs.Questions.{each}
use Rattle.model.specs.Lookups.{pair_questions}
use Rattle.theory.proofs.Asking.{answer}
use Rattle.lookups.proofs.ask_groups.Given as goal

abbrev pub invariant-loop-i : goal.invariant-loop-i
invariant-loop-i l =
    answer (each (pair_questions l.groups) l.i (length l.groups - l.i)) ≡ answer (each (pair_questions l.groups) 0 (length l.groups))
