-- `twins::ask` meets its contract. The loop's invariant: the firsts of the keys so far are set, and what is left to ask says what the
-- whole says. Assumes nothing.
use Prim.Native.Nat.{◌-◌}
use mathlib.Core.Path.{◌≡◌}
use Rattle.model.specs.Questions.{each, twin_questions}
use Rattle.theory.proofs.Asking.{answer}
use Rattle.twins.specs.Keys.{Noted}
use Rattle.twins.proofs.ask.Given as goal

abbrev pub invariant-loop-index : goal.invariant-loop-index
invariant-loop-index l =
    Noted l.log l.index l.firsts
    × (answer (each (twin_questions l.log) l.index (l.count - l.index)) ≡ answer (each (twin_questions l.log) 0 l.count))
