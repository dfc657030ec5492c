-- `slot::ask_rows` meets its contract. The invariant: row `i` may begin at place `least`, and what the questions of the
-- rows from `i` on answer is what those of all rows do. Assumes nothing.
use Prim.Native.Nat.{◌-◌}
use mathlib.Core.Path.{◌≡◌}
use Rattle.model.specs.Questions.{each, row_questions}
use Rattle.slot.specs.Places.{least_place}
use Rattle.theory.proofs.Asking.{answer}
use Rattle.slot.proofs.ask_rows.Given as goal

abbrev pub invariant-loop-i : goal.invariant-loop-i
invariant-loop-i l =
    (l.least ≡ least_place l.slot l.i)
    × (answer (each (row_questions l.slot) l.i (l.count - l.i)) ≡ answer (each (row_questions l.slot) 0 l.count))
