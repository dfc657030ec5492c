-- `load_log::ask_records` meets its contract. The loop's invariant: what is left to ask says what the whole says. Assumes nothing.
use Prim.Native.Nat.{◌-◌}
use mathlib.Core.Path.{◌≡◌}
use Rattle.model.specs.Questions.{each, record_questions}
use Rattle.theory.proofs.Asking.{answer}
use Rattle.load_log.proofs.ask_records.Given as goal

abbrev pub invariant-loop-index : goal.invariant-loop-index
invariant-loop-index l =
    answer (each (record_questions l.log) l.index (l.count - l.index)) ≡ answer (each (record_questions l.log) 0 l.count)
