-- The invariant: the walker holds the slot and the number after so many steps. Assumes nothing.
use Rattle.std.proofs.Common.{◌≡◌}
use Rattle.lent.specs.Walk.{number_after}
use Rattle.lent.proofs.walker.walked.Given as goal

abbrev pub invariant-loop : goal.invariant-loop
invariant-loop l = (l.walker.slot.now ≡ l.slot) × (l.walker.next ≡ number_after l.slot l.counter)
