-- `memory::records` meets its contract. The loop's invariant: the last frames of the first records are moved. Assumes nothing.
use Prim.Native.Nat.{◌≤◌}
use mathlib.Core.Path.{◌≡◌}
use lib.ListN.{length}
use Rattle.memory.proofs.Moving.{Moved}
use Rattle.memory.proofs.records.Given as goal

abbrev pub invariant-loop-index : goal.invariant-loop-index
invariant-loop-index l =
    (l.count ≤ 128) × (length l.initial.records.lasts ≡ 128) × Moved l.width l.initial.records l.records l.index
