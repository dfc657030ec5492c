-- `reader::find` meets its contract. The invariant: the value found from row `next` on is that found from the first. Assumes nothing.
use Prim.Native.Nat.{◌-◌}
use mathlib.Core.Path.{◌≡◌}
use Rattle.model.specs.Common.{list_from}
use Rattle.model.specs.Slot.{slot_row, value_in}
use Rattle.reader.proofs.find.Given as goal

abbrev pub invariant-loop-next : goal.invariant-loop-next
invariant-loop-next l =
    value_in (list_from l.next (l.count - l.next) (slot_row l.slot)) l.group l.frame ≡ value_in (list_from 0 l.count (slot_row l.slot)) l.group l.frame
