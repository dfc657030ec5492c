-- `reader::read_rows` meets its contract. The invariant: the array holds the first `i` rows. Assumes nothing.
use mathlib.Core.Path.{◌≡◌, ◌∙◌}
use native.Mathlib.Omega.{arith}
use Rattle.model.specs.Common.{list_from}
use Rattle.model.specs.Slot.{slot_row}
use Rattle.reader.proofs.Steps.{store_turn}
use Rattle.reader.proofs.read_rows.Goals as goal

pub loop-i-init : goal.loop-i-init
unfolding list_from
loop-i-init c = c.no_rows-rows.ensures

pub loop-i-preserved : goal.loop-i-preserved
loop-i-preserved c = rw (c.loop-i.invariant, c.row.ensures) (store_turn (slot_row c.args.slot.now) c.loop-i.i (omega arith))

pub returns : goal.returns
returns c =
    let end : c.loop-i.i ≡ c.args.count = omega arith in
    c.loop-i.invariant ∙ rw end
