-- `layout::layout` meets its contract. The invariant: header and the first `i` rows are in place.
-- Assumes nothing.
use mathlib.Core.Path.{◌≡◌, ap, ◌∙◌}
use native.Mathlib.Omega.{arith}
use borrow.Rule.Slice.PartMut.{mid_len}
use lib.ListN.{length}
use Rattle.model.specs.Spans.{nowhere}
use Rattle.model.specs.Slot.{row_place}
use Rattle.model.specs.Calls.{row_of_span}
use Rattle.theory.proofs.SlotLaws.{length-row_bytes}
use Rattle.layout.proofs.Placed.{so_far, length_so_far, start, turn, finish}
use Rattle.layout.proofs.layout.Goals as goal
use Rattle.layout.proofs.layout.Goals.{At-loop-i}

pub loop-i-init : goal.loop-i-init
loop-i-init c =
    let a = c.args in
    c.copy.ensures
    ∙ start a.mark a.kind a.error a.count a.rows _ _ c.no_slot-slot.ensures c.header_bytes-header.ensures

-- the slot stays as long as it is
full : (c : At-loop-i) → length c.loop-i.slot ≡ 768
full c =
    let a = c.args in
    ap length c.loop-i.invariant ∙ length_so_far a.mark a.kind a.error a.count a.rows c.loop-i.i (omega arith)

pub slice_bounds-slot-end : goal.slice_bounds-slot-end
slice_bounds-slot-end c = let f = full (goal.at.slice_bounds-slot-end c).At-loop-i in omega arith

pub copy-requires-in-loop-i : goal.copy-requires-in-loop-i
unfolding row_place
copy-requires-in-loop-i c =
    let size : length c.row_bytes-row.result ≡ 11 = ap length c.row_bytes-row.ensures ∙ length-row_bytes _ in
    let room = mid_len c.place-at.result 768 c.loop-i.slot (omega (arith, full (goal.at.copy-requires-in-loop-i c).At-loop-i)) in
    omega (arith, room)

pub loop-i-preserved : goal.loop-i-preserved
unfolding row_of_span nowhere
loop-i-preserved c =
    let a = c.args in
    turn a.mark a.kind a.error a.count a.rows c.loop-i.i _ _ _ _ (omega arith) c.loop-i.invariant
    c.place-at.ensures c.row_bytes-row.ensures c.copy-in-loop-i.ensures

pub returns : goal.returns
returns c =
    let a = c.args in
    let end : c.loop-i.i ≡ a.count = omega arith in
    c.loop-i.invariant
    ∙ ap (so_far a.mark a.kind a.error a.count a.rows) end
    ∙ finish a.mark a.kind a.error a.count a.rows
