-- `lookups::look` meets its contract: what is written for the row that was found, or for none. Assumes nothing.
use Prim.Native.Nat.{ℕ, ◌≤◌, ◌<◌}
use mathlib.Core.Option.{none, some}
use mathlib.Core.Path.{◌≡◌, sym, ◌∙◌}
use native.Mathlib.Omega.{arith}
use lib.ListN.{length, get_or}
use Rattle.model.specs.Common.{option_of}
use Rattle.model.specs.Slot.{slot_count, slot_row, slot_rows, value_in}
use Rattle.model.specs.Calls.{row_of_span}
use Rattle.theory.proofs.Refusals.{all_outcome}
use Rattle.slot.specs.Places.{place_of}
use Rattle.slot.proofs.Answers.{slot_sized}
use Rattle.lookups.specs.Ends.{Reached}
use Rattle.lookups.proofs.Found.{ends_in_order, found, not_found}
use Rattle.lookups.proofs.look.Goals as goal
use Rattle.lookups.proofs.look.Goals.{After-place_of, After-reach-at, After-count-count, Start}

-- the slot has room and at most 64 rows
sizes : (c : Start) → (768 ≤ length c.args.slot.now) × (slot_count c.args.slot.now ≤ 64)
sizes c = slot_sized c.args.slot.now (all_outcome _ tt c.requires)

pub count-count-requires : goal.count-count-requires
count-count-requires c = (sizes (goal.at.count-count-requires c).Start).0

-- its bytes are bytes
small : (c : After-count-count) (i : ℕ) → get_or c.args.slot.now i 0 < 256
small c i = omega (arith, c.type_inv.slot i)

pub reach-at-requires : goal.reach-at-requires
reach-at-requires c =
    let count = c.count-count.ensures in
    record {
      rows_of_slot = rw count (sizes (goal.at.reach-at-requires c).Start);
      end_in_order = rw count (ends_in_order c.args.slot.now (small (goal.at.reach-at-requires c).After-count-count) c.requires);
    }

-- the row that was reached
reached : (c : After-reach-at)
    → let a = c.args in
    Reached a.slot.now (slot_count a.slot.now) (place_of a.group a.frame) c.reach-at.result
reached c = rw (c.count-count.ensures, c.place_of-place.ensures) at c.reach-at.ensures

framed : (c : Start) → c.args.frame < 65536
framed c = omega (arith, c.ranges.frame.fits)

pub row-row-requires : goal.row-row-requires
row-row-requires c =
    let s = sizes (goal.at.row-row-requires c).Start in
    (s.0, omega (arith, s.1, c.count-count.ensures, c.if-at-count.true))

-- what was found of the frame
is_found : (c : After-reach-at)
    → let a = c.args in
    let row = slot_row a.slot.now c.reach-at.result in
    c.reach-at.result < slot_count a.slot.now
    → place_of row.group row.first ≤ place_of a.group a.frame
    → value_in (slot_rows a.slot.now) a.group a.frame ≡ some row.value
is_found c =
    let start = (goal.at.After-reach-at c).Start in
    found c.args.slot.now (small (goal.at.After-reach-at c).After-count-count) c.requires c.args.group c.args.frame (framed start) c.reach-at.result (reached c)

is_not : (c : After-reach-at)
    → let a = c.args in
    let row = slot_row a.slot.now c.reach-at.result in
    (c.reach-at.result < slot_count a.slot.now → place_of a.group a.frame < place_of row.group row.first)
    → value_in (slot_rows a.slot.now) a.group a.frame ≡ none
is_not c =
    let start = (goal.at.After-reach-at c).Start in
    not_found c.args.slot.now (small (goal.at.After-reach-at c).After-count-count) c.requires c.args.group c.args.frame (framed start) c.reach-at.result (reached c)

-- the place of the row's first frame
begins : (c : After-place_of)
    → let row = slot_row c.args.slot.now c.reach-at.result in
    c.place_of.result ≡ place_of row.group row.first
unfolding row_of_span
begins c = c.place_of.ensures ∙ rw c.row-row.ensures

pub returns-then-place_of-place : goal.returns-then-place_of-place
unfolding option_of row_of_span
returns-then-place_of-place c =
    let e = is_found (goal.at.returns-then-place_of-place c).After-reach-at (omega (arith, c.count-count.ensures, c.if-at-count.true)) (omega (arith, begins (goal.at.returns-then-place_of-place c).After-place_of, c.place_of-place.ensures, c.if-place_of-place.true)) in
    rw c.row-row.ensures (sym e)

pub returns-else-place_of-place : goal.returns-else-place_of-place
unfolding option_of
returns-else-place_of-place c =
    let e = is_not (goal.at.returns-else-place_of-place c).After-reach-at (λ lt. omega (arith, begins (goal.at.returns-else-place_of-place c).After-place_of, c.place_of-place.ensures, c.if-place_of-place.false)) in
    sym e

pub returns-else-at-count : goal.returns-else-at-count
unfolding option_of
returns-else-at-count c =
    let e = is_not (goal.at.returns-else-at-count c).After-reach-at (λ lt. absurd (omega (arith, lt, c.count-count.ensures, c.if-at-count.false))) in
    sym e
