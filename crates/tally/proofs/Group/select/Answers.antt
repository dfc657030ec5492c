-- `tally::Group::select` meets its contract. Assumes nothing.
use Prim.Native.Nat.{◌-◌}
use borrow.Author.Tests.{eq-eqb, ne_eqb}
use mathlib.Core.List.{append-nil}
use mathlib.Core.Path.{◌≡◌, refl}
use native.Mathlib.Omega.{arith}
use Rattle.model.specs.Common.{list_from}
use Rattle.model.specs.Arrays.{span_in, records_in}
use Rattle.tally.specs.Tally.{owns_in, only_of}
use Rattle.tally.proofs.Loads.{select_more, select_less}
use Rattle.tally.proofs.Group.select.Goals as goal
use Rattle.tally.proofs.Group.select.Goals.{then-records-index, else-records-index}

pub loop-index-init : goal.loop-index-init
unfolding list_from
loop-index-init c =
    let all : c.args.records.now.count - 0 ≡ c.args.records.now.count = omega arith in
    rw all (omega arith, refl)

pub loop-index-preserved : goal.loop-index-preserved
unfolding span_in
loop-index-preserved c =
    let a = c.args in
    let r = a.records.now in
    let l = c.loop-index in
    let h = span_in r.groups r.firsts r.lasts r.loads in
    elim c.if-records-index.branch [
      | then-records-index w ↦ rw w.self-is (omega (arith, w.push.ensures.counted), select_more a.group h r.count l.index c.loop-index-test.true (owns_in l.self) l.invariant.1 (eq-eqb _ _ w.if-records-index.true) _ w.push.ensures.put)
      | else-records-index w ↦ rw w.self-is (omega arith, select_less a.group h r.count l.index c.loop-index-test.true (owns_in l.self) l.invariant.1 (ne_eqb _ _ w.if-records-index.false))
    ]

pub returns : goal.returns
unfolding list_from only_of records_in
returns c =
    let l = c.loop-index in
    let none_left : c.args.records.now.count - l.index ≡ 0 = omega (arith, c.loop-index-test.false) in
    rw append-nil at (rw none_left at l.invariant.1)
