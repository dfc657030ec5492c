-- `tally::Group::fold` meets its contract. Assumes nothing.
use Prim.Native.Nat.{◌-◌, ◌≤◌}
use mathlib.Core.Bool.{cond}
use mathlib.Core.Path.{◌≡◌, refl, ◌∙◌}
use native.Mathlib.Numerals.{add-one}
use native.Mathlib.Omega.{arith}
use Rattle.model.specs.Common.{list_from}
use Rattle.theory.proofs.Lists.{list_from_left}
use Rattle.tally.specs.Tally.{own_in, held, loads_or}
use Rattle.tally.proofs.Group.fold.Goals as goal
use Rattle.tally.proofs.Group.fold.Goals.{then-meets, else-meets}

pub loop-index-init : goal.loop-index-init
loop-index-init g c last rest =
    let all : c.args.self.now.count - 0 ≡ c.args.self.now.count = omega arith in
    rw all at rest

pub loop-index-preserved : goal.loop-index-preserved
unfolding loads_or
loop-index-preserved g c last rest =
    let a = c.args in
    let i = c.loop-index.index in
    let own = own_in a.self.now i in
    let load : c.if-meets.load ≡ cond c.meets.result c.record_at-record.result.load a.start = elim c.if-meets.branch [
      | then-meets w ↦ rw (w.load-is, w.if-meets.true)
      | else-meets w ↦ rw (w.load-is, w.if-meets.false)
    ] in
    let taken : c.if-meets.load ≡ cond (held a.a a.b own) own.load a.start =
    load ∙ rw (c.meets.ensures, c.record_at-record.ensures) in
    let fits : c.if-meets.load ≤ 65535 = omega arith in
    c.loop-index.invariant last
    (rw (list_from_left (own_in a.self.now) i a.self.now.count c.loop-index-test.true) (
      c.take-found.result,
      (rw taken at fits, rw taken at c.take-found.ensures),
      rw (add-one i) at rest,
    ))

pub returns : goal.returns
unfolding loads_or list_from
returns g c =
    let none_left : c.args.self.now.count - c.loop-index.index ≡ 0 = omega (arith, c.loop-index-test.false) in
    c.loop-index.invariant c.loop-index.found (rw none_left refl)
