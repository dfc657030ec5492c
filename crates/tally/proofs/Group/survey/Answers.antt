-- `tally::Group::survey` meets its contract. Assumes nothing.
use Prim.Native.Nat.{◌+◌, ◌*◌, ◌≤◌}
use mathlib.Core.Bool.{cond}
use mathlib.Core.Path.{◌≡◌, ◌∙◌}
use native.Mathlib.Omega.{arith}
use Rattle.tally.specs.Tally.{own_in}
use Rattle.tally.proofs.Loads.{survey_none, survey_more, survey_all}
use Rattle.tally.proofs.Group.survey.Goals as goal
use Rattle.tally.proofs.Group.survey.Goals.{then-met, else-met}

pub loop-index-init : goal.loop-index-init
loop-index-init c = survey_none c.args.a c.args.b (own_in c.args.self.now) c.args.self.now.count

pub loop-index-preserved : goal.loop-index-preserved
loop-index-preserved c =
    let a = c.args in
    let l = c.loop-index in
    let h = own_in a.self.now in
    let r = c.record_at-record in
    let load : c.if-met.load ≡ cond c.meets-met.result r.result.load 0 = elim c.if-met.branch [
      | then-met w ↦ rw (w.load-is, w.if-met.true)
      | else-met w ↦ rw (w.load-is, w.if-met.false)
    ] in
    let fits : c.if-met.load ≤ 65535 = omega arith in
    rw c.from-count.ensures
    (survey_more a.a a.b h a.self.now.count l.index l.stop l.count l.low l.high c.loop-index-test.true l.invariant r.result c.meets-met.result c.if-met.load c.stop.result c.min-stop.result r.ensures c.meets-met.ensures (load ∙ rw c.meets-met.ensures) fits c.stop.ensures c.min-stop.ensures)

pub returns : goal.returns
returns c =
    let a = c.args in
    let l = c.loop-index in
    let all = survey_all a.a a.b (own_in a.self.now) a.self.now.count l.index l.stop l.count l.low l.high c.loop-index-test.false l.invariant in
    let total : c.from.result + 256 * c.from-2.result ≡ l.low + 256 * l.high =
    omega (arith, c.from.ensures, c.from-2.ensures) in
    record { stops = all.0; counts = all.1; sums = total ∙ all.2; sum_le = omega arith }
