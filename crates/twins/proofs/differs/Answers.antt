-- `twins::differs` meets its contract. The loop's invariant: the keys so far, with those left, differ as all do. Assumes nothing.
use mathlib.Core.Bool.{not}
use mathlib.Core.Path.{◌≡◌, ◌∙◌}
use lib.Dec.{eqb}
use Rattle.model.specs.Common.{every}
use Rattle.theory.proofs.Lists.{all_left}
use Rattle.theory.proofs.Every.{every_more, every_done}
use Rattle.twins.specs.Keys.{new_in}
use Rattle.twins.proofs.differs.Invariants.{other}
use Rattle.twins.proofs.differs.Goals as goal

pub loop-i-init : goal.loop-i-init
unfolding new_in
loop-i-init c = (c.key-own.ensures, all_left (every _ 0) _)

pub loop-i-preserved : goal.loop-i-preserved
loop-i-preserved c =
    let l = c.loop-i in
    let a = c.args in
    let same : not (eqb c.key-other.result c.key-own.result) ≡ other a.log.now a.index l.i = rw (c.key-other.ensures, l.invariant.0) in
    (l.invariant.0, every_more (other a.log.now a.index) l.i a.index l.new _ c.loop-i-test.true same ∙ l.invariant.1)

pub returns : goal.returns
returns c =
    let l = c.loop-i in
    let a = c.args in
    every_done (other a.log.now a.index) l.i a.index l.new c.loop-i-test.false ∙ l.invariant.1
