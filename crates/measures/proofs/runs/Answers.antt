-- `runs` meets its contract. The invariant: `out` runs begin among the first `i` segments. Assumes nothing.
use mathlib.Core.Path.{◌≡◌, refl, ◌∙◌}
use native.Mathlib.Omega.{arith}
use Rattle.model.specs.Blocks.{runs_to}
use Rattle.theory.proofs.Choice.{runs_to-le}
use Rattle.measures.proofs.Gapped.{plain, one_at_most, runs_next, runs_plain}
use Rattle.measures.proofs.runs.Goals as goal

pub loop-i-init : goal.loop-i-init
unfolding runs_to
loop-i-init c = refl

pub overflow_add-out : goal.overflow_add-out
overflow_add-out c =
    let few = runs_to-le (plain c.args.segments.now) c.loop-i.i in
    let one = one_at_most c.is_gap.result in
    omega (arith, c.loop-i.invariant, c.from-out.ensures)

pub loop-i-preserved : goal.loop-i-preserved
loop-i-preserved c = runs_next _ _ _ c.is_gap.ensures _ _ c.loop-i.invariant c.from-out.ensures

pub returns : goal.returns
returns c = λ values.
    let all : c.loop-i.i ≡ c.args.segments.now.count = omega arith in
    (rw all at c.loop-i.invariant) ∙ runs_plain c.args.segments.now values _
