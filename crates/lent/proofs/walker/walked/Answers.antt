-- `walker::walked` meets its contract: each turn takes one step more. Assumes nothing.
use Rattle.std.proofs.Common.{ap, ◌∙◌}
use native.Mathlib.Numerals.{add-one}
use Rattle.lent.specs.Walk.{number_after}
use Rattle.lent.proofs.walker.walked.Goals as goal

pub loop-init : goal.loop-init
unfolding number_after
loop-init c = let new = c.new-walker.ensures in (ap (λ r. r.now) new.0, new.1)

pub loop-preserved : goal.loop-preserved
unfolding number_after
loop-preserved c =
    let was = c.loop.invariant in (
      ap (λ r. r.now) c.step.ensures.same_slot ∙ was.0,
      c.step.ensures.goes_on ∙ rw (was.0, was.1, add-one c.loop.counter),
    )
