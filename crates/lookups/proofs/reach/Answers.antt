-- `lookups::reach` meets its contract. The invariant: rows below `at` end before the place, and those behind the `size` from there on do
-- not. The measure is `size`. Assumes nothing.
use Prim.Native.Nat.{◌+◌, ◌-◌, ◌/◌}
use mathlib.Core.Path.{◌≡◌, ◌∙◌}
use native.Mathlib.Omega.{arith}
use borrow.Author.Tests.{ltb-true, ltb-false}
use lib.Dec.{ltb}
use Rattle.theory.proofs.Tests.{cases}
use Rattle.model.specs.Calls.{row_of_span}
use Rattle.lookups.specs.Ends.{end_of}
use Rattle.lookups.proofs.Halving.{upper, lower}
use Rattle.lookups.proofs.reach.Goals as goal

pub loop-size-preserved : goal.loop-size-preserved
unfolding end_of row_of_span
loop-size-preserved c =
    let a = c.args in
    let at = c.loop-size.at in
    let size = c.loop-size.size in
    let ends : c.place_of.result ≡ end_of a.slot.now (at + (size - size / 2) - 1) = c.place_of.ensures ∙ rw c.row-row.ensures in
    cases (ltb c.place_of.result a.place)
    (λ t. rw (c.select_unpredictable-at.ensures, t) (upper a.slot.now a.count a.place c.requires.end_in_order at size (omega arith) c.loop-size.invariant (omega (arith, ends, ltb-true _ _ t))))
    (λ t. rw (c.select_unpredictable-at.ensures, t) (lower a.slot.now a.count a.place c.requires.end_in_order at size (omega arith) c.loop-size.invariant (omega (arith, ends, ltb-false _ _ t))))
