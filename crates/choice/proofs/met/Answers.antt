-- `met` meets its contract. Assumes nothing.
use native.Mathlib.Omega.{arith}
use borrow.Author.Tests.{lt-leb, le-leb}
use Rattle.theory.proofs.Bounds.{mul_le}
use Rattle.choice.specs.Bounds.{meets_in, Known}
use Rattle.choice.proofs.met.Goals as goal

pub overflow_mul-result-then-runs-k : goal.overflow_mul-result-then-runs-k
unfolding Known
overflow_mul-result-then-runs-k c =
    let small = c.requires.there c.if-runs-k.true in
    let share = rw c.in-Share.is at c.requires.known in
    rw c.from.ensures (omega (arith, mul_le share small))

pub returns-in-Rows : goal.returns-in-Rows
unfolding meets_in
returns-in-Rows c = rw c.in-Rows.is

pub returns-then-runs-k : goal.returns-then-runs-k
unfolding meets_in
returns-then-runs-k c = rw (c.in-Share.is, le-leb _ _ c.if-runs-k.true, c.from.ensures)

pub returns-else-runs-k : goal.returns-else-runs-k
unfolding meets_in
returns-else-runs-k c = rw (c.in-Share.is, lt-leb _ _ c.if-runs-k.false)
