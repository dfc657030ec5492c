-- `least_rows` meets its contract. Assumes nothing.
use Rattle.std.proofs.Common.{◌≡◌, ◌+◌, ◌-◌, ◌<◌, refl, get_or, arith}
use borrow.Author.Tests.{lt-ltb, le-ltb}
use Rattle.model.specs.Split.{fewest}
use Rattle.choice.specs.Errors.{error_in}
use Rattle.choice.proofs.Errors.{fewest_next}
use Rattle.choice.proofs.least_rows.Goals as goal
use Rattle.choice.proofs.least_rows.Goals.{then-column-k, else-column-k, Joined-column-k}

-- the best of the rows before, or the row that was looked at
best_is : (c : Joined-column-k) → c.if-column-k.best ≡ fewest (λ x. error_in (get_or c.args.column.now x 0)) c.loop-k.k
best_is c =
    let loop = c.loop-k in
    let small = c.requires.at_most_none loop.best (omega arith) in
    fewest_next c.args.column.now loop.k loop.best c.if-column-k.best loop.auto.k small loop.invariant.so_far
    (elim c.if-column-k.branch [
      | then-column-k w ↦ rw (w.best-is, lt-ltb _ _ w.if-column-k.true)
      | else-column-k w ↦ rw (w.best-is, le-ltb _ _ w.if-column-k.false)
    ])

pub loop-k-init : goal.loop-k-init
unfolding fewest
loop-k-init c = record { to = omega arith; below = omega arith; so_far = refl }

pub loop-k-preserved : goal.loop-k-preserved
loop-k-preserved c =
    let back : c.loop-k.k + 1 - 1 ≡ c.loop-k.k = omega arith in
    let most : c.if-column-k.best < c.loop-k.k + 1 = elim c.if-column-k.branch [
      | then-column-k w ↦ rw w.best-is (omega arith)
      | else-column-k w ↦ rw w.best-is (omega arith)
    ] in
    record { to = omega arith; below = most; so_far = rw back (best_is (goal.at.loop-k-preserved c).Joined-column-k) }

pub returns : goal.returns
returns c = let last : c.loop-k.k - 1 ≡ c.args.last = omega arith in rw last at c.loop-k.invariant.so_far

pub returns-after-column-k : goal.returns-after-column-k
returns-after-column-k c =
    let last : c.loop-k.k ≡ c.args.last = omega arith in
    rw last at (best_is (goal.at.returns-after-column-k c).Joined-column-k)
