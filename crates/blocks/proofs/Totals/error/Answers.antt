-- `Totals::error` meets its contract. Assumes nothing.
use Prim.Native.Nat.{ℕ}
use mathlib.Core.Path.{ap}
use native.Mathlib.Omega.{arith}
use Rattle.blocks.specs.Meaning.{totals_in, error_by, error_from}
use Rattle.blocks.proofs.Bounds.{Products, products}
use Rattle.blocks.proofs.Totals.error.Goals as goal
use Rattle.blocks.proofs.Totals.error.Goals.{After-row_value-value}

-- the row value's products
made : (c : After-row_value-value) → Products c.row_value-value.result (totals_in c.args.self)
unfolding totals_in
made c = products _ c.requires c.row_value-value.ensures

pub row_value-value-requires : goal.row_value-value-requires
row_value-value-requires c = c.requires.room

pub overflow_mul-result : goal.overflow_mul-result
unfolding totals_in
overflow_mul-result c = let p = made c in let room = c.requires.room in omega arith

pub overflow_mul-result-2 : goal.overflow_mul-result-2
unfolding totals_in
overflow_mul-result-2 c = let p = made (goal.at.overflow_mul-result-2 c).After-row_value-value in let room = c.requires.room in omega arith

pub overflow_add-result : goal.overflow_add-result
unfolding totals_in
overflow_add-result c = let p = made (goal.at.overflow_add-result c).After-row_value-value in let room = c.requires.room in omega arith

pub overflow_mul-result-3 : goal.overflow_mul-result-3
unfolding totals_in
overflow_mul-result-3 c = let p = made (goal.at.overflow_mul-result-3 c).After-row_value-value in let room = c.requires.room in omega arith

pub overflow_mul-result-4 : goal.overflow_mul-result-4
unfolding totals_in
overflow_mul-result-4 c = let p = made (goal.at.overflow_mul-result-4 c).After-row_value-value in let room = c.requires.room in omega arith

pub overflow_sub-result : goal.overflow_sub-result
unfolding totals_in
overflow_sub-result c = let p = made (goal.at.overflow_sub-result c).After-row_value-value in let room = c.requires.room in omega arith

pub returns : goal.returns
unfolding totals_in error_from error_by
returns c =
    ap (λ (r : ℕ). error_by r (totals_in c.args.self)) c.row_value-value.ensures
