-- What a table of row counts asks of the errors of blocks and of the gaps, whatever a block's cost is. A new kind of cost supplies
-- its bound and its errors, and nothing of the table is proved again.
use Rattle.std.specs.Prelude.{ℕ, ◌≤◌, ◌<◌, ◌≡◌}
use Rattle.std.proofs.Math.Option.{some}
use Rattle.model.specs.Split.{least, cuts_of, chosen}
use Rattle.model.specs.Reductions.{IsReduction}
use Rattle.model.specs.Room.{most_error}
use Rattle.model.specs.declared.Bound.{Bound}

-- n segments in m runs: `err j i` is the error of the block from j up to i, and `low i` the last gap below i
pub record Costs (err : ℕ → ℕ → ℕ) (low : ℕ → ℕ) (n m : ℕ) : Type 0 where
  pub few : n ≤ 255
  pub gap_below : (i : ℕ) → 0 < i → i ≤ n → low i < i
  pub block_le : (j i : ℕ) → low i ≤ j → j < i → i ≤ n → err j i ≤ most_error
  pub least_le : (k i t : ℕ) → i ≤ n → least err low k i ≡ some t → t ≤ most_error
  pub possible : (k : ℕ) → m ≤ k → k ≤ n → (t : ℕ) × (least err low k n ≡ some t)
  pub needed : (k t : ℕ) → least err low k n ≡ some t → (m ≤ k) × (k ≤ n)
  pub sound : (k t : ℕ) → least err low k n ≡ some t → IsReduction low n (cuts_of err low k n)
  pub answers : (bound : Bound) (k : ℕ) → chosen bound (λ x. least err low x n) n m ≡ some k
      → (t : ℕ) × (least err low k n ≡ some t)
