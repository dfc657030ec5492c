-- The places of the blocks' errors, and the errors and last gaps that lists of numbers hold.
use Rattle.std.specs.Prelude.{ℕ, zero, suc, ◌+◌, ◌≤◌, ◌<◌, List, ◌≡◌, get_or}

-- where the errors of the blocks up to i begin: those of the blocks up to i + 1 stand behind them, one for each first segment
unfoldable pub row_start : ℕ → ℕ
row_start zero = 0
row_start (suc i) = row_start i + i

-- the error of the block from j up to i
unfoldable pub error_at : List ℕ → ℕ → ℕ → ℕ
error_at errors j i = get_or errors (row_start i + j) 0

-- the last gap below i
unfoldable pub gap_at : List ℕ → ℕ → ℕ
gap_at gaps i = get_or gaps i 0

-- two accounts of the errors and gaps of n segments agree: on every last gap, and on the error of every block that crosses no gap
pub record Agree (err : ℕ → ℕ → ℕ) (low : ℕ → ℕ) (err' : ℕ → ℕ → ℕ) (low' : ℕ → ℕ) (n : ℕ) : Type 0 where
  pub gaps : (i : ℕ) → i ≤ n → low i ≡ low' i
  pub errors : (j i : ℕ) → low i ≤ j → j < i → i ≤ n → err j i ≡ err' j i
