-- The best candidate as the code holds it, and the table's first row.
use Rattle.std.specs.Prelude.{ℕ, ◌≤◌, List, ◌≡◌, length, get_or}
use Rattle.model.specs.Split.{least}
use Rattle.model.specs.Split as model
use Rattle.choice.specs.Errors.{error_in, Stands}
use Rattle.table.specs.declared.Best.{Best}

unfoldable pub best_in : Best → model.Best
best_in b = record { total = error_in b.total; cut = b.cut; tried = b.tried }

-- these are the table's first row of errors
pub record FirstRow (err : ℕ → ℕ → ℕ) (low : ℕ → ℕ) (n : ℕ) (row : List ℕ) : Type 0 where
  pub size : length row ≡ 256
  pub errors_at : (i : ℕ) → i ≤ n → Stands (get_or row i 0) (least err low 1 i)
