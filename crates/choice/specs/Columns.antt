-- The column of errors that a task is answered from.
use Rattle.std.specs.Prelude.{ℕ, ◌≤◌, List, ◌≡◌, get_or}
use Rattle.model.specs.Split.{least}
use Rattle.triangle.specs.Costs.{Costs}
use Rattle.choice.specs.Errors.{Stands}
use Rattle.choice.specs.Bounds.{filled_rows}
use Rattle.choice.specs.declared.Task.{Task}

-- a column of errors that is filled as far as the task's bound asks for, to `last` rows
pub record FilledColumn (err : ℕ → ℕ → ℕ) (low : ℕ → ℕ) (task : Task) (column : List ℕ) (last : ℕ) : Type 0 where
  pub costs : Costs err low task.segments task.runs
  pub rows : last ≡ filled_rows task.bound (λ k. least err low k task.segments) task.segments task.runs
  pub errors : (k : ℕ) → k ≤ last → Stands (get_or column k 0) (least err low k task.segments)
