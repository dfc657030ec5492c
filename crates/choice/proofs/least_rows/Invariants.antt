-- `best` is the answer for the numbers of rows that were looked at. Assumes nothing.
use Rattle.std.specs.Prelude.{◌≡◌, ◌+◌, ◌-◌, ◌≤◌, ◌<◌, get_or}
use Rattle.model.specs.Split.{fewest}
use Rattle.choice.specs.Errors.{error_in}
use Rattle.choice.proofs.least_rows.Given as goal

abbrev pub invariant-loop-k : goal.invariant-loop-k
invariant-loop-k l = record {
  to : l.k ≤ l.last + 1;
  below : l.best < l.k;
  so_far : l.best ≡ fewest (λ x. error_in (get_or l.column x 0)) (l.k - 1);
}
