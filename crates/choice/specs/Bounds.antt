-- What a bound asks of the errors of all segments by the number of rows, `e`, over n segments in m runs.
use Rattle.std.specs.Prelude as std
use Rattle.std.specs.Prelude.{Some, ℕ, zero, suc, ◌-◌, ◌*◌, ◌≤◌, ◌<◌, min, Bool, true, false, ◌&&◌, cond, List, ◌≡◌, leb, get_or}
use native.Mathlib.Bridge.{le_prop}
use Rattle.std.specs.Bool.{then_some}
use Rattle.std.proofs.Math.Option.{Option}
use Rattle.model.specs.Split.{within, fewest, most_rows}
use Rattle.model.specs.Room.{most_error}
use Rattle.model.specs.declared.Bound.{Bound}
use Rattle.model.specs.declared.Bound.TheVariants.{Rows, Share}
use Rattle.choice.specs.Errors.{error_in}

-- a row limit or a share within the paper's range
unfoldable pub Known : Bound → Type 0
Known (Rows c) = c ≤ 64
Known (Share p) = p ≤ 1000

pub known-prop : (bound : Bound) → IsProp (Known bound)
unfolding Known
known-prop (Rows c) = le_prop
known-prop (Share p) = le_prop

-- a row limit leaves a row for each run
unfoldable pub covers_runs : Bound → ℕ → Bool
covers_runs (Rows c) m = leb m c
covers_runs (Share p) m = true

-- the last of the table's rows that may be tried
unfoldable pub last_row : Bound → ℕ → ℕ
last_row (Rows c) n = min c n
last_row (Share p) n = min most_rows n

-- k rows meet the bound's share
unfoldable pub meets : Bound → (ℕ → Option ℕ) → ℕ → ℕ → Bool
meets (Rows c) e m k = false
meets (Share p) e m k = within p (e m) (e k)

-- the first number from k on that passes the test, or the last one
unfoldable pub stop_row : (ℕ → Bool) → ℕ → ℕ → ℕ
stop_row test k zero = k
stop_row test k (suc count) =
    let rest = stop_row test (suc k) count in
    cond (test k) k rest

-- the rows of the table that are filled for a bound
unfoldable pub filled_rows : Bound → (ℕ → Option ℕ) → ℕ → ℕ → ℕ
filled_rows bound e n m = stop_row (meets bound e m) 1 (last_row bound n - 1)

-- the same test on a column of errors
unfoldable pub meets_in : Bound → List ℕ → ℕ → ℕ → Bool
meets_in (Rows c) column m k = false
meets_in (Share p) column m k = leb m k && leb (get_or column k 0 * 1000) (p * get_or column m 0)

-- the column holds errors where the test looks
pub record Comparable (bound : Bound) (column : List ℕ) (m k : ℕ) : Type 0 where
  pub known : Known bound
  pub places : k < 65
  pub here : m ≤ k → get_or column k 0 ≤ most_error
  pub there : m ≤ k → get_or column m 0 ≤ most_error

-- the number of rows that answers the bound, if any does, by a column that is filled to `last`
unfoldable pub choice_in : Bound → List ℕ → ℕ → ℕ → std.Option ℕ
choice_in (Rows c) column m last = Some (fewest (λ k. error_in (get_or column k 0)) last)
choice_in (Share p) column m last = then_some (meets_in (Share p) column m last) last
