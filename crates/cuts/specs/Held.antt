-- What a filled split table holds, and the reduction that is read back from it.
use Rattle.std.specs.Prelude as std
use Rattle.std.specs.Prelude.{Some, None, ℕ, zero, suc, ◌+◌, ◌*◌, ◌<◌, List, [], ◌∷◌, ◌++◌, ◌≡◌, get_or, drop}
use Rattle.std.proofs.Math.Option
use Rattle.std.proofs.Math.Option.{none, some}
use Rattle.model.specs.Split.{least, cuts_of, weighed, table_place, chosen, rows_tried}
use Rattle.model.specs.declared.Bound.{Bound}
use Rattle.choice.specs.Columns.{FilledColumn}
use Rattle.choice.specs.declared.Task.{Task}
use Rattle.cuts.specs.declared.Reduction.{Reduction}

-- the cuts of k blocks of the first i segments that a table holds, the last one first
unfoldable pub cuts_in : List ℕ → ℕ → ℕ → List ℕ
cuts_in table zero i = []
cuts_in table (suc k) i = get_or table (k * 256 + i) 0 ∷ cuts_in table k (get_or table (k * 256 + i) 0)

-- each of these cuts is below the one after it, and the last one is below i
unfoldable pub Readable : List ℕ → ℕ → ℕ → Type 0
Readable table zero i = Unit {0}
Readable table (suc k) i = (get_or table (k * 256 + i) 0 < i) × Readable table k (get_or table (k * 256 + i) 0)

-- such cuts in their order: the first one first
unfoldable pub ascending : List ℕ → List ℕ
ascending [] = []
ascending (j ∷ js) = ascending js ++ (j ∷ [])

-- a filled table: its places, the errors of all segments in 0 to `last` rows, and the cuts weighed
pub record Fills (err : ℕ → ℕ → ℕ) (low : ℕ → ℕ) (task : Task) (table column : List ℕ) (last tried : ℕ) : Type 0 where
  pub filled : FilledColumn err low task column last
  pub places : (x : ℕ) → x < 16384 → get_or table x 0 ≡ table_place err low last task.segments x
  pub weighed : tried ≡ weighed err low last task.segments

-- the reduction of n segments in m runs that answers a bound, if there is one
unfoldable pub reduction_for : (ℕ → ℕ → ℕ) → (ℕ → ℕ) → ℕ → ℕ → Bound → std.Option Reduction
reduction_for err low n m bound =
    elim (chosen bound (λ k. least err low k n) n m) [
      | none ↦ None
      | some k ↦
          Some (record {
            count = k;
            error = Option.get_or (least err low k n) 0;
            weighed = weighed err low (rows_tried bound n k) n;
          })
    ]

-- what a lent list of cuts holds then: the first segment of each block, in order, and behind them what it held
unfoldable pub cuts_for : (ℕ → ℕ → ℕ) → (ℕ → ℕ) → ℕ → ℕ → Bound → List ℕ → List ℕ
cuts_for err low n m bound cuts =
    elim (chosen bound (λ k. least err low k n) n m)
    [ none ↦ cuts | some k ↦ ascending (cuts_of err low k n) ++ drop k cuts ]
