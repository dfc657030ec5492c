-- The errors of all segments by the number of rows: which numbers of rows have one, and that a share is met in the column that holds
-- them where the definition says so. Assumes nothing.
use Prim.Native.Nat.{ℕ, ◌≤◌, ◌<◌}
use mathlib.Core.Bool.{false}
use mathlib.Core.List.{List}
use mathlib.Core.Option.{Option, none, some}
use mathlib.Core.Path.{◌≡◌, refl, ◌∙◌}
use native.Mathlib.Decide.{dec_le}
use native.Mathlib.Omega.{arith}
use lib.ListN.{get_or}
use borrow.Author.Tests.{le-leb, lt-leb}
use Rattle.model.specs.Split.{least, within}
use Rattle.model.specs.declared.Bound.{Bound}
use Rattle.model.specs.declared.Bound.TheVariants.{Rows, Share}
use Rattle.model.specs.Room.{most_error}
use Rattle.triangle.specs.Costs.{Costs}
use Rattle.choice.specs.Errors.{error_in}
use Rattle.choice.specs.Bounds.{Known, meets, meets_in, Comparable}
use Rattle.choice.proofs.Errors.{held}

-- the errors of all segments by the number of rows
abbrev pub by_rows : (ℕ → ℕ → ℕ) → (ℕ → ℕ) → ℕ → ℕ → Option ℕ
by_rows err low n k = least err low k n

module _ {err : ℕ → ℕ → ℕ} {low : ℕ → ℕ} {n m : ℕ} (costs : Costs err low n m) where
  -- a number of rows below that of runs or above that of segments has none
  pub no_error_lem : (k : ℕ) → (m ≤ k → k ≤ n → ⊥) → by_rows err low n k ≡ none
  no_error_lem k out = by (by_rows err low n k) refl
    where
      by : (o : Option ℕ) → by_rows err low n k ≡ o → o ≡ none
      by none e = refl
      by (some t) e = let (lo, hi) = costs.needed k t e in absurd (out lo hi)

  -- ---- the column of errors

  module _ (column : List ℕ) (k : ℕ) (column_at : (x : ℕ) → x ≤ k → error_in (get_or column x 0) ≡ by_rows err low n x) (inside : k ≤ n) where
    -- the column holds a number
    number : (x : ℕ) → m ≤ x → x ≤ k → (t : ℕ) × (by_rows err low n x ≡ some t) × (get_or column x 0 ≡ t) × (t ≤ most_error)
    number x lo hi =
        let (t, e) = costs.possible x lo (omega arith) in
        (t, e, held _ t (column_at x hi ∙ e), costs.least_le x n t (omega arith) e)

    pub comparable : (bound : Bound) → Known bound → k < 65 → Comparable bound column m k
    comparable bound known room =
        record {
          known = known;
          places = room;
          here = λ le. let (t, e, is, small) = number k le (omega arith) in omega arith;
          there = λ le. let (t, e, is, small) = number m (omega arith) le in omega arith;
        }

    pub meets_column : (bound : Bound) → meets_in bound column m k ≡ meets bound (by_rows err low n) m k
    unfolding meets_in meets within
    meets_column (Rows c) = refl
    meets_column (Share p) =
        elim (dec_le m k) [
          | yes le ↦
              (let (t, e, is, small) = number k le (omega arith) in
              let (u, f, is', small') = number m (omega arith) le in
              rw (le-leb m k le, is, is', e, f))
          | no far ↦
              rw (lt-leb m k (omega arith), no_error_lem k (λ lo hi. omega arith)) (none_met (by_rows err low n m))
        ]
      where
        none_met : (o : Option ℕ) → false ≡ within p o none
        none_met none = refl
        none_met (some u) = refl
