-- The places of the table as its rows are filled, each from the last cell to the first, the cuts weighed on the way, and where the
-- filling stops. Assumes nothing.
use Prim.Native.Nat.{ℕ, suc, ◌+◌, ◌-◌, ◌*◌, ◌/◌, ◌%◌, ◌≤◌, ◌<◌}
use mathlib.Core.Bool.{Bool, true, false, ◌&&◌}
use mathlib.Core.Path.{◌≡◌, refl, sym, ap, ◌∙◌}
use native.Mathlib.Decide.{ℕ_discrete, dec_le}
use native.Mathlib.Nat.{add-zero}
use native.Mathlib.Numerals.{add-one}
use native.Mathlib.Omega.{arith}
use lib.Dec.{leb}
use borrow.Author.Tests.{leb-true, le-leb, lt-leb}
use Rattle.model.specs.Common.{sum_from}
use Rattle.model.specs.Split.{cell, weighed, table_place}
use Rattle.theory.proofs.Bounds.{mul_le}
use Rattle.theory.proofs.Sums.{sum_from_snoc, sum_from-append}
use Rattle.theory.proofs.Choice.{weighed_le}
use Rattle.theory.proofs.Tests.{cases, and-true}
use Rattle.choice.specs.Bounds.{stop_row}
use Rattle.table.proofs.Scan.{cell_short}

module _ (err : ℕ → ℕ → ℕ) (low : ℕ → ℕ) (n : ℕ) where
  -- ---- the places

  -- a place that is not filled, or has no cut
  place_none : (K x : ℕ) → (suc (x / 256) ≤ K → x % 256 ≤ n → (cell err low (suc (x / 256)) (x % 256)).cut ≡ 0)
      → table_place err low K n x ≡ 0
  unfolding table_place
  place_none K x h =
      cases (leb (suc (x / 256)) K && leb (x % 256) n)
      (λ e.
      let (row, inside) = and-true (leb (suc (x / 256)) K) (leb (x % 256) n) e in
      rw e (h (leb-true _ _ row) (leb-true _ _ inside)))
      (λ e. rw e)

  -- the first row has no cuts
  pub place_first : (x : ℕ) → 0 ≡ table_place err low 1 n x
  unfolding cell
  place_first x =
      sym (place_none 1 x
      (λ row inside.
      let one : suc (x / 256) ≡ 1 = omega arith in
      rw one))

  -- no row has a cut past the last segment
  pub place_out : (k K x : ℕ) → n < x % 256 → table_place err low k n x ≡ table_place err low K n x
  place_out k K x far =
      place_none k x (λ row inside. absurd (omega arith)) ∙ sym (place_none K x (λ row inside. absurd (omega arith)))

  -- row k changes no place of another row
  pub place_other : (k x : ℕ) → 1 ≤ k → (suc (x / 256) ≡ k → ⊥) → table_place err low (k - 1) n x ≡ table_place err low k n x
  unfolding table_place
  place_other k x first other =
      elim (dec_le (suc (x / 256)) k) [
        | yes le ↦ rw (le-leb (suc (x / 256)) k le, le-leb (suc (x / 256)) (k - 1) (omega arith))
        | no far ↦ rw (lt-leb (suc (x / 256)) k (omega arith), lt-leb (suc (x / 256)) (k - 1) (omega arith))
      ]

  -- nor one of its own before cell k
  pub place_short : (k x : ℕ) → 1 ≤ k → x % 256 < k → table_place err low (k - 1) n x ≡ table_place err low k n x
  place_short k x first short =
      elim (ℕ_discrete (suc (x / 256)) k) [
        | yes same ↦
            place_none (k - 1) x (λ row inside. absurd (omega arith))
            ∙ sym (place_none k x (λ row inside. cell_short err low (suc (x / 256)) (x % 256) (omega arith)))
        | no other ↦ place_other k x first other
      ]

  -- the place of cell (k,i)
  pub place_here : (k i : ℕ) → 1 ≤ k → i ≤ n → n ≤ 255 → (cell err low k i).cut ≡ table_place err low k n ((k - 1) * 256 + i)
  unfolding table_place
  place_here k i first inside few =
      let row : suc (((k - 1) * 256 + i) / 256) ≡ k = omega arith in
      let place : ((k - 1) * 256 + i) % 256 ≡ i = omega arith in
      rw (row, place, le-leb k k (omega arith), le-leb i n inside)

  -- ---- the cuts weighed: of the rows before k, and of row k from cell i on

  unfoldable pub weighed_from : ℕ → ℕ → ℕ
  weighed_from k i = weighed err low (k - 1) n + sum_from i (suc n - i) (λ x. (cell err low k x).tried)

  pub weighed_start : 0 ≡ weighed err low 1 n
  unfolding weighed sum_from
  weighed_start = refl

  pub weighed_row : (k : ℕ) → weighed err low k n ≡ weighed_from (k + 1) (n + 1)
  unfolding weighed_from sum_from
  weighed_row k =
      let row : k + 1 - 1 ≡ k = omega arith in
      let none_yet : suc n - (n + 1) ≡ 0 = omega arith in
      rw (row, none_yet) (sym (add-zero _))

  -- one cell more
  pub weighed_cell : (k i : ℕ) → 0 < i → i ≤ n + 1 → weighed_from k i + (cell err low k (i - 1)).tried ≡ weighed_from k (i - 1)
  unfolding weighed_from sum_from
  weighed_cell k i lo hi =
      let size : suc n - (i - 1) ≡ suc (suc n - i) = omega arith in
      let next : suc (i - 1) ≡ i = omega arith in
      rw (size, next) (omega arith)

  pub weighed_end : (k : ℕ) → 2 ≤ k → weighed_from k k ≡ weighed err low k n
  unfolding weighed_from weighed
  weighed_end k le =
      let size : k - 1 ≡ suc (k - 1 - 1) = omega arith in
      let here : 2 + (k - 1 - 1) ≡ k = omega arith in
      let more =
      rw here at (sum_from_snoc 2 (k - 1 - 1) (λ y. sum_from y (suc n - y) (λ x. (cell err low y x).tried))) in
      sym (ap (λ (c : ℕ). sum_from 2 c (λ y. sum_from y (suc n - y) (λ x. (cell err low y x).tried))) size ∙ more)

  -- the count fits
  pub weighed_small : (k i : ℕ) → 2 ≤ k → k ≤ 64 → n ≤ 255 → k ≤ i → i ≤ n + 1 → weighed_from k i ≤ 2040255
  unfolding weighed_from
  weighed_small k i ge le few from to =
      let all = weighed_le err low k n in
      let most = mul_le {a = k - 1} {b = 63} {c = n * (n - 1)} {d = 255 * 254} (omega arith) (mul_le {a = n} {b = 255} {c = n - 1} {d = 254} few (omega arith)) in
      let size : (i - k) + (suc n - i) ≡ suc n - k = omega arith in
      let here : k + (i - k) ≡ i = omega arith in
      let parts = rw (size, here) at (sum_from-append k (i - k) (suc n - i) (λ x. (cell err low k x).tried)) in
      omega (arith, weighed_end k ge)

-- ---- where the filling stops

module _ (test : ℕ → Bool) (k last : ℕ) where
  pub stop_on : k < last → test k ≡ false → stop_row test k (last - k) ≡ stop_row test (k + 1) (last - (k + 1))
  unfolding stop_row
  stop_on lt e =
      let size : last - k ≡ suc (last - (k + 1)) = omega arith in
      rw (size, e, add-one)

  pub stop_met : k < last → test k ≡ true → stop_row test k (last - k) ≡ k
  unfolding stop_row
  stop_met lt e =
      let size : last - k ≡ suc (last - (k + 1)) = omega arith in
      rw (size, e)

  pub stop_end : last ≤ k → stop_row test k (last - k) ≡ k
  unfolding stop_row
  stop_end le =
      let size : last - k ≡ 0 = omega arith in
      rw size
