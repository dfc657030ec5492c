-- The read-back: the cuts that a filled table holds are the definition's, and they are stored the first one first. Assumes nothing.
use Prim.Native.Nat.{ℕ, zero, suc, ◌+◌, ◌-◌, ◌*◌, ◌/◌, ◌%◌, ◌≤◌, ◌<◌}
use mathlib.Core.List.{List, ◌∷◌, ◌++◌}
use mathlib.Core.Path.{◌≡◌, refl, sym, ap, ap₂, ◌∙◌}
use native.Mathlib.Omega.{arith}
use lib.ListN.{length, get_or, set, drop, length-set}
use lib.Seq.{get_or-set_same, drop-set-lt, drop-cons, append_snoc}
use borrow.Author.Tests.{le-leb}
use Rattle.model.specs.Split.{cell, cuts_of, table_place}
use Rattle.model.specs.Reductions.{IsReduction}
use Rattle.cuts.specs.Held.{cuts_in, ascending, Readable}

-- ---- one cut

module _ (table : List ℕ) (k i : ℕ) (some-row : k ≡ 0 → ⊥) where
  pub readable_cut : Readable table k i
      → (get_or table ((k - 1) * 256 + i) 0 < i) × Readable table (k - 1) (get_or table ((k - 1) * 256 + i) 0)
  unfolding Readable
  readable_cut = by k some-row
    where
      by : (k : ℕ) → (k ≡ 0 → ⊥) → Readable table k i
          → (get_or table ((k - 1) * 256 + i) 0 < i) × Readable table (k - 1) (get_or table ((k - 1) * 256 + i) 0)
      by zero ne h = absurd (ne refl)
      by (suc k) ne h =
          let back : suc k - 1 ≡ k = omega arith in
          rw back h

  cuts_cons : cuts_in table k i ≡ get_or table ((k - 1) * 256 + i) 0 ∷ cuts_in table (k - 1) (get_or table ((k - 1) * 256 + i) 0)
  unfolding cuts_in
  cuts_cons = by k some-row
    where
      by : (k : ℕ) → (k ≡ 0 → ⊥)
          → cuts_in table k i ≡ get_or table ((k - 1) * 256 + i) 0 ∷ cuts_in table (k - 1) (get_or table ((k - 1) * 256 + i) 0)
      by zero ne = absurd (ne refl)
      by (suc k) ne =
          let back : suc k - 1 ≡ k = omega arith in
          rw back

  -- the cuts of the blocks before, with the last block's cut behind them
  pub cuts_step : (i' : ℕ) (cuts r : List ℕ) → k - 1 < length cuts → i' ≡ get_or table ((k - 1) * 256 + i) 0
      → r ≡ ascending (cuts_in table (k - 1) i') ++ drop (k - 1) (set cuts (k - 1) (get_or table ((k - 1) * 256 + i) 0))
      → r ≡ ascending (cuts_in table k i) ++ drop k cuts
  unfolding ascending
  cuts_step i' cuts r room is now =
      let cut : ℕ = get_or table ((k - 1) * 256 + i) 0 in
      let next : suc (k - 1) ≡ k = omega arith in
      let one : drop (k - 1) (set cuts (k - 1) cut) ≡ cut ∷ drop k cuts =
      drop-cons (set cuts (k - 1) cut) (k - 1) cut (rw length-set room)
      ∙ rw next (ap₂ {C = List ℕ} ◌∷◌ (get_or-set_same cuts (k - 1) cut cut room) (drop-set-lt k cuts (k - 1) cut (omega arith))) in
      now ∙ rw (one, is, cuts_cons) (sym (append_snoc (ascending (cuts_in table (k - 1) cut)) cut (drop k cuts)))

-- ---- the cuts of a filled table

module _ (err : ℕ → ℕ → ℕ) (low : ℕ → ℕ) (K n : ℕ) (table : List ℕ) (rows : K ≤ 64) (few : n ≤ 255) (filled : (x : ℕ) → x < 16384 → get_or table x 0 ≡ table_place err low K n x) where
  entry : (k i : ℕ) → k < K → i ≤ n → get_or table (k * 256 + i) 0 ≡ (cell err low (suc k) i).cut
  unfolding table_place
  entry k i lt le =
      let row : (k * 256 + i) / 256 ≡ k = omega arith in
      let place : (k * 256 + i) % 256 ≡ i = omega arith in
      filled (k * 256 + i) (omega arith) ∙ rw (row, place, le-leb (suc k) K lt, le-leb i n le)

  -- the table's read-back is the definition's, and can be read
  pub read_filled : (k i : ℕ) → k ≤ K → i ≤ n → IsReduction low i (cuts_of err low k i)
      → (cuts_in table k i ≡ cuts_of err low k i) × Readable table k i
  unfolding cuts_in cuts_of Readable
  read_filled zero i le in_range is = (refl, tt)
  read_filled (suc k) i le in_range is =
      let (cut_below, above, rest) = is in
      let (same, readable) = read_filled k (cell err low (suc k) i).cut (omega arith) (omega arith) rest in
      rw (entry k i le in_range) (ap (λ (l : List ℕ). (cell err low (suc k) i).cut ∷ l) same, (cut_below, readable))
