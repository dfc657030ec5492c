-- A table sees no more of errors and gaps than those of blocks that cross no gap: accounts of them that agree there give the same
-- cells, cuts and cuts weighed, and what is asked of the one holds of the other. Assumes nothing.
use Prim.Native.Nat.{ℕ, zero, suc, ◌+◌, ◌-◌, ◌≤◌, ◌<◌, zero-le, max}
use mathlib.Core.Bool.{cond}
use mathlib.Core.List.{List, [], ◌∷◌}
use mathlib.Core.Option.{Option}
use mathlib.Core.Path.{◌≡◌, refl, sym, ap, ◌∙◌, fun_ext}
use native.Mathlib.Omega.{arith}
use lib.Dec.{eqb}
use borrow.Author.Tests.{eqb-true}
use Rattle.model.specs.Split.{Best, untried, plus, below, exceeds, weigh, scan, single, cell, least, weighed, cuts_of, chosen}
use Rattle.model.specs.Reductions.{IsReduction}
use Rattle.theory.proofs.Tests.{cases}
use Rattle.theory.proofs.Sums.{sum_from_cong}
use Rattle.triangle.specs.Places.{Agree}
use Rattle.triangle.specs.Costs.{Costs}

-- ---- a scan

scan_cong : (prev prev' : ℕ → Option ℕ) (er er' : ℕ → ℕ) (low left : ℕ) (best : Best)
    → ((j : ℕ) → low ≤ j → j < low + left → (prev j ≡ prev' j) × (er j ≡ er' j))
    → scan prev er low left best ≡ scan prev' er' low left best
unfolding scan
scan_cong prev prev' er er' low zero best same = refl
scan_cong prev prev' er er' low (suc left) best same =
    let (before, here) = same (low + left) (omega arith) (omega arith) in
    rw (before, here)
    (ap (cond (exceeds (er' (low + left)) (weigh best (plus (prev' (low + left)) (er' (low + left))) (low + left)).total) (weigh best (plus (prev' (low + left)) (er' (low + left))) (low + left)))
    (scan_cong prev prev' er er' low left (weigh best (plus (prev' (low + left)) (er' (low + left))) (low + left)) (λ j lo hi. same j lo (omega arith))))

-- ---- the cut of a cell

-- the cut is that of the best so far or that of the candidate
pub weigh_cut : (b : Best) (t : Option ℕ) (j top : ℕ) → b.cut < top → j < top → (weigh b t j).cut < top
unfolding weigh
weigh_cut b t j top h lt = cases (below t b.total) (λ e. rw e lt) (λ e. rw e h)

scan_cut : (prev : ℕ → Option ℕ) (er : ℕ → ℕ) (low left top : ℕ) (best : Best) → best.cut < top → low + left ≤ top
    → (scan prev er low left best).cut < top
unfolding scan
scan_cut prev er low zero top best lt room = lt
scan_cut prev er low (suc left) top best lt room =
    let next : Best = weigh best (plus (prev (low + left)) (er (low + left))) (low + left) in
    let here = weigh_cut best (plus (prev (low + left)) (er (low + left))) (low + left) top lt (omega arith) in
    cases (exceeds (er (low + left)) next.total) (λ e. rw e here)
    (λ e. rw e (scan_cut prev er low left top next here (omega arith)))

cut_le : (err : ℕ → ℕ → ℕ) (low : ℕ → ℕ) (k i : ℕ) → (cell err low k i).cut ≤ i
unfolding cell untried scan
cut_le err low zero i = zero-le
cut_le err low (suc zero) i = zero-le
cut_le err low (suc (suc k)) i =
    by (i - max (suc k) (low i)) refl
  where
    by : (left : ℕ) → left ≡ i - max (suc k) (low i)
        → (scan (λ j. (cell err low (suc k) j).total) (λ j. err j i) (max (suc k) (low i)) left untried).cut ≤ i
    by zero e = zero-le
    by (suc left) e =
        let lt = scan_cut (λ j. (cell err low (suc k) j).total) (λ j. err j i) (max (suc k) (low i)) (suc left) (suc i) untried (omega arith) (omega arith) in
        omega arith

-- ---- cells

module _ {err err' : ℕ → ℕ → ℕ} {low low' : ℕ → ℕ} {n : ℕ} (same : Agree err low err' low' n) where
  single_cong : (i : ℕ) → i ≤ n → single err low i ≡ single err' low' i
  unfolding single
  single_cong zero le = refl
  single_cong (suc i) le =
      cases (eqb (low' (suc i)) 0)
      (λ e.
      let none_below = eqb-true (low' (suc i)) 0 e in
      let gap = same.gaps (suc i) le in
      rw (gap, e, same.errors 0 (suc i) (omega arith) (omega arith) le))
      (λ e. rw (same.gaps (suc i) le, e))

  pub cell_cong : (k i : ℕ) → i ≤ n → cell err low k i ≡ cell err' low' k i
  unfolding cell
  cell_cong zero i le = refl
  cell_cong (suc zero) i le = rw (single_cong i le)
  cell_cong (suc (suc k)) i le =
      rw (← same.gaps i le)
      (scan_cong _ _ _ _ (max (suc k) (low i)) (i - max (suc k) (low i)) untried
      (λ j lo hi. (ap (λ (b : Best). b.total) (cell_cong (suc k) j (omega arith)), same.errors j i (omega arith) (omega arith) le)))

  pub least_cong : (k i : ℕ) → i ≤ n → least err low k i ≡ least err' low' k i
  unfolding least
  least_cong k i le = ap (λ (b : Best). b.total) (cell_cong k i le)

  pub cuts_cong : (k i : ℕ) → i ≤ n → cuts_of err low k i ≡ cuts_of err' low' k i
  unfolding cuts_of
  cuts_cong zero i le = refl
  cuts_cong (suc k) i le =
      rw (cell_cong (suc k) i le)
      (ap (λ (l : List ℕ). (cell err' low' (suc k) i).cut ∷ l)
      (cuts_cong k (cell err' low' (suc k) i).cut (omega (arith, cut_le err' low' (suc k) i))))

  pub weighed_cong : (K : ℕ) → weighed err low K n ≡ weighed err' low' K n
  unfolding weighed
  weighed_cong K =
      sum_from_cong 2 (K - 1) _ _
      (λ k lo hi. sum_from_cong k (suc n - k) _ _ (λ i lo' hi'. ap (λ (b : Best). b.tried) (cell_cong k i (omega arith))))

  -- the errors of all segments by the number of rows
  pub column_cong : ◌≡◌ {A = ℕ → Option ℕ} (λ k. least err low k n) (λ k. least err' low' k n)
  column_cong = fun_ext (λ k. least_cong k n (omega arith))

-- ---- what is asked of them

-- a reduction goes by the gaps of its blocks only
reduction_cong : (low low' : ℕ → ℕ) (n : ℕ) → ((i : ℕ) → i ≤ n → low i ≡ low' i) → (i : ℕ) (cuts : List ℕ) → i ≤ n
    → IsReduction low' i cuts → IsReduction low i cuts
reduction_cong low low' n same i [] le is = is
reduction_cong low low' n same i (j ∷ js) le is =
    let (lt, above, rest) = is in
    let gap = same i le in
    (lt, omega arith, reduction_cong low low' n same j js (omega arith) rest)

pub costs_cong : {err err' : ℕ → ℕ → ℕ} {low low' : ℕ → ℕ} {n m : ℕ} → Agree err low err' low' n → Costs err' low' n m
    → Costs err low n m
costs_cong {err} {err'} {low} {low'} {n} {m} same costs =
    record {
      few = costs.few;
      gap_below = λ i lo le. rw (same.gaps i le) (costs.gap_below i lo le);
      block_le = λ j i above lt le.
          let gap = same.gaps i le in
          rw (same.errors j i above lt le) (costs.block_le j i (omega arith) lt le);
      least_le = λ k i t le e. costs.least_le k i t le (sym (least_cong same k i le) ∙ e);
      possible = λ k lo hi. let (t, e) = costs.possible k lo hi in (t, least_cong same k n (omega arith) ∙ e);
      needed = λ k t e. costs.needed k t (sym (least_cong same k n (omega arith)) ∙ e);
      sound = λ k t e.
          reduction_cong low low' n same.gaps n (cuts_of err low k n) (omega arith)
          (rw (cuts_cong same k n (omega arith)) (costs.sound k t (sym (least_cong same k n (omega arith)) ∙ e)));
      answers = λ bound k e.
          let (t, is) = costs.answers bound k (sym (ap (λ (c : ℕ → Option ℕ). chosen bound c n m) (column_cong same)) ∙ e) in
          (t, least_cong same k n (omega arith) ∙ is);
    }
