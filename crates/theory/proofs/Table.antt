-- The split table holds the least errors and the latest cuts: of all reductions of the first i segments to exactly k rows,
-- the read-back is one of least error, and of these the latest. `err` may be any block error that does not fall as a block
-- is widened, and `low` any function. Assumes nothing.
use Prim.Native.Nat.{ℕ, zero, suc, ◌+◌, ◌-◌, ◌≤◌, ◌<◌, zero-le, max}
use mathlib.Core.Bool.{true}
use mathlib.Core.List.{List, [], ◌∷◌}
use mathlib.Core.Logic.{inl, inr}
use mathlib.Core.Option.{Option, none, some}
use mathlib.Core.Path.{◌≡◌, refl, sym, ap, ◌∙◌, subst}
use native.Mathlib.Decide.{ℕ_discrete, dec_le}
use native.Mathlib.Nat.{add-zero, zero-add, add-suc}
use native.Mathlib.Omega.{arith}
use lib.Dec.{ltb, eqb}
use lib.ListN.{length}
use borrow.Author.Tests.{ltb-true, ltb-false, eqb-true, eq-eqb}
use Rattle.model.specs.Split.{Best, untried, plus, below, exceeds, weigh, scan, single, cell, least, cuts_of}
use Rattle.model.specs.Reductions.{IsReduction, reduction_error, NotEarlier}
use Rattle.theory.proofs.Tests.{cases, true≢false}
pub use Rattle.theory.proofs.Tests.{none≢some, some_inj}

-- ---- one scan

-- b is best among the candidates from `from` up to `top`: its total is its cut's, no candidate has a smaller one, and none
-- that is later has as small a one
record Sought (tot : ℕ → Option ℕ) (from top : ℕ) (b : Best) : Type 0 where
  found : (t : ℕ) → b.total ≡ some t → (tot b.cut ≡ some t) × (from ≤ b.cut) × (b.cut < top)
  best : (j u : ℕ) → from ≤ j → j < top → tot j ≡ some u
      → (t : ℕ) × (b.total ≡ some t) × (t ≤ u) × (u ≤ t → j ≤ b.cut)

plus_some : (o : Option ℕ) (e t : ℕ) → plus o e ≡ some t → (s : ℕ) × (o ≡ some s) × (t ≡ s + e)
unfolding plus
plus_some none e t h = absurd (none≢some {o = none} refl h)
plus_some (some s) e t h = (s, refl, some_inj h refl)

plus_of : (o : Option ℕ) (e s : ℕ) → o ≡ some s → plus o e ≡ some (s + e)
unfolding plus
plus_of o e s h = rw h

-- a candidate below those sought so far is tried
module _ (tot : ℕ → Option ℕ) (j top : ℕ) (lt : j < top) where
  weigh_sought : (b : Best) → Sought tot (suc j) top b → Sought tot j top (weigh b (tot j) j)
  unfolding weigh below
  weigh_sought b s = by (tot j) refl b.total refl
    where
      -- the candidate replaces the best
      taken : (u : ℕ) → tot j ≡ some u → ((t : ℕ) → b.total ≡ some t → u < t)
          → Sought tot j top (record { total = tot j; cut = j; tried = suc b.tried })
      taken u e smaller =
          record {
            found = λ t h. (h, omega arith, lt);
            best = λ i v a l h.
                elim (ℕ_discrete i j) [
                  | yes q ↦ (v, subst (λ (x : ℕ). tot x ≡ some v) q h, omega arith, λ k. omega arith)
                  | no q ↦
                      (let r = s.best i v (omega arith) l h in
                      let w = smaller r.0 r.1 in
                      (u, e, omega arith, λ k. absurd (omega arith)))
                ];
          }

      -- the best stays
      kept : ((u : ℕ) → tot j ≡ some u → (t : ℕ) × (b.total ≡ some t) × (t ≤ u))
          → Sought tot j top (record { total = b.total; cut = b.cut; tried = suc b.tried })
      kept larger =
          record {
            found = λ t h. let r = s.found t h in (r.0, omega arith, r.2);
            best = λ i v a l h.
                elim (ℕ_discrete i j) [
                  | yes q ↦
                      (let r = larger v (subst (λ (x : ℕ). tot x ≡ some v) q h) in
                      let f = s.found r.0 r.1 in
                      (r.0, r.1, r.2, λ k. omega arith))
                  | no q ↦ s.best i v (omega arith) l h
                ];
          }

      by : (o : Option ℕ) → tot j ≡ o → (p : Option ℕ) → b.total ≡ p → Sought tot j top (weigh b (tot j) j)
      by none e p f = rw e (kept (λ u h. absurd (none≢some e h)))
      by (some u) e none f =
          rw (e, f) (rw e at (taken u e (λ t h. absurd (none≢some f h))))
      by (some u) e (some t) f =
          cases (ltb u t)
          (λ q. rw (e, f, q) (rw e at (taken u e (λ v h. rw (some_inj f h) at (ltb-true u t q)))))
          (λ q. rw (e, f, q) (rw f at (kept (λ v h. (t, f, rw (some_inj e h) at (ltb-false u t q))))))

exceeds_true : (e : ℕ) (o : Option ℕ) → exceeds e o ≡ true → (t : ℕ) × (o ≡ some t) × (t < e)
unfolding exceeds
exceeds_true e none h = absurd (true≢false (sym h))
exceeds_true e (some t) h = (t, refl, ltb-true t e h)

-- a scan that goes down to `from`: the candidates that an early exit leaves out cost more than the best by their block alone
module _ (prev : ℕ → Option ℕ) (er : ℕ → ℕ) (from top : ℕ) (wide : (i j : ℕ) → i ≤ j → from ≤ j → j < top → er j ≤ er i) where
  abbrev total_of : ℕ → Option ℕ
  total_of j = plus (prev j) (er j)

  leave : (j : ℕ) → from ≤ j → j < top → (b : Best) → Sought total_of j top b → exceeds (er j) b.total ≡ true
      → Sought total_of from top b
  leave j le lt b s e =
      let x = exceeds_true (er j) b.total e in
      record {
        found = λ t h. let r = s.found t h in (r.0, omega arith, r.2);
        best = λ i u a l h.
            elim (dec_le j i) [
              | yes q ↦ s.best i u q l h
              | no q ↦
                  (let p = plus_some (prev i) (er i) u h in
                  let w = wide i j (omega arith) le lt in
                  (x.0, x.1, omega arith, λ k. omega arith))
            ];
      }

  scan_sought : (left : ℕ) → from + left ≤ top → (b : Best) → Sought total_of (from + left) top b
      → Sought total_of from top (scan prev er from left b)
  unfolding scan
  scan_sought zero le b s = rw add-zero at s
  scan_sought (suc left) le b s =
      let next : Best = weigh b (total_of (from + left)) (from + left) in
      let s' : Sought total_of (from + left) top next =
      weigh_sought total_of (from + left) top (omega arith) b (rw add-suc at s) in
      cases (exceeds (er (from + left)) next.total)
      (λ e. rw e (leave (from + left) (omega arith) (omega arith) next s' e))
      (λ e. rw e (scan_sought left (omega arith) next s'))

-- ---- the cells

-- no block is empty, so there are at most as many blocks as segments
pub blocks_le : (low : ℕ → ℕ) (i : ℕ) (cuts : List ℕ) → IsReduction low i cuts → length cuts ≤ i
blocks_le low i [] h = zero-le
blocks_le low i (j ∷ js) h = let ih = blocks_le low j js h.2 in let lt = h.0 in omega arith

pub cuts_of-length : (err : ℕ → ℕ → ℕ) (low : ℕ → ℕ) (k i : ℕ) → length (cuts_of err low k i) ≡ k
unfolding cuts_of
cuts_of-length err low zero i = refl
cuts_of-length err low (suc k) i = ap suc (cuts_of-length err low k (cell err low (suc k) i).cut)

single_some : (err : ℕ → ℕ → ℕ) (low : ℕ → ℕ) (i e : ℕ) → single err low i ≡ some e
    → (0 < i) × (low i ≡ 0) × (err 0 i ≡ e)
unfolding single
single_some err low zero e h = absurd (none≢some {o = none} refl h)
single_some err low (suc i) e h =
    cases (eqb (low (suc i)) 0)
    (λ q. (omega arith, eqb-true _ _ q, some_inj refl (rw q at h)))
    (λ q. absurd (none≢some refl (rw q at h)))

single_of : (err : ℕ → ℕ → ℕ) (low : ℕ → ℕ) (i : ℕ) → 0 < i → low i ≡ 0 → single err low i ≡ some (err 0 i)
unfolding single
single_of err low zero lt h = absurd (omega arith)
single_of err low (suc i) lt h = rw h

module _ (err : ℕ → ℕ → ℕ) (low : ℕ → ℕ) (wider : (a b i : ℕ) → a ≤ b → b < i → err b i ≤ err a i) where
  -- the candidates of a cell of row k + 2
  abbrev lowest : ℕ → ℕ → ℕ
  lowest k i = max (suc k) (low i)

  abbrev weighs : ℕ → ℕ → ℕ → Option ℕ
  weighs k i j = plus (least err low (suc k) j) (err j i)

  sought : (k i : ℕ)
      → Sought (weighs k i) (lowest k i) (lowest k i + (i - lowest k i)) (cell err low (suc (suc k)) i)
  unfolding cell least untried
  sought k i =
      scan_sought (λ j. (cell err low (suc k) j).total) (λ j. err j i) (lowest k i) (lowest k i + (i - lowest k i))
      (λ a b le ge lt. wider a b i le (omega arith))
      (i - lowest k i) (omega arith) untried
      (record {
        found = λ t h. absurd (none≢some refl h);
        best = λ j u a l h. absurd (omega arith);
      })

  -- a number in a cell is the error of the cell's read-back
  pub sound : (k i e : ℕ) → least err low k i ≡ some e
      → IsReduction low i (cuts_of err low k i) × (reduction_error err i (cuts_of err low k i) ≡ e)
  unfolding least cell cuts_of reduction_error
  sound zero i e h =
      cases (eqb i 0)
      (λ q. (eqb-true _ _ q, some_inj {o = some 0} refl (rw q at h)))
      (λ q. absurd (none≢some refl (rw q at h)))
  sound (suc zero) i e h =
      let r = single_some err low i e h in
      ((r.0, omega (arith, r.1), refl), zero-add (err 0 i) ∙ r.2)
  sound (suc (suc k)) i e h =
      let f = (sought k i).found e h in
      let lt = f.2 in
      let ge = f.1 in
      let p = plus_some _ _ _ f.0 in
      let ih = sound (suc k) (cell err low (suc (suc k)) i).cut p.0 p.1 in
      ((omega arith, omega arith, ih.0), ap (λ (x : ℕ). x + err (cell err low (suc (suc k)) i).cut i) ih.1 ∙ sym p.2)

  -- no reduction to k rows is cheaper than the cell, and none as cheap is later than its read-back
  pub least_is : (k i : ℕ) (cuts : List ℕ) → IsReduction low i cuts → length cuts ≡ k
      → (e : ℕ) × (least err low k i ≡ some e) × (e ≤ reduction_error err i cuts)
      × (reduction_error err i cuts ≤ e → NotEarlier (cuts_of err low k i) cuts)
  unfolding least cell cuts_of reduction_error single
  least_is zero i [] h q = (0, rw (eq-eqb _ _ h), omega arith, λ l. tt)
  least_is zero i (j ∷ js) h q = absurd (omega arith)
  least_is (suc k) i [] h q = absurd (omega arith)
  least_is (suc zero) i (j ∷ []) h q =
      let start : j ≡ 0 = h.2 in
      let gapless = h.1 in
      let filled = h.0 in (
        err 0 i,
        single_of err low i (omega arith) (omega arith),
        subst (λ (x : ℕ). err 0 i ≤ 0 + err x i) (sym start) (omega arith),
        λ l. inr (sym start, tt),
      )
  least_is (suc zero) i (j ∷ j' ∷ js) h q = absurd (omega arith)
  least_is (suc (suc k)) i (j ∷ js) h q =
      step (least_is (suc k) j js h.2 (omega arith))
    where
      count : length js ≤ j
      count = blocks_le low j js h.2

      step : (e : ℕ) × (least err low (suc k) j ≡ some e) × (e ≤ reduction_error err j js)
          × (reduction_error err j js ≤ e → NotEarlier (cuts_of err low (suc k) j) js)
          → (e : ℕ) × (least err low (suc (suc k)) i ≡ some e) × (e ≤ reduction_error err j js + err j i)
          × (reduction_error err j js + err j i ≤ e → NotEarlier (cuts_of err low (suc (suc k)) i) (j ∷ js))
      step (e, found, cheap, late) =
          let below-i = h.0 in
          let above-gap = h.1 in
          let room = count in
          let b = (sought k i).best j (e + err j i) (omega arith) (omega arith) (plus_of _ (err j i) e found) in
          let cut : ℕ = (cell err low (suc (suc k)) i).cut in (
            b.0,
            b.1,
            omega arith,
            λ l.
                elim (ℕ_discrete cut j) [
                  | yes same ↦ inr (same, subst (λ (x : ℕ). NotEarlier (cuts_of err low (suc k) x) js) (sym same) (late (omega arith)))
                  | no other ↦ inl (let later = b.3 (omega arith) in omega arith)
                ],
          )
