-- Which numbers of rows are possible, which of them answers a bound, and how many cuts are weighed to find it.
-- Assumes nothing.
use Prim.Native.Nat.{ℕ, zero, suc, ◌+◌, ◌-◌, ◌*◌, ◌≤◌, ◌<◌, zero-le, min, max}
use mathlib.Core.Bool.{Bool, true, false}
use mathlib.Core.List.{List, [], ◌∷◌}
use mathlib.Core.Logic.{◌↔◌}
use mathlib.Core.Option.{Option, none, some}
use mathlib.Core.Path.{◌≡◌, refl, sym, ap, ◌∙◌}
use native.Mathlib.Decide.{ℕ_discrete, dec_le}
use native.Mathlib.Nat.{zero-add}
use native.Mathlib.Omega.{arith}
use lib.ListN.{length}
use borrow.Author.Tests.{ltb-true, ltb-false, leb-true, leb-false}
use Rattle.model.specs.Common.{sum_from}
use Rattle.model.specs.Spans.{Span}
use Rattle.model.specs.Blocks.{gap, last_gap, runs_to}
use Rattle.model.specs.Split.{Best, untried, plus, below, exceeds, weigh, scan, cell, least, weighed, cuts_of, fewest, within, first_that}
use Rattle.model.specs.Reductions.{IsReduction, reduction_error, IsLeast, IsLatest, BestWithin, FewestWithin}
use Rattle.theory.proofs.Sums.{sum_from-le, sum_from_zero, sum_from-append, sum_from_snoc}
use Rattle.theory.proofs.Tests.{cases, true≢false}
use Rattle.theory.proofs.Table.{none≢some, some_inj, blocks_le, cuts_of-length, sound, least_is}

-- ---- the cuts weighed

weigh_tried : (b : Best) (t : Option ℕ) (j : ℕ) → (weigh b t j).tried ≡ suc b.tried
unfolding weigh
weigh_tried b t j = cases (below t b.total) (λ e. rw e) (λ e. rw e)

scan_tried : (prev : ℕ → Option ℕ) (er : ℕ → ℕ) (from left : ℕ) (b : Best)
    → (scan prev er from left b).tried ≤ b.tried + left
unfolding scan
scan_tried prev er from zero b = omega arith
scan_tried prev er from (suc left) b =
    let next : Best = weigh b (plus (prev (from + left)) (er (from + left))) (from + left) in
    let one = weigh_tried b (plus (prev (from + left)) (er (from + left))) (from + left) in
    let ih = scan_tried prev er from left next in
    cases (exceeds (er (from + left)) next.total) (λ e. rw e (omega arith)) (λ e. rw e (omega arith))

-- a cell tries at most i − 1 candidates
tried_le : (err : ℕ → ℕ → ℕ) (low : ℕ → ℕ) (k i : ℕ) → (cell err low k i).tried ≤ i - 1
unfolding cell untried
tried_le err low zero i = zero-le
tried_le err low (suc zero) i = zero-le
tried_le err low (suc (suc k)) i =
    let h = scan_tried (λ j. (cell err low (suc k) j).total) (λ j. err j i) (max (suc k) (low i)) (i - max (suc k) (low i)) untried in
    omega arith

-- 0 + 1 + .. + (n − 1), twice
triangle : (n : ℕ) → 2 * sum_from 0 (suc n) (λ i. i - 1) ≡ n * (n - 1)
unfolding sum_from
triangle zero = refl
triangle (suc zero) = refl
triangle (suc (suc n)) =
    let ih = triangle (suc n) in
    let more = sum_from_snoc 0 (suc (suc n)) (λ i. i - 1) in
    let last : 0 + suc (suc n) - 1 ≡ suc n = omega arith in
    let now : suc (suc n) * (suc (suc n) - 1) ≡ suc (suc n) * suc n = ap (λ (x : ℕ). suc (suc n) * x) (omega arith) in
    let then : suc n * (suc n - 1) ≡ suc n * n = ap (λ (x : ℕ). suc n * x) (omega arith) in
    omega (arith, more, last, now, then, ih)

row_le : (err : ℕ → ℕ → ℕ) (low : ℕ → ℕ) (k n : ℕ)
    → 2 * sum_from k (suc n - k) (λ i. (cell err low k i).tried) ≤ n * (n - 1)
row_le err low k n =
    elim (dec_le k (suc n)) [
      | yes h ↦
          (let all = triangle n in
          let parts = sum_from-append 0 k (suc n - k) (λ i. i - 1) in
          let whole : k + (suc n - k) ≡ suc n = omega arith in
          let parts' : sum_from 0 (suc n) (λ i. i - 1) ≡ sum_from 0 k (λ i. i - 1) + sum_from k (suc n - k) (λ i. i - 1) =
          rw (whole, zero-add) at parts in
          let each =
          sum_from-le k (suc n - k) (λ i. (cell err low k i).tried) (λ i. i - 1) (λ i a b. tried_le err low k i) in
          omega arith)
      | no h ↦
          (let none_left : suc n - k ≡ 0 = omega arith in
          rw none_left (nothing (λ i. (cell err low k i).tried)))
    ]
  where
    nothing : (h : ℕ → ℕ) → 2 * sum_from k 0 h ≤ n * (n - 1)
    nothing h = omega (arith, sum_from_zero k 0 h (λ i a b. absurd (omega arith)))

double_le : (from count c : ℕ) (h : ℕ → ℕ) → ((i : ℕ) → 2 * h i ≤ c) → 2 * sum_from from count h ≤ count * c
unfolding sum_from
double_le from zero c h e = zero-le
double_le from (suc count) c h e =
    let ih = double_le (suc from) count c h e in
    let now = e from in
    omega arith

-- 2 × weighed ≤ (K − 1) × n × (n − 1), which is 0 for K below 2
pub weighed_le : (err : ℕ → ℕ → ℕ) (low : ℕ → ℕ) (K n : ℕ) → 2 * weighed err low K n ≤ (K - 1) * (n * (n - 1))
unfolding weighed
weighed_le err low K n =
    double_le 2 (K - 1) (n * (n - 1)) (λ k. sum_from k (suc n - k) (λ i. (cell err low k i).tried)) (λ k. row_le err low k n)

-- ---- which numbers of rows are possible

module _ {A : Type 0} (seg : ℕ → Span A) where
  pub last_gap-le : (i : ℕ) → last_gap seg (suc i) ≤ i
  unfolding last_gap gap
  last_gap-le zero = zero-le
  last_gap-le (suc i) =
      let ih = last_gap-le i in
      cases (gap seg (suc i)) (λ e. rw e (omega arith)) (λ e. rw e (omega arith))

  pub runs_to-le : (i : ℕ) → runs_to seg i ≤ i
  unfolding runs_to
  runs_to-le zero = zero-le
  runs_to-le (suc i) =
      let ih = runs_to-le i in
      cases (gap seg i) (λ e. rw e (omega arith)) (λ e. rw e (omega arith))

  runs_to_pos : (i : ℕ) → 1 ≤ runs_to seg (suc i)
  unfolding runs_to gap
  runs_to_pos zero = omega arith
  runs_to_pos (suc i) =
      let ih = runs_to_pos i in
      cases (gap seg (suc i)) (λ e. rw e (omega arith)) (λ e. rw e (omega arith))

  -- one more block begins at most one more run
  one_run : (i j : ℕ) → j < i → last_gap seg i ≤ j → runs_to seg i ≤ suc (runs_to seg j)
  unfolding last_gap runs_to
  one_run zero j lt le = absurd (omega arith)
  one_run (suc i) j lt le =
      cases (gap seg i)
      (λ e.
      let here : i ≤ j = rw e at le in
      let same : j ≡ i = omega arith in
      rw (e, same) (omega arith))
      (λ e.
      elim (ℕ_discrete j i) [
        | yes same ↦ rw (e, same) (omega arith)
        | no other ↦ rw e (one_run i j (omega arith) (rw e at le))
      ])

  pub runs_le : (i : ℕ) (cuts : List ℕ) → IsReduction (last_gap seg) i cuts → runs_to seg i ≤ length cuts
  unfolding runs_to
  runs_le i [] h = rw h zero-le
  runs_le i (j ∷ js) h =
      let ih = runs_le j js h.2 in
      let more = one_run i j h.0 h.1 in
      omega arith

  -- the first i segments in k rows
  abbrev Cuttable : ℕ → ℕ → Type 0
  Cuttable i k = (cuts : List ℕ) × IsReduction (last_gap seg) i cuts × (length cuts ≡ k)

  -- one more row for the next segment
  next_alone : (i k : ℕ) → Cuttable i k → Cuttable (suc i) (suc k)
  next_alone i k (cuts, h, q) = (i ∷ cuts, (omega arith, last_gap-le i, h), ap suc q)

  -- the next segment in the last row
  next_joined : (i k : ℕ) → gap seg i ≡ false → 1 ≤ k → Cuttable i k → Cuttable (suc i) k
  unfolding last_gap
  next_joined i k e pos ([], h, q) = absurd (omega arith)
  next_joined i k e pos (j ∷ js, h, q) =
      let lt = h.0 in
      (j ∷ js, (omega arith, rw e h.1, h.2), q)

  -- exactly k rows are possible if k is at least the number of runs and at most that of segments
  pub reduction_to : (i k : ℕ) → runs_to seg i ≤ k → k ≤ i → Cuttable i k
  unfolding runs_to gap
  reduction_to zero k lo hi = ([], refl, omega arith)
  reduction_to (suc i) zero lo hi = absurd (omega (arith, runs_to_pos i))
  reduction_to (suc zero) (suc k) lo hi = next_alone zero k (reduction_to zero k (omega arith) (omega arith))
  reduction_to (suc (suc i)) (suc k) lo hi =
      cases (gap seg (suc i))
      (λ e. next_alone (suc i) k (reduction_to (suc i) k (let l = rw e at lo in omega arith) (omega arith)))
      (λ e.
      elim (dec_le (suc k) (suc i)) [
        | yes h ↦ next_joined (suc i) (suc k) e (omega arith) (reduction_to (suc i) (suc k) (rw e at lo) h)
        | no h ↦
            next_alone (suc i) k (reduction_to (suc i) k (omega (arith, runs_to-le (suc i))) (omega arith))
      ])

  pub possible : (n k : ℕ) → Cuttable n k ↔ ((runs_to seg n ≤ k) × (k ≤ n))
  possible n k = (
    (λ c. (rw c.2 at (runs_le n c.0 c.1), rw c.2 at (blocks_le (last_gap seg) n c.0 c.1))),
    λ h. reduction_to n k h.0 h.1,
  )

-- ---- the number of rows that is chosen

below_true : (u : ℕ) (o : Option ℕ) (t : ℕ) → o ≡ some t → below (some u) o ≡ true → u < t
unfolding below
below_true u o t e h = ltb-true u t (rw e at h)

below_false : (u : ℕ) (o : Option ℕ) → below (some u) o ≡ false → (t : ℕ) × (o ≡ some t) × (t ≤ u)
unfolding below
below_false u none h = absurd (true≢false h)
below_false u (some t) h = (t, refl, ltb-false u t h)

below_some : (o p : Option ℕ) → below o p ≡ true → (u : ℕ) × (o ≡ some u)
unfolding below
below_some none p h = absurd (true≢false (sym h))
below_some (some u) p h = (u, refl)

-- the fewest of 0 to K rows that have the least error
fewest_le : (e : ℕ → Option ℕ) (K : ℕ) → fewest e K ≤ K
unfolding fewest
fewest_le e zero = zero-le
fewest_le e (suc K) =
    let ih = fewest_le e K in
    cases (below (e (suc K)) (e (fewest e K))) (λ q. rw q (omega arith)) (λ q. rw q (omega arith))

fewest_is : (e : ℕ → Option ℕ) (K k u : ℕ) → k ≤ K → e k ≡ some u
    → (t : ℕ) × (e (fewest e K) ≡ some t) × (t ≤ u) × (u ≤ t → fewest e K ≤ k)
unfolding fewest
fewest_is e zero k u le h =
    let same : k ≡ 0 = omega arith in
    (u, rw same at h, omega arith, λ l. zero-le)
fewest_is e (suc K) k u le h =
    cases (below (e (suc K)) (e (fewest e K)))
    (λ q. rw q (taken q (ℕ_discrete k (suc K)) (λ l. fewest_is e K k u l h)))
    (λ q. rw q (kept q (ℕ_discrete k (suc K)) (λ l. fewest_is e K k u l h)))
  where
    Earlier : ℕ → Type 0
    Earlier b = (t : ℕ) × (e b ≡ some t) × (t ≤ u) × (u ≤ t → b ≤ k)

    taken : below (e (suc K)) (e (fewest e K)) ≡ true → Dec (k ≡ suc K) → (k ≤ K → Earlier (fewest e K)) → Earlier (suc K)
    taken q (yes same) ih = (u, rw same at h, omega arith, λ l. omega arith)
    taken q (no other) ih =
        let (t, f, le', few) = ih (omega arith) in
        let (v, g) = below_some (e (suc K)) (e (fewest e K)) q in
        let lt = below_true v (e (fewest e K)) t f (rw g at q) in
        (v, g, omega arith, λ l. absurd (omega arith))

    kept : below (e (suc K)) (e (fewest e K)) ≡ false → Dec (k ≡ suc K) → (k ≤ K → Earlier (fewest e K)) → Earlier (fewest e K)
    kept q (yes same) ih =
        let (t, f, le') = below_false u (e (fewest e K)) (rw (rw same at h) at q) in
        (t, f, le', λ l. omega (arith, fewest_le e K))
    kept q (no other) ih = ih (omega arith)

pub first_some : (test : ℕ → Bool) (k count r : ℕ) → first_that test k count ≡ some r
    → (test r ≡ true) × (k ≤ r) × (r < k + count) × ((j : ℕ) → k ≤ j → j < r → test j ≡ false)
unfolding first_that
first_some test k zero r h = absurd (none≢some {o = none} refl h)
first_some test k (suc count) r h =
    cases (test k)
    (λ q.
    let same : k ≡ r = some_inj refl (rw q at h) in
    (rw same at q, omega arith, omega arith, λ j a b. absurd (omega arith)))
    (λ q.
    let (passed, ge, lt, before) = first_some test (suc k) count r (rw q at h) in (
      passed,
      omega arith,
      omega arith,
      λ j a b. elim (ℕ_discrete k j) [ yes e ↦ rw e at q | no ne ↦ before j (omega arith) b ],
    ))

first_none : (test : ℕ → Bool) (k count : ℕ) → first_that test k count ≡ none
    → (j : ℕ) → k ≤ j → j < k + count → test j ≡ false
unfolding first_that
first_none test k zero h j a b = absurd (omega arith)
first_none test k (suc count) h j a b =
    cases (test k)
    (λ q. absurd (none≢some {a = k} h (rw q)))
    (λ q. elim (ℕ_discrete k j) [ yes e ↦ rw e at q | no ne ↦ first_none test (suc k) count (rw q at h) j (omega arith) (omega arith) ])

within_true : (p M e : ℕ) (o : Option ℕ) → o ≡ some e → within p (some M) o ≡ true → e * 1000 ≤ p * M
unfolding within
within_true p M e o q h = leb-true (e * 1000) (p * M) (rw q at h)

within_some : (p M : ℕ) (o : Option ℕ) → within p (some M) o ≡ true → (e : ℕ) × (o ≡ some e)
unfolding within
within_some p M none h = absurd (true≢false (sym h))
within_some p M (some e) h = (e, refl)

within_false : (p M e : ℕ) (o : Option ℕ) → o ≡ some e → within p (some M) o ≡ false → p * M < e * 1000
unfolding within
within_false p M e o q h = leb-false (e * 1000) (p * M) (rw q at h)

-- n segments by the last gap below each: the answers to a row limit c and to a share p of the least error of their runs
module _ {A : Type 0} (seg : ℕ → Span A) (n : ℕ) (err : ℕ → ℕ → ℕ) (wider : (a b i : ℕ) → a ≤ b → b < i → err b i ≤ err a i) where
  abbrev errors : ℕ → Option ℕ
  errors k = least err (last_gap seg) k n

  abbrev cuts_to : ℕ → List ℕ
  cuts_to k = cuts_of err (last_gap seg) k n

  -- what a number in the last column says
  pub least_of_lem : (k t : ℕ) → errors k ≡ some t → IsLeast err (last_gap seg) n k t
  least_of_lem k t h =
      let (is, q) = sound err (last_gap seg) wider k n t h in
      record {
        cuts = cuts_to k;
        is_reduction = is;
        count = cuts_of-length err (last_gap seg) k n;
        error = q;
        least = λ other r l.
            let (u, g, le, late) = least_is err (last_gap seg) wider k n other r l in
            let same : u ≡ t = some_inj g h in
            omega arith;
      }

  latest_of : (k t : ℕ) → errors k ≡ some t → IsLatest err (last_gap seg) n (cuts_to k)
  latest_of k t h other r l le =
      let (u, g, cheap, late) = least_is err (last_gap seg) wider k n other r (l ∙ cuts_of-length err (last_gap seg) k n) in
      let same : u ≡ t = some_inj g h in
      let q = (sound err (last_gap seg) wider k n t h).1 in
      late (omega arith)

  -- E(k,n) is a number exactly if k rows are possible
  pub errors_some : (k : ℕ) → runs_to seg n ≤ k → k ≤ n → (t : ℕ) × (errors k ≡ some t)
  errors_some k lo hi =
      let (cuts, is, q) = reduction_to seg n k lo hi in
      let (t, h, le, late) = least_is err (last_gap seg) wider k n cuts is q in
      (t, h)

  pub limit_answer : (c : ℕ) → runs_to seg n ≤ c
      → (t : ℕ) × (errors (fewest errors (min c n)) ≡ some t)
      × BestWithin err (last_gap seg) n c (cuts_to (fewest errors (min c n)))
  limit_answer c enough =
      let K : ℕ = min c n in
      let k : ℕ = fewest errors K in
      let (u, h) = errors_some (runs_to seg n) (omega arith) (runs_to-le seg n) in
      let (t, f, le, few) = fewest_is errors K (runs_to seg n) u (omega (arith, runs_to-le seg n)) h in
      let (is, q) = sound err (last_gap seg) wider k n t f in
      let few_rows : k ≤ K = fewest_le errors K in
      let rows : length (cuts_to k) ≡ k = cuts_of-length err (last_gap seg) k n in (
        t,
        f,
        record {
          is_reduction = is;
          count = omega arith;
          least = λ other r l.
              let room = blocks_le (last_gap seg) n other r in
              let (v, g, cheap, late) = least_is err (last_gap seg) wider (length other) n other r refl in
              let (t', f', le', few') = fewest_is errors K (length other) v (omega arith) g in
              let same : t' ≡ t = some_inj f' f in
              omega arith;
          fewest = λ other r l.
              let (v, g, cheap, late) = least_is err (last_gap seg) wider (length other) n other r refl in
              elim (dec_le (length other) K) [
                | yes small ↦
                    (let (t', f', le', few') = fewest_is errors K (length other) v small g in
                    let same : t' ≡ t = some_inj f' f in
                    let r' = few' (omega arith) in
                    omega arith)
                | no large ↦ omega arith
              ];
          latest = latest_of k t f;
        },
      )

  -- a list of cuts within the share has its number of rows pass the test
  share_test : (p M : ℕ) (other : List ℕ) → IsReduction (last_gap seg) n other
      → reduction_error err n other * 1000 ≤ p * M → within p (some M) (errors (length other)) ≡ true
  share_test p M other r met =
      let (v, g, cheap, late) = least_is err (last_gap seg) wider (length other) n other r refl in
      cases (within p (some M) (errors (length other)))
      (λ e. e)
      (λ e. absurd (let over = within_false p M v (errors (length other)) g e in omega arith))

  pub share_answer : (p count k : ℕ)
      → first_that (λ i. within p (errors (runs_to seg n)) (errors i)) 0 count ≡ some k
      → (t : ℕ) × (errors k ≡ some t) × FewestWithin err (last_gap seg) n p (runs_to seg n) (cuts_to k)
  share_answer p count k first =
      let (M, m-least) = errors_some (runs_to seg n) (omega arith) (runs_to-le seg n) in
      let (passed, ge, lt, before) =
      first_some (λ i. within p (some M) (errors i)) 0 count k
      (rw m-least at first) in
      let (t, f) = within_some p M (errors k) passed in
      let (is, q) = sound err (last_gap seg) wider k n t f in
      let rows : length (cuts_to k) ≡ k = cuts_of-length err (last_gap seg) k n in (
        t,
        f,
        record {
          of = M;
          is_least = least_of_lem (runs_to seg n) M m-least;
          is_reduction = is;
          met = rw q (within_true p M t (errors k) f passed);
          fewest = λ other r l.
              elim (dec_le (length (cuts_to k)) (length other)) [
                | yes h ↦ h
                | no h ↦
                    absurd (true≢false (sym (share_test p M other r l) ∙ before (length other) zero-le (omega arith)))
              ];
          least = λ other r l. rw q ((least_of_lem k t f).least other r (l ∙ rows));
          latest = latest_of k t f;
        },
      )

  -- no number of rows below count meets the share
  pub share_none : (p count M : ℕ) → errors (runs_to seg n) ≡ some M
      → first_that (λ i. within p (errors (runs_to seg n)) (errors i)) 0 count ≡ none
      → (other : List ℕ) → IsReduction (last_gap seg) n other → length other < count
      → p * M < reduction_error err n other * 1000
  share_none p count M m-least first other r few =
      elim (dec_le (reduction_error err n other * 1000) (p * M)) [
        | yes h ↦
            absurd
            (true≢false
            (sym (share_test p M other r h)
            ∙ first_none (λ i. within p (some M) (errors i)) 0 count (rw m-least at first) (length other) zero-le (omega arith)))
        | no h ↦ omega arith
      ]
