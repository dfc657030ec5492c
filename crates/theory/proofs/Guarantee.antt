-- Why the reduction that a bound asks for is best among all choices, whatever is chosen from: it is enough that each reduction
-- gives a fitting choice with as many rows and the same error, and that no fitting choice has fewer rows or a smaller error than
-- some reduction. Assumes nothing.
use Prim.Native.Nat.{ℕ, suc, ◌*◌, ◌≤◌, ◌<◌, min}
use mathlib.Core.List.{List}
use mathlib.Core.Logic.{◌↔◌}
use mathlib.Core.Option.{Option, none, some}
use mathlib.Core.Path.{◌≡◌, refl, ◌∙◌}
use native.Mathlib.Decide.{dec_le}
use native.Mathlib.Nat.{le_refl, le_antisymm, mul-le-mul_left}
use native.Mathlib.Omega.{arith}
use lib.Dec.{leb}
use lib.ListN.{length}
use borrow.Author.Tests.{leb-true, leb-false}
use Rattle.model.specs.Spans.{Span}
use Rattle.model.specs.Blocks.{last_gap, runs_to}
use Rattle.model.specs.Split.{least, cuts_of, fewest, within, most_rows, chosen}
use Rattle.model.specs.Reductions.{IsReduction, reduction_error, IsLeast, BestWithin, FewestWithin, IsAnswer}
use Rattle.model.specs.Guarantee.{Choices, LeastOfFewest, BestOfLimit, BestOfShare, BestRows, NoRows}
use Rattle.model.specs.declared.Bound.{Bound}
use Rattle.model.specs.declared.Bound.TheVariants.{Rows, Share}
use Rattle.theory.proofs.Tests.{cases, none≢some, some_inj}
use Rattle.theory.proofs.Table.{cuts_of-length}
use Rattle.theory.proofs.Choice.{runs_le, runs_to-le, errors_some, least_of_lem, limit_answer, share_answer, share_none, first_some}

-- the most rows that answer a bound
abbrev pub limit_of : Bound → ℕ
limit_of (Rows c) = c
limit_of (Share p) = most_rows

-- ---- the reduction that a bound asks for, of n segments with these block errors

module _ {V' : Type 0} (seg : ℕ → Span V') (n : ℕ) (err : ℕ → ℕ → ℕ) where
  -- how many rows answer the bound
  abbrev pub answering : Bound → Option ℕ
  answering bound = chosen bound (λ k. least err (last_gap seg) k n) n (runs_to seg n)

  module _ (widens : (a b i : ℕ) → a ≤ b → b < i → err b i ≤ err a i) where
    -- so many rows have an error, and their cuts are the reduction
    pub answer_reduces : (bound : Bound) (k : ℕ) → answering bound ≡ some k
        → (t : ℕ) × (least err (last_gap seg) k n ≡ some t) × IsAnswer err (last_gap seg) n (runs_to seg n) bound (cuts_of err (last_gap seg) k n)
    unfolding chosen
    answer_reduces (Rows c) k h =
        cases (leb (runs_to seg n) c)
        (λ e.
        let same : fewest (λ x. least err (last_gap seg) x n) (min c n) ≡ k = some_inj refl (rw e at h) in
        let (t, f, best) = limit_answer seg n err widens c (leb-true (runs_to seg n) c e) in
        (t, rw same at f, rw same at best))
        (λ e. absurd (none≢some refl (rw e at h)))
    answer_reduces (Share p) k h = share_answer seg n err widens p (suc most_rows) k h

-- ---- the best choice

-- there is at most one least error of the fewest rows
pub one_least_lem : {A : Type 0} (choices : Choices A) (L M : ℕ) → LeastOfFewest choices L → LeastOfFewest choices M → L ≤ M
one_least_lem choices L M a b =
    let down = a.fewest b.choice b.fits in
    let up = b.fewest a.choice a.fits in
    let less = a.least b.choice b.fits (omega arith) in
    let is = b.error in
    omega arith

-- choices that go by the reductions of n segments
pub record ByReductions {A V' : Type 0} (choices : Choices A) (seg : ℕ → Span V') (n : ℕ) (err : ℕ → ℕ → ℕ) : Type 0 where
  pub widens : (a b i : ℕ) → a ≤ b → b < i → err b i ≤ err a i
  -- what a reduction's cuts make
  pub made : List ℕ → A
  -- it fits, and has the reduction's error and as many rows
  pub reach : (cuts : List ℕ) → IsReduction (last_gap seg) n cuts
      → choices.fits (made cuts) × (choices.error (made cuts) ≡ reduction_error err n cuts)
      × (choices.size (made cuts) ≡ length cuts)
  -- what fits is no better than some reduction
  pub beaten : (a : A) → choices.fits a
      → (cuts : List ℕ) × IsReduction (last_gap seg) n cuts × (length cuts ≤ choices.size a)
      × (reduction_error err n cuts ≤ choices.error a)

module _ {A V' : Type 0} {choices : Choices A} {seg : ℕ → Span V'} {n : ℕ} {err : ℕ → ℕ → ℕ}
    (by : ByReductions choices seg n err) where
  limit_best : (c : ℕ) (cuts : List ℕ) → BestWithin err (last_gap seg) n c cuts
      → BestOfLimit choices c (reduction_error err n cuts) (by.made cuts)
  limit_best c cuts b =
      let (f, e, l) = by.reach cuts b.is_reduction in
      let few = b.count in
      record {
        fits = f;
        count = omega arith;
        has_error = e;
        least = λ other g le.
            let (cuts', is, fewer, cheaper) = by.beaten other g in
            let h = b.least cuts' is (omega arith) in
            omega arith;
        fewest = λ other g le q.
            let (cuts', is, fewer, cheaper) = by.beaten other g in
            let h = b.fewest cuts' is (omega arith) in
            omega arith;
      }

  -- the least error of as many rows as there are runs is that of the fitting choices with the fewest rows
  runs_least : (M : ℕ) → IsLeast err (last_gap seg) n (runs_to seg n) M → LeastOfFewest choices M
  runs_least M b =
      let (f, e, l) = by.reach b.cuts b.is_reduction in
      let m = b.count in
      record {
        choice = by.made b.cuts;
        fits = f;
        error = e ∙ b.error;
        fewest = λ other g.
            let (cuts', is, fewer, cheaper) = by.beaten other g in
            let h = runs_le seg n cuts' is in
            omega arith;
        least = λ other g q.
            let (cuts', is, fewer, cheaper) = by.beaten other g in
            let h = runs_le seg n cuts' is in
            let exactly : length cuts' ≡ runs_to seg n = omega arith in
            let less = b.least cuts' is exactly in
            omega arith;
      }

  -- there always is such an error, and only one
  pub only_least : (L : ℕ) × LeastOfFewest choices L × ((M : ℕ) → LeastOfFewest choices M → M ≡ L)
  only_least =
      let (L, found) = errors_some seg n err by.widens (runs_to seg n) (le_refl _) (runs_to-le seg n) in
      let is = runs_least L (least_of_lem seg n err by.widens (runs_to seg n) L found) in
      (L, is, λ M other. le_antisymm (one_least_lem choices M L other is) (one_least_lem choices L M is other))

  share_best : (p : ℕ) (cuts : List ℕ) → FewestWithin err (last_gap seg) n p (runs_to seg n) cuts
      → BestOfShare choices p (reduction_error err n cuts) (by.made cuts)
  share_best p cuts b =
      let (f, e, l) = by.reach cuts b.is_reduction in
      let met = b.met in
      record {
        fits = f;
        has_error = e;
        met = record { of = b.of; is_least = runs_least b.of b.is_least; met = rw e met };
        least = λ other g q.
            let (cuts', is, fewer, cheaper) = by.beaten other g in
            elim (dec_le (length cuts) (length cuts')) [
              | yes h ↦ (let less = b.least cuts' is (omega arith) in omega arith)
              | no h ↦
                  elim (dec_le (reduction_error err n cuts' * 1000) (p * b.of)) [
                    | yes k ↦ absurd (let many = b.fewest cuts' is k in omega arith)
                    | no k ↦ omega arith
                  ]
            ];
        fewest = λ other g few w.
            let (cuts', is, fewer, cheaper) = by.beaten other g in
            let same = one_least_lem choices w.of b.of w.is_least (runs_least b.of b.is_least) in
            let within_of = w.met in
            let scaled = mul-le-mul_left p same in
            let many = b.fewest cuts' is (omega arith) in
            omega arith;
      }

  pub best_choice : (bound : Bound) (cuts : List ℕ) → IsAnswer err (last_gap seg) n (runs_to seg n) bound cuts
      → BestRows choices bound (reduction_error err n cuts) (by.made cuts)
  best_choice (Rows c) cuts b = limit_best c cuts b
  best_choice (Share p) cuts b = share_best p cuts b

  -- ---- too few rows

  -- the answer's number of rows is at most the limit, and with a share at most the most rows of a slot
  pub count_le : (bound : Bound) (k : ℕ) → answering seg n err bound ≡ some k → k ≤ limit_of bound
  unfolding chosen
  count_le (Rows c) k h =
      let (t, found, best) = answer_reduces seg n err by.widens (Rows c) k h in
      omega (arith, best.count, cuts_of-length err (last_gap seg) k n)
  count_le (Share p) k h =
      let errors : ℕ → Option ℕ = λ i. least err (last_gap seg) i n in
      let (passed, ge, lt, before) = first_some (λ i. within p (errors (runs_to seg n)) (errors i)) 0 (suc most_rows) k h in
      omega arith

  -- where no number of rows answers the bound, no choice does
  no_rows : (bound : Bound) → answering seg n err bound ≡ none → NoRows choices bound
  unfolding chosen
  no_rows (Rows c) h =
      λ a f le.
      let (cuts, is, fewer, cheaper) = by.beaten a f in
      let all = runs_le seg n cuts is in
      cases (leb (runs_to seg n) c)
      (λ e. none≢some (rw e at h) refl)
      (λ e. let short = leb-false (runs_to seg n) c e in omega arith)
  no_rows (Share p) h =
      λ a f le w.
      let (cuts, is, fewer, cheaper) = by.beaten a f in
      let (M, found) = errors_some seg n err by.widens (runs_to seg n) (le_refl _) (runs_to-le seg n) in
      let over = share_none seg n err by.widens p (suc most_rows) M found h cuts is (omega arith) in
      let least-M = runs_least M (least_of_lem seg n err by.widens (runs_to seg n) M found) in
      let scaled = mul-le-mul_left p (one_least_lem choices w.of M w.is_least least-M) in
      let met = w.met in
      omega arith

  -- and where one does, some choice does
  some_rows : (bound : Bound) (k : ℕ) → answering seg n err bound ≡ some k → NoRows choices bound → ⊥
  some_rows (Rows c) k h nothing =
      let (t, found, best) = answer_reduces seg n err by.widens (Rows c) k h in
      let rows = limit_best c (cuts_of err (last_gap seg) k n) best in
      nothing (by.made (cuts_of err (last_gap seg) k n)) rows.fits rows.count
  some_rows (Share p) k h nothing =
      let (t, found, best) = answer_reduces seg n err by.widens (Share p) k h in
      let rows = share_best p (cuts_of err (last_gap seg) k n) best in
      let few = count_le (Share p) k h in
      let size = (by.reach (cuts_of err (last_gap seg) k n) best.is_reduction).2 in
      nothing (by.made (cuts_of err (last_gap seg) k n)) rows.fits
      (omega (arith, cuts_of-length err (last_gap seg) k n)) rows.met

  pub too_few_rows : (bound : Bound) → (answering seg n err bound ≡ none) ↔ NoRows choices bound
  too_few_rows bound = (no_rows bound, λ nothing. by_count (answering seg n err bound) refl nothing)
    where
      by_count : (o : Option ℕ) → answering seg n err bound ≡ o → NoRows choices bound → o ≡ none
      by_count none e nothing = refl
      by_count (some k) e nothing = absurd (some_rows bound k e nothing)
