-- The scan of one cell, candidate by candidate. Assumes nothing.
use Prim.Native.Nat.{ℕ, zero, suc, ◌+◌, ◌-◌, ◌≤◌, ◌<◌, max}
use mathlib.Core.Bool.{true, false, cond}
use mathlib.Core.Option.{Option, none, some}
use mathlib.Core.Path.{◌≡◌, refl, ◌∙◌}
use native.Mathlib.Decide.{dec_le}
use native.Mathlib.Numerals.{add-one}
use native.Mathlib.Omega.{arith}
use lib.Dec.{ltb, eqb}
use borrow.Author.Tests.{ltb-true}
use Rattle.model.specs.Split.{Best, untried, plus, below, exceeds, weigh, scan, single, cell, least}
use Rattle.model.specs.Room.{most_error}
use Rattle.theory.proofs.Tests.{cases, none≢some}
use Rattle.choice.specs.Errors.{no_error, error_in, Stands}
use Rattle.choice.proofs.Errors.{none_in, some_in, held, below_in}
use Rattle.table.specs.declared.Best as code
use Rattle.table.specs.Held.{best_in}

-- ---- a candidate

-- the sum of an error, which may be 'none', and a block's error
pub plus_in : (b error : ℕ) (e : Option ℕ) → Stands b e → ((t : ℕ) → e ≡ some t → t ≤ most_error) → error ≤ most_error
    → error_in (b + error) ≡ plus e error
unfolding plus
plus_in b error none is range small =
    elim (dec_le no_error b) [
      | yes le ↦ none_in (b + error) (omega arith)
      | no lt ↦ absurd (none≢some is.is (some_in b (omega arith)))
    ]
plus_in b error (some t) is range small =
    let same = held b t is.is in
    let low = range t refl in
    rw same (some_in (t + error) (omega arith))

-- a candidate is weighed by comparing numbers
pub weigh_in : (best : code.Best) (total cut t c : ℕ) → best.total ≤ no_error
    → t ≡ cond (ltb total best.total) total best.total → c ≡ cond (ltb total best.total) cut best.cut
    → (best_in (record { total = t; cut = c; tried = best.tried + 1 }) ≡ weigh (best_in best) (error_in total) cut) × (t ≤ no_error)
unfolding best_in weigh
weigh_in best total cut t c small is_total is_cut =
    rw (is_total, is_cut, below_in total best.total small, add-one)
    (cases (ltb total best.total)
    (λ e. let lt = ltb-true total best.total e in rw e (refl, omega arith))
    (λ e. rw e (refl, small)))

module _ (b : Best) (t : Option ℕ) (j : ℕ) where
  pub weigh_tried : (weigh b t j).tried ≡ suc b.tried
  unfolding weigh
  weigh_tried = cases (below t b.total) (λ e. rw e) (λ e. rw e)

-- ---- the scan from the candidate below `at` on

module _ (prev : ℕ → Option ℕ) (er : ℕ → ℕ) (low at : ℕ) (best next : Best) (lt : low < at) (tried : next ≡ weigh best (plus (prev (at - 1)) (er (at - 1))) (at - 1)) where
  scan_step : scan prev er low (at - low) best
      ≡ cond (exceeds (er (at - 1)) next.total) next (scan prev er low (at - 1 - low) next)
  unfolding scan
  scan_step =
      let left : at - low ≡ suc (at - 1 - low) = omega arith in
      let here : low + (at - 1 - low) ≡ at - 1 = omega arith in
      rw (tried, left, here)

  -- it is left early
  pub scan_left : exceeds (er (at - 1)) next.total ≡ true → scan prev er low (at - low) best ≡ next
  scan_left e = scan_step ∙ rw e

  -- it is at its end
  pub scan_end : at - 1 ≡ low → scan prev er low (at - low) best ≡ next
  unfolding scan
  scan_end e =
      let none_left : at - 1 - low ≡ 0 = omega arith in
      scan_step ∙ rw none_left (cases (exceeds (er (at - 1)) next.total) (λ q. rw q) (λ q. rw q))

  -- it goes on
  pub scan_on : exceeds (er (at - 1)) next.total ≡ false
      → scan prev er low (at - low) best ≡ scan prev er low (at - 1 - low) next
  scan_on e = scan_step ∙ rw e

-- ---- a cell

module _ (err : ℕ → ℕ → ℕ) (low : ℕ → ℕ) where
  -- the first row: no segments, and i + 1 of them
  pub first_none : Stands no_error (least err low 1 0)
  unfolding least cell single
  first_none = record { is = none_in no_error (omega arith); le = omega arith }

  pub first_error : (i gap e v : ℕ) → 1 ≤ i → gap ≡ low i → e ≡ err 0 i → Stands v (cond (eqb gap 0) (some e) none)
      → Stands v (least err low 1 i)
  unfolding least cell single
  first_error zero gap e v some_segments is-gap is-error stands = absurd (omega arith)
  first_error (suc i) gap e v some_segments is-gap is-error stands = rw (is-gap, is-error) at stands

  pub cell_scan : (k i : ℕ) → 2 ≤ k
      → scan (least err low (k - 1)) (λ j. err j i) (max (k - 1) (low i)) (i - max (k - 1) (low i)) untried ≡ cell err low k i
  unfolding cell least
  cell_scan zero i h = absurd (omega arith)
  cell_scan (suc zero) i h = absurd (omega arith)
  cell_scan (suc (suc k)) i h =
      let back : suc (suc k) - 1 ≡ suc k = omega arith in
      rw back

  -- a cell of fewer segments than rows has no cut
  pub cell_short : (k i : ℕ) → i < k → (cell err low k i).cut ≡ 0
  unfolding cell scan untried
  cell_short zero i h = refl
  cell_short (suc zero) i h = refl
  cell_short (suc (suc k)) i h =
      let none_left : i - max (suc k) (low i) ≡ 0 = omega arith in
      rw none_left
