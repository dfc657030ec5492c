-- Windows that no record of a group meets: they give no row, and up to the next event there are more of them. And the rows that
-- are left, group by group and window by window. Assumes nothing.
use Prim.Native.Nat.{ℕ, zero, suc, ◌+◌, ◌-◌, ◌≤◌, ◌<◌}
use mathlib.Core.Bool.{Bool, true, false, and-false}
use mathlib.Core.List.{List, [], ◌∷◌, ◌++◌}
use mathlib.Core.Option.{some}
use mathlib.Core.Path.{◌≡◌, refl, sym, ap, ◌∙◌}
use native.Mathlib.Nat.{add-zero}
use native.Mathlib.Omega.{arith}
use lib.Dec.{leb, ltb}
use lib.ListN.{length}
use borrow.Author.Tests.{ltb-true, ltb-false, leb-false, le-leb, lt-leb}
use Rattle.model.specs.Common.{list_from, joined}
use Rattle.model.specs.Spans.{Span, group_count}
use Rattle.model.specs.Log.{aggregate, aggregated}
use Rattle.model.specs.Windows.{Window, window_row, group_rows, span_rows}
use Rattle.theory.proofs.Tests.{cases}
use Rattle.theory.proofs.Lists.{list_from_left, none_left, all_left}
use Rattle.tally.specs.Tally.{only_of, held, loads_at, stop_of, stop_at}
use Rattle.tally.specs.declared.Own.{Own}
use Rattle.tally.proofs.Loads.{meeting_own, no_value}
use Rattle.windows.specs.Listed.{Skips}

-- the frames a to b, and frames from a later one on
module _ (a b a' b' : ℕ) (forward : a ≤ b) (later : a ≤ a') where
  -- a record that does not meet the first does not meet the others up to its stop
  still_out : (r : Own) → held a b r ≡ false → b' ≤ stop_of a r → held a' b' r ≡ false
  unfolding stop_of
  still_out r out near = cases (ltb a r.first) ahead begun
    where
      ahead : ltb a r.first ≡ true → held a' b' r ≡ false
      ahead e =
          let behind = ltb-true a r.first e in
          let before : b' < r.first = omega (arith, rw e at near) in
          rw (lt-leb r.first b' before)

      begun : ltb a r.first ≡ false → held a' b' r ≡ false
      begun e =
          let first = ltb-false a r.first e in
          let over : leb a r.last ≡ false = rw (le-leb r.first b (omega arith)) at out in
          let last = leb-false a r.last over in
          rw (lt-leb a' r.last (omega arith)) (and-false (leb r.first b'))

  -- so no record meets the others where none meets the first
  still_unmet : (own : List Own) → length (loads_at a b own) ≡ 0 → b' ≤ stop_at a own → length (loads_at a' b' own) ≡ 0
  unfolding loads_at stop_at
  still_unmet [] unmet near = refl
  still_unmet (r ∷ rs) unmet near = by (held a b r) refl (still_unmet rs)
    where
      by : (t : Bool) → held a b r ≡ t
          → (length (loads_at a b rs) ≡ 0 → b' ≤ stop_at a rs → length (loads_at a' b' rs) ≡ 0)
          → length (loads_at a' b' (r ∷ rs)) ≡ 0
      by true e rest = absurd (let some-met = rw e at unmet in omega arith)
      by false e rest = rw (still_out r e (omega arith)) (rest (rw e at unmet) (omega arith))

-- some loads have a value
some_value : (kind : ℕ) (l : List ℕ) → (length l ≡ 0 → ⊥) → (v : ℕ) × (aggregated kind l ≡ some v)
unfolding aggregated
some_value kind [] met = absurd (met refl)
some_value kind (x ∷ l) met = (aggregate kind x l, refl)

-- rows of a kind from records, by n windows
module _ (kind : ℕ) (rs : List (Span ℕ)) (window : ℕ → Window) (n : ℕ) where
  -- the rows of group g by the windows from i on
  abbrev of_group : ℕ → ℕ → List (Span ℕ)
  of_group g i = group_rows kind rs (list_from i (n - i) window) g

  -- the rows of the groups from g on, and those left at window i of group g
  abbrev pub rows_from : ℕ → List (Span ℕ)
  rows_from g = joined (group_rows kind rs (list_from 0 n window)) (list_from g (group_count - g) (λ (h : ℕ). h))

  abbrev pub rows_left : ℕ → ℕ → List (Span ℕ)
  rows_left g i = of_group g i ++ rows_from (suc g)

  -- ---- group by group

  pub all_groups : rows_from 0 ≡ span_rows kind rs (list_from 0 n window)
  unfolding span_rows group_count
  all_groups = refl

  pub no_groups : (g : ℕ) → group_count ≤ g → rows_from g ≡ []
  unfolding joined list_from
  no_groups g past =
      none_left (λ (m : ℕ). joined (group_rows kind rs (list_from 0 n window)) (list_from g m (λ (h : ℕ). h))) g group_count past

  pub group_starts : (g : ℕ) → g < group_count → rows_from g ≡ rows_left g 0
  unfolding joined
  group_starts g lt =
      ap (joined (group_rows kind rs (list_from 0 n window))) (list_from_left (λ (h : ℕ). h) g group_count lt)
      ∙ sym (all_left (λ (m : ℕ). group_rows kind rs (list_from 0 m window) g ++ rows_from (suc g)) n)

  pub group_ends : (g i : ℕ) → n ≤ i → rows_left g i ≡ rows_from (suc g)
  unfolding group_rows joined list_from
  group_ends g i past =
      none_left (λ (m : ℕ). group_rows kind rs (list_from i m window) g ++ rows_from (suc g)) i n past

  -- ---- window by window

  module _ (g : ℕ) where
    no_row : (w : Window) → length (loads_at w.first w.last (only_of g rs)) ≡ 0 → window_row kind rs g w ≡ []
    unfolding window_row
    no_row w unmet =
        let loads = meeting_own rs g w.first w.last in
        rw (loads, no_value kind (loads_at w.first w.last (only_of g rs)) unmet, window_row)

    one_row_lem : (w : Window) (v : ℕ) → aggregated kind (loads_at w.first w.last (only_of g rs)) ≡ some v
        → window_row kind rs g w ≡ record { group = g; first = w.first; last = w.last; value = v } ∷ []
    unfolding window_row
    one_row_lem w v found = rw (meeting_own rs g w.first w.last, found, window_row)

    -- windows that no record meets are passed over
    passed_over : (i m rest : ℕ)
        → ((k : ℕ) → i ≤ k → k < i + m → length (loads_at (window k).first (window k).last (only_of g rs)) ≡ 0)
        → group_rows kind rs (list_from i (m + rest) window) g ≡ group_rows kind rs (list_from (i + m) rest window) g
    unfolding group_rows joined list_from
    passed_over i zero rest unmet = let None-more : 0 + rest ≡ rest = omega arith in rw (add-zero i, None-more)
    passed_over i (suc m) rest unmet =
        let one_more : suc m + rest ≡ suc (m + rest) = omega arith in
        let next : i + suc m ≡ suc i + m = omega arith in
        rw (one_more, next)
        (ap (λ (row : List (Span ℕ)). row ++ group_rows kind rs (list_from (suc i) (m + rest) window) g)
        (no_row (window i) (unmet i (omega arith) (omega arith)))
        ∙ passed_over (suc i) m rest (λ k le lt. unmet k (omega arith) (omega arith)))

    skipped : (i j : ℕ) → i ≤ j → j ≤ n
        → ((k : ℕ) → i ≤ k → k < j → length (loads_at (window k).first (window k).last (only_of g rs)) ≡ 0)
        → of_group g i ≡ of_group g j
    skipped i j ij jn unmet =
        let count : n - i ≡ j - i + (n - j) = omega arith in
        let end : i + (j - i) ≡ j = omega arith in
        ap (λ (m : ℕ). group_rows kind rs (list_from i m window) g) count
        ∙ passed_over i (j - i) (n - j) (λ k le lt. unmet k le (omega arith))
        ∙ ap (λ (m : ℕ). group_rows kind rs (list_from m (n - j) window) g) end

    -- those from a window that no record meets up to the next event are such windows
    pub skip_on : (i r : ℕ) → (window i).first ≤ (window i).last
        → length (loads_at (window i).first (window i).last (only_of g rs)) ≡ 0
        → Skips window (stop_at (window i).first (only_of g rs)) i n r
        → rows_left g i ≡ rows_left g r
    skip_on i r forward unmet skips =
        ap (λ (rows : List (Span ℕ)). rows ++ rows_from (suc g))
        (skipped i r (omega (arith, skips.more)) skips.within
        (λ k le lt. cases (ltb i k)
        (λ e.
        let behind = ltb-true i k e in
        still_unmet (window i).first (window i).last (window k).first (window k).last forward (skips.begun k behind lt) (only_of g rs) unmet (skips.ended k behind lt))
        (λ e. let same : k ≡ i = omega (arith, ltb-false i k e) in rw same unmet)))

    -- a window that some record meets gives the next row
    module _ (i : ℕ) (lt : i < n) (f l : ℕ) (frames : record { first = f; last = l } ≡ window i) where
      pub row_left : (v : ℕ) → aggregated kind (loads_at f l (only_of g rs)) ≡ some v
          → rows_left g i ≡ record { group = g; first = f; last = l; value = v } ∷ rows_left g (suc i)
      unfolding group_rows joined
      row_left v found =
          ap (λ (ws : List Window). group_rows kind rs ws g ++ rows_from (suc g)) (list_from_left window i n lt)
          ∙ ap (λ (row : List (Span ℕ)). row ++ of_group g (suc i) ++ rows_from (suc g))
          (ap (window_row kind rs g) (sym frames) ∙ one_row_lem (record { first = f; last = l }) v found)

      pub some_left : (length (loads_at f l (only_of g rs)) ≡ 0 → ⊥) → (r : Span ℕ) × (rows_left g i ≡ r ∷ rows_left g (suc i))
      some_left met = let (v, found) = some_value kind (loads_at f l (only_of g rs)) met in (_, row_left v found)
