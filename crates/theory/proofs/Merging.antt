-- The reductions are what comes of merging: cuts are those of a reduction exactly if merging adjacent blocks leads to them,
-- from every segment a block of its own. Assumes nothing.
use Prim.Native.Nat.{ℕ, zero, suc, ◌≤◌, ◌<◌}
use mathlib.Core.Bool.{false}
use mathlib.Core.List.{List, [], ◌∷◌, ◌++◌}
use mathlib.Core.Logic.{◌↔◌}
use mathlib.Core.Path.{◌≡◌, refl, ap}
use native.Mathlib.Decide.{ℕ_discrete}
use native.Mathlib.Omega.{arith}
use Rattle.model.specs.Spans.{Span}
use Rattle.model.specs.Blocks.{gap, last_gap}
use Rattle.model.specs.Reductions.{IsReduction, Merges, start, merge, unmerged}
use Rattle.theory.proofs.Tests.{true≢false, cases}
use Rattle.theory.proofs.Choice.{last_gap-le}

module _ {A : Type 0} (seg : ℕ → Span A) where
  -- ---- what comes of merging is a reduction

  -- every segment a block of its own
  unmerged_reduction : (n : ℕ) → IsReduction (last_gap seg) n (unmerged n)
  unfolding unmerged
  unmerged_reduction zero = refl
  unmerged_reduction (suc n) = (omega arith, last_gap-le seg n, unmerged_reduction n)

  -- the last gap below i is the last one below j, if none lies from j up to i
  last_gap_back : (i j : ℕ) → j < i → last_gap seg i ≤ j → gap seg j ≡ false → last_gap seg i ≡ last_gap seg j
  unfolding last_gap
  last_gap_back zero j lt le e = absurd (omega arith)
  last_gap_back (suc i) j lt le e =
      elim (ℕ_discrete i j) [
        | yes same ↦ rw (same, e)
        | no other ↦
            cases (gap seg i) (λ t. absurd (omega (arith, rw t at le)))
            (λ t. rw t (last_gap_back i j (omega arith) (rw t at le) e))
      ]

  -- two adjacent blocks of a reduction merged
  merged_reduction : (i : ℕ) (before : List ℕ) (j : ℕ) (after : List ℕ) → gap seg j ≡ false
      → IsReduction (last_gap seg) i (before ++ (j ∷ after)) → IsReduction (last_gap seg) i (before ++ after)
  unfolding gap
  merged_reduction i [] zero after e h = absurd (true≢false e)
  merged_reduction i [] (suc j) [] e h = absurd (omega arith)
  merged_reduction i [] (suc j) (k ∷ after) e h =
      let back = last_gap_back i (suc j) h.0 h.1 e in
      (omega arith, omega arith, h.2.2)
  merged_reduction i (b ∷ before) j after e h = (h.0, h.1, merged_reduction b before j after e h.2)

  -- any number of merges
  merges_reduction : (n : ℕ) {cuts : List ℕ} → Merges (gap seg) n cuts → IsReduction (last_gap seg) n cuts
  merges_reduction n (start e) = rw e (unmerged_reduction n)
  merges_reduction n (merge before j after m e same) = rw same (merged_reduction n before j after e (merges_reduction n m))

  -- ---- a reduction comes of merging

  -- one more segment, as a block of its own
  next_alone : (n : ℕ) {cuts : List ℕ} → Merges (gap seg) n cuts → Merges (gap seg) (suc n) (n ∷ cuts)
  unfolding unmerged
  next_alone n (start e) = start (ap (λ (l : List ℕ). n ∷ l) e)
  next_alone n (merge before j after m e same) =
      merge (n ∷ before) j after (next_alone n m) e (ap (λ (l : List ℕ). n ∷ l) same)

  -- the last segment is a block of its own, or is merged to the block before
  reduction_merges : (n : ℕ) (cuts : List ℕ) → IsReduction (last_gap seg) n cuts → Merges (gap seg) n cuts
  unfolding last_gap unmerged
  reduction_merges zero [] h = start refl
  reduction_merges zero (j ∷ js) h = absurd (omega arith)
  reduction_merges (suc n) [] h = absurd (omega arith)
  reduction_merges (suc n) (j ∷ js) h =
      elim (ℕ_discrete j n) [
        | yes same ↦ rw same (next_alone n (reduction_merges n js (rw same at h.2)))
        | no other ↦
            cases (gap seg n) (λ t. absurd (omega (arith, rw t at h.1)))
            (λ t.
            merge [] n (j ∷ js) (next_alone n (reduction_merges n (j ∷ js) (omega arith, rw t at h.1, h.2))) t refl)
      ]

  -- the reductions by cuts are those of Definition 4
  pub merging : (n : ℕ) (cuts : List ℕ) → IsReduction (last_gap seg) n cuts ↔ Merges (gap seg) n cuts
  merging n cuts = (reduction_merges n cuts, merges_reduction n)
