-- From a labelling of the segments to a reduction: each part of the labelling is a block, whose best label costs no more.
-- So whatever list of rows fits the frames, some reduction has no more rows and no more error. Assumes nothing.
use Prim.Native.Nat.{ℕ, zero, suc, ◌+◌, ◌*◌, ◌-◌, ◌≤◌, ◌<◌, zero-le}
use mathlib.Core.Bool.{true}
use mathlib.Core.List.{List, [], ◌∷◌, ◌++◌}
use mathlib.Core.Logic.{⊎_elim}
use mathlib.Core.Option.{Option, some}
use mathlib.Core.Path.{◌≡◌, refl, sym, ap, ◌∙◌, subst}
use native.Mathlib.Decide.{ℕ_discrete}
use native.Mathlib.Nat.{le_refl, add-suc, suc-add, add-zero, zero-add}
use native.Mathlib.Numerals.{add-one, one-add}
use native.Mathlib.Omega.{arith}
use lib.ListN.{length}
use Rattle.model.specs.Common.{sum_of, list_from}
use Rattle.model.specs.Spans.{Span, span_length, adjacent}
use Rattle.model.specs.Segments.{segments_of}
use Rattle.model.specs.Blocks.{gap, last_gap, block}
use Rattle.model.specs.Reductions.{IsReduction, reduction_error}
use Rattle.model.specs.Fitting.{Fits}
use Rattle.theory.proofs.Sums.{sum_of-append}
use Rattle.theory.proofs.Cost.{Cost, cost_of, error_in, Allowed, error_under}
use Rattle.theory.proofs.Blocks.{block_empty}
use Rattle.theory.proofs.Choice.{last_gap-le}
use Rattle.theory.proofs.Converse.{list_from-append, member_list_from}
use Rattle.theory.proofs.Exchange.{Labelling, one, stay, turn}
use Rattle.theory.proofs.Labels.{fitting_labels_segments}

-- a block that is not empty ends with its last segment
block_snoc : {A : Type 0} (seg : ℕ → Span A) (j i : ℕ) → j ≤ i → block seg j (suc i) ≡ block seg j i ++ (seg i ∷ [])
unfolding block list_from
block_snoc seg j i le =
    let size : suc i - j ≡ (i - j) + 1 = omega arith in
    let end : j + (i - j) ≡ i = omega arith in
    rw size (rw end at (list_from-append seg j (i - j) 1))

module _ {V' L : Type 0} (C : Cost V' L) (seg : ℕ → Span V') where
  -- a label is allowed for the segments from j up to i
  abbrev AllowedIn : L → ℕ → ℕ → Type 0
  AllowedIn z j i = (t : ℕ) → j ≤ t → t < i → C.ok (seg t).value z

  -- a reduction of the first n segments to `rows` rows that costs at most `most`
  abbrev Reduced : ℕ → ℕ → ℕ → Type 0
  Reduced n rows most =
      (cuts : List ℕ) × IsReduction (last_gap seg) n cuts × (length cuts ≡ rows)
      × (reduction_error (error_in C seg) n cuts ≤ most)

  under : L → ℕ → ℕ → ℕ
  under z j i = cost_of C.cost z (block seg j i)

  under_snoc : (z : L) (j i : ℕ) → j ≤ i
      → under z j (suc i) ≡ under z j i + span_length (seg i) * C.cost (seg i).value z
  unfolding under cost_of sum_of
  under_snoc z j i le =
      rw (block_snoc seg j i le)
      (let parts = sum_of-append (λ s. span_length s * C.cost s.value z) (block seg j i) (seg i ∷ []) in omega arith)

  under_empty : (z : L) (i : ℕ) → under z i i ≡ 0
  unfolding under cost_of sum_of
  under_empty z i = rw (block_empty seg i)

  -- the block's best label costs no more than any that is allowed
  best_under : (z : L) (j i : ℕ) → j ≤ i → AllowedIn z j i → error_in C seg j i ≤ under z j i
  unfolding under error_in block
  best_under z j i le ok =
      C.best_least (block seg j i) z
      (λ s m.
      let (t, ge, lt, is) = member_list_from seg j (i - j) s m in
      subst (λ (x : Span V'). C.ok x.value z) (sym is) (ok t ge (omega arith)))

  more_allowed : (z : L) (j i : ℕ) → AllowedIn z j i → C.ok (seg i).value z → AllowedIn z j (suc i)
  more_allowed z j i ok here t ge lt =
      elim (ℕ_discrete i t)
      [ yes e ↦ subst (λ (x : ℕ). C.ok (seg x).value z) e here | no ne ↦ ok t ge (omega arith) ]

  -- the part from j on ends after segment i
  close : (j i rows most c : ℕ) (z : L) → j ≤ i → last_gap seg (suc i) ≤ j → AllowedIn z j (suc i) → Reduced j rows most
      → most + under z j (suc i) ≤ c → Reduced (suc i) (suc rows) c
  unfolding reduction_error
  close j i rows most c z le gapless ok (cuts, is, q, cheap) room =
      let best = best_under z j (suc i) (omega arith) ok in
      (j ∷ cuts, (omega arith, gapless, is), ap suc q, omega arith)

  still_gapless : (i j : ℕ) → adjacent (seg i) (seg (suc i)) ≡ true → last_gap seg (suc i) ≤ j
      → last_gap seg (suc (suc i)) ≤ j
  unfolding last_gap gap
  still_gapless i j adj le = rw adj le

  weaken : {n rows most more : ℕ} → Reduced n rows most → most ≤ more → Reduced n rows more
  weaken (cuts, is, q, cheap) le = (cuts, is, q, omega arith)

  -- The segments before j are cut, those from j up to i are open under label z, and the others are labelled.
  along : (count i j rows most : ℕ) (z : L) (k c : ℕ) → j ≤ i → last_gap seg (suc i) ≤ j → AllowedIn z j i
      → Reduced j rows most → Labelling C (list_from i (suc count) seg) z k c
      → Reduced (i + suc count) (k + rows) (most + under z j i + c)
  unfolding list_from
  along zero i j rows most z k c le gapless ok start (one here cost) = last here cost
    where
      last : C.ok (seg i).value z → span_length (seg i) * C.cost (seg i).value z ≤ c
          → Reduced (i + 1) (1 + rows) (most + under z j i + c)
      last here cost =
          let more = under_snoc z j i le in
          rw (add-one, one-add)
          (close j i rows most (most + under z j i + c) z le gapless (more_allowed z j i ok here) start (omega arith))
  along (suc count) i j rows most z k c le gapless ok start (stay {b = b} here adj rest cost) =
      same here adj cost
      (λ g o. along count (suc i) j rows most z k b (omega arith) g o start rest)
    where
      same : C.ok (seg i).value z → adjacent (seg i) (seg (suc i)) ≡ true
          → span_length (seg i) * C.cost (seg i).value z + b ≤ c
          → (last_gap seg (suc (suc i)) ≤ j → AllowedIn z j (suc i)
          → Reduced (suc i + suc count) (k + rows) (most + under z j (suc i) + b))
          → Reduced (i + suc (suc count)) (k + rows) (most + under z j i + c)
      same here adj cost next =
          let more = under_snoc z j i le in
          rw (add-suc i (suc count), ← suc-add i (suc count))
          (weaken (next (still_gapless i j adj gapless) (more_allowed z j i ok here)) (omega arith))
  along (suc count) i j rows most z (suc k) c le gapless ok start (turn {y = y} {b = b} here rest cost) =
      other here cost
      (λ s. along count (suc i) (suc i) (suc rows) (most + under z j (suc i)) y k b (le_refl _) (last_gap-le seg (suc i))
      (λ t ge lt. absurd (omega arith)) s rest)
    where
      other : C.ok (seg i).value z → span_length (seg i) * C.cost (seg i).value z + b ≤ c
          → (Reduced (suc i) (suc rows) (most + under z j (suc i))
          → Reduced (suc i + suc count) (k + suc rows) (most + under z j (suc i) + under y (suc i) (suc i) + b))
          → Reduced (i + suc (suc count)) (suc k + rows) (most + under z j i + c)
      other here cost next =
          let more = under_snoc z j i le in
          let none = under_empty y (suc i) in
          rw (add-suc i (suc count), ← suc-add i (suc count), suc-add k rows, ← add-suc k rows)
          (weaken
          (next (close j i rows most (most + under z j (suc i)) z le gapless (more_allowed z j i ok here) start (le_refl _)))
          (omega arith))

  no_labels : {z : L} {k c : ℕ} → Labelling C [] z k c → ⊥
  no_labels labels = elim labels [ ]

  cut : (n : ℕ) (z : L) (k c : ℕ) → Labelling C (list_from 0 n seg) z k c → Reduced n k c
  unfolding list_from reduction_error
  cut zero z k c labels = absurd (no_labels labels)
  cut (suc n) z k c labels =
      let none = under_empty z 0 in
      weaken
      (rw (zero-add, add-zero) at
      (along n 0 0 0 0 z k c zero-le (last_gap-le seg 0) (λ t ge lt. absurd (omega arith)) ([], refl, refl, zero-le) labels))
      (omega arith)

no_list : {A : Type 0} (seg : ℕ → Span A) (n : ℕ) → list_from 0 n seg ≡ [] → n ≡ 0
unfolding list_from
no_list seg zero e = refl
no_list seg (suc n) e = absurd (let z : ◌≡◌ {A = ℕ} 0 1 = cc in omega arith)

-- Whatever list of rows fits, some reduction of the segments has no more rows and no more error.
module _ {V' L : Type 0} (C : Cost V' L) (val : ℕ → ℕ → Option V') (groups frames : ℕ)
    (inside : (g f : ℕ) (v : V') → val g f ≡ some v → (g < groups) × (f < frames))
    (seg : ℕ → Span V') (n : ℕ) (lists : list_from 0 n seg ≡ segments_of C.same val groups frames) where
  pub no_better_lem : (rows : List (Span L)) → Fits val rows → Allowed C val rows
      → (cuts : List ℕ) × IsReduction (last_gap seg) n cuts × (length cuts ≤ length rows)
      × (reduction_error (error_in C seg) n cuts ≤ error_under C val groups frames rows)
  unfolding reduction_error
  no_better_lem rows fits allowed =
      ⊎_elim (λ e. ([], no_list seg n (lists ∙ e), zero-le, zero-le))
      (λ (z, k, c, labels, few, cheap).
      let (cuts, is, q, less) = cut C seg n z k c (subst (λ l. Labelling C l z k c) (sym lists) labels) in
      (cuts, is, omega arith, omega arith))
      (fitting_labels_segments C val groups frames inside rows fits allowed)
