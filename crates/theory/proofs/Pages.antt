-- What is said of all frames, read off a page of few groups and frames, outside which nothing is covered: whether a list of
-- rows fits, and its squared error. Assumes nothing.
use Prim.Native.Nat.{ℕ, zero, suc, ◌+◌, ◌-◌, ◌≤◌, ◌<◌}
use mathlib.Core.Bool.{Bool, true, false, ◌&&◌}
use mathlib.Core.List.Memᴰ
use mathlib.Core.List.{List, [], ◌∷◌, Memᴰ}
use mathlib.Core.Logic.{⊎_elim}
use mathlib.Core.Option.{Option, none, some}
use mathlib.Core.Path.{◌≡◌, refl, sym, ap, ◌∙◌, subst}
use native.Mathlib.Decide.{ℕ_discrete, dec_le}
use native.Mathlib.Omega.{arith}
use lib.Dec.{leb, ltb, eqb}
use lib.IntN.{ℤ}
use borrow.Author.Tests.{leb-true, ltb-true, eqb-true}
use Rattle.model.specs.Common.{sum_from}
use Rattle.model.specs.Spans.{Span, group_count, frame_count, holds}
use Rattle.model.specs.Log.{value}
use Rattle.model.specs.Blocks.{squared}
use Rattle.model.specs.Slot.{value_in}
use Rattle.model.specs.Fitting.{hits, due, Fits, frame_cost, over_frames, squared_error}
use Rattle.model.proofs.Page.{horizon, value_none}
use Rattle.theory.proofs.Tests.{and-true, false_holds}
use Rattle.theory.proofs.Sums.{sum_from-append, sum_from_cong, sum_from_zero}
use Rattle.theory.proofs.Frames.{value_inside}

-- `count` numbers from `from` on pass the test
unfoldable pub all_from : ℕ → ℕ → (ℕ → Bool) → Bool
all_from from zero test = true
all_from from (suc count) test = test from && all_from (suc from) count test

all_from_lem : (from count : ℕ) (test : ℕ → Bool) → all_from from count test ≡ true
    → (i : ℕ) → from ≤ i → i < from + count → test i ≡ true
unfolding all_from
all_from_lem from zero test h i a b = absurd (omega arith)
all_from_lem from (suc count) test h i a b =
    let (here, later) = and-true (test from) (all_from (suc from) count test) h in
    elim (ℕ_discrete from i) [
      | yes e ↦ subst (λ (k : ℕ). test k ≡ true) e here
      | no ne ↦ all_from_lem (suc from) count test later i (omega arith) (omega arith)
    ]

-- every row has a frame and lies on the page
unfoldable pub on_page : {B : Type 0} → ℕ → ℕ → List (Span B) → Bool
on_page groups frames [] = true
on_page groups frames (r ∷ rows) =
    leb r.first r.last && (ltb r.group groups && (ltb r.last frames && on_page groups frames rows))

-- every frame of the page lies in as many rows as it is due
unfoldable pub exact_on : {A B : Type 0} → (ℕ → ℕ → Option A) → ℕ → ℕ → List (Span B) → Bool
exact_on val groups frames rows =
    all_from 0 groups (λ g. all_from 0 frames (λ f. eqb (hits rows g f) (due (val g f))))

module _ {A : Type 0} (val : ℕ → ℕ → Option A) (groups frames : ℕ)
    (inside : (g f : ℕ) (v : A) → val g f ≡ some v → (g < groups) × (f < frames)) where
  ordered : {B : Type 0} (rows : List (Span B)) → on_page groups frames rows ≡ true → (r : Span B) → Memᴰ r rows → r.first ≤ r.last
  unfolding on_page
  ordered [] h r m = absurd (Memᴰ.not-nil m)
  ordered (s ∷ rows) h r m =
      let (here, more) = and-true (leb s.first s.last) _ h in
      let later = (and-true (ltb s.last frames) _ (and-true (ltb s.group groups) _ more).1).1 in
      ⊎_elim (λ e. rw e (leb-true _ _ here)) (ordered rows later r) (Memᴰ.cases_cons m)

  off_page : {B : Type 0} (rows : List (Span B)) → on_page groups frames rows ≡ true → (g f : ℕ) → ((g < groups) × (f < frames) → ⊥)
      → hits rows g f ≡ 0
  unfolding on_page hits
  off_page [] h g f out = refl
  off_page (r ∷ rows) h g f out =
      let more = (and-true (leb r.first r.last) _ h).1 in
      let (low, rest) = and-true (ltb r.group groups) _ more in
      let (short, later) = and-true (ltb r.last frames) _ rest in
      let in_groups = ltb-true r.group groups low in
      let in_frames = ltb-true r.last frames short in
      let missed : holds r g f ≡ false = false_holds r g f (λ e a b. out (omega arith, omega arith)) in
      rw missed (off_page rows later g f out)

  nothing_due : (g f : ℕ) → ((g < groups) × (f < frames) → ⊥) → due (val g f) ≡ 0
  unfolding due
  nothing_due g f out = by (val g f) refl
    where
      by : (o : Option A) → val g f ≡ o → due o ≡ 0
      by none e = refl
      by (some v) e = absurd (out (inside g f v e))

  -- a list that fits on the page fits
  pub page_fits : {B : Type 0} (rows : List (Span B)) → on_page groups frames rows ≡ true → exact_on val groups frames rows ≡ true → Fits val rows
  unfolding exact_on
  page_fits rows on exact =
      record {
        ordered = ordered rows on;
        exact = λ g f.
            elim (dec_le (suc g) groups) [
              | yes a ↦
                  elim (dec_le (suc f) frames) [
                    | yes b ↦
                        eqb-true _ _
                        (all_from_lem 0 frames _ (all_from_lem 0 groups _ exact g (omega arith) (omega arith)) f (omega arith) (omega arith))
                    | no b ↦ off_page rows on g f (λ i. b i.1) ∙ sym (nothing_due g f (λ i. b i.1))
                  ]
              | no a ↦ off_page rows on g f (λ i. a i.0) ∙ sym (nothing_due g f (λ i. a i.0))
            ];
      }

-- the squared error is that of the frames up to the last that has some record in its memory
pub page_error : (kind width : ℕ) (rs : List (Span ℕ)) (rows : List (Span ℤ)) → leb (horizon width rs) frame_count ≡ true
    → squared_error (value kind width rs) rows
    ≡ over_frames group_count (horizon width rs) (λ g f. frame_cost squared (value kind width rs g f) (value_in rows g f))
unfolding squared_error over_frames frame_cost
page_error kind width rs rows h =
    let fits = leb-true (horizon width rs) frame_count h in
    let parts : frame_count ≡ horizon width rs + (frame_count - horizon width rs) = omega arith in
    sum_from_cong 0 group_count _ _
    (λ g a b.
    let cost : ℕ → ℕ = λ f. frame_cost squared (value kind width rs g f) (value_in rows g f) in
    let cut = sum_from-append 0 (horizon width rs) (frame_count - horizon width rs) cost in
    let none_left : sum_from (0 + horizon width rs) (frame_count - horizon width rs) cost ≡ 0 =
    sum_from_zero (0 + horizon width rs) (frame_count - horizon width rs) cost (λ f c d. rw (value_none kind width rs g f (omega arith))) in
    ap (λ (n : ℕ). sum_from 0 n cost) parts ∙ omega arith)

-- a frame with a value lies on that page
pub value_on_page : (kind width : ℕ) (rs : List (Span ℕ)) (g f v : ℕ) → value kind width rs g f ≡ some v
    → (g < group_count) × (f < horizon width rs)
value_on_page kind width rs g f v e = (
  (value_inside kind width rs g f v e).0,
  elim (dec_le (suc f) (horizon width rs)) [
    | yes h ↦ h
    | no h ↦ (let z : ◌≡◌ {A = ℕ} 0 1 = cc (value_none kind width rs g f (omega arith)) in absurd (omega arith))
  ],
)
