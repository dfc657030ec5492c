-- Laws of finite sums. Assumes nothing.
use Prim.Native.Nat.{ℕ, zero, suc, ◌+◌, ◌*◌, ◌-◌, ◌≤◌, ◌<◌, zero-le}
use mathlib.Core.Bool.{cond}
use mathlib.Core.List.{List, [], ◌∷◌, ◌++◌, map, Memᴰ}
use mathlib.Core.Path.{◌≡◌, refl, sym, ap, ap₂, ◌∙◌}
use native.Mathlib.Omega.{arith}
use native.Mathlib.Nat.{add-le-add, zero-add, add-zero, suc-add, add-suc, zero-mul, not-suc-le-zero, lt_of_not-le}
use native.Mathlib.Decide.{ℕ_discrete, dec_le}
use Rattle.model.specs.Common.{sum_from, sum_of}
use Rattle.model.specs.Spans.{Span, span_length, holds}
use Rattle.model.specs.Fitting.{over_frames}
use Rattle.theory.proofs.Tests.{true_holds, false_holds}

-- ---- over a range of numbers

pub sum_from_cong : (from count : ℕ) (h k : ℕ → ℕ) → ((i : ℕ) → from ≤ i → i < from + count → h i ≡ k i)
    → sum_from from count h ≡ sum_from from count k
unfolding sum_from
sum_from_cong from zero h k e = refl
sum_from_cong from (suc count) h k e =
    ap₂ ◌+◌ (e from (omega arith) (omega arith))
    (sum_from_cong (suc from) count h k (λ i a b. e i (omega arith) (omega arith)))

pub sum_from-le : (from count : ℕ) (h k : ℕ → ℕ) → ((i : ℕ) → from ≤ i → i < from + count → h i ≤ k i)
    → sum_from from count h ≤ sum_from from count k
unfolding sum_from
sum_from-le from zero h k e = zero-le
sum_from-le from (suc count) h k e =
    add-le-add (e from (omega arith) (omega arith))
    (sum_from-le (suc from) count h k (λ i a b. e i (omega arith) (omega arith)))

pub sum_from_zero : (from count : ℕ) (h : ℕ → ℕ) → ((i : ℕ) → from ≤ i → i < from + count → h i ≡ 0)
    → sum_from from count h ≡ 0
unfolding sum_from
sum_from_zero from zero h e = refl
sum_from_zero from (suc count) h e =
    let p : h from ≡ 0 = e from (omega arith) (omega arith) in
    let q : sum_from (suc from) count h ≡ 0 = sum_from_zero (suc from) count h (λ i a b. e i (omega arith) (omega arith)) in
    omega arith

pub sum_from-add : (from count : ℕ) (h k : ℕ → ℕ)
    → sum_from from count (λ i. h i + k i) ≡ sum_from from count h + sum_from from count k
unfolding sum_from
sum_from-add from zero h k = refl
sum_from-add from (suc count) h k = let ih = sum_from-add (suc from) count h k in omega arith

pub sum_from-append : (from a b : ℕ) (h : ℕ → ℕ)
    → sum_from from (a + b) h ≡ sum_from from a h + sum_from (from + a) b h
unfolding sum_from
sum_from-append from zero b h = simp (zero-add, add-zero)
sum_from-append from (suc a) b h =
    let ih = sum_from-append (suc from) a b h in
    rw (suc-add a b, add-suc from a, ← suc-add from a) (omega arith)

pub sum_from_snoc : (from count : ℕ) (h : ℕ → ℕ)
    → sum_from from (suc count) h ≡ sum_from from count h + h (from + count)
unfolding sum_from
sum_from_snoc from zero h = simp (zero-add, add-zero)
sum_from_snoc from (suc count) h =
    let ih = sum_from_snoc (suc from) count h in
    rw (add-suc from count, ← suc-add from count) (omega arith)

-- equal summands
pub sum_from_const : (from count c : ℕ) (h : ℕ → ℕ) → ((i : ℕ) → from ≤ i → i < from + count → h i ≡ c)
    → sum_from from count h ≡ count * c
unfolding sum_from
sum_from_const from zero c h e = sym (zero-mul c)
sum_from_const from (suc count) c h e =
    let p : h from ≡ c = e from (omega arith) (omega arith) in
    let q : sum_from (suc from) count h ≡ count * c = sum_from_const (suc from) count c h (λ i a b. e i (omega arith) (omega arith)) in
    omega arith

-- ---- over a list

pub sum_of_cong : {A : Type 0} (h k : A → ℕ) (l : List A) → ((a : A) → Memᴰ a l → h a ≡ k a)
    → sum_of h l ≡ sum_of k l
unfolding sum_of
sum_of_cong h k [] e = refl
sum_of_cong h k (a ∷ l) e =
    ap₂ ◌+◌ (e a (Memᴰ.head refl)) (sum_of_cong h k l (λ b m. e b (Memᴰ.tail m)))

pub sum_of-le : {A : Type 0} (h k : A → ℕ) (l : List A) → ((a : A) → Memᴰ a l → h a ≤ k a)
    → sum_of h l ≤ sum_of k l
unfolding sum_of
sum_of-le h k [] e = zero-le
sum_of-le h k (a ∷ l) e =
    add-le-add (e a (Memᴰ.head refl)) (sum_of-le h k l (λ b m. e b (Memᴰ.tail m)))

pub sum_of-append : {A : Type 0} (h : A → ℕ) (l m : List A) → sum_of h (l ++ m) ≡ sum_of h l + sum_of h m
unfolding sum_of
sum_of-append h [] m = omega arith
sum_of-append h (a ∷ l) m = let ih = sum_of-append h l m in omega arith

pub sum_of-map : {A B : Type 0} (h : B → ℕ) (k : A → B) (l : List A) → sum_of h (map k l) ≡ sum_of (λ a. h (k a)) l
unfolding sum_of
sum_of-map h k [] = refl
sum_of-map h k (a ∷ l) = ap (λ (n : ℕ). h (k a) + n) (sum_of-map h k l)

-- ---- swapped

pub sum_from-sum_of : {A : Type 0} (from count : ℕ) (h : ℕ → A → ℕ) (l : List A)
    → sum_from from count (λ i. sum_of (h i) l) ≡ sum_of (λ a. sum_from from count (λ i. h i a)) l
unfolding sum_of
sum_from-sum_of from count h [] = sum_from_zero from count (λ i. 0) (λ i a b. refl)
sum_from-sum_of from count h (a ∷ l) =
    sum_from-add from count (λ i. h i a) (λ i. sum_of (h i) l)
    ∙ ap (λ (n : ℕ). sum_from from count (λ i. h i a) + n) (sum_from-sum_of from count h l)

-- ---- over all frames of all groups

module _ (groups frames : ℕ) where
  pub over_frames_cong : (h k : ℕ → ℕ → ℕ) → ((g f : ℕ) → g < groups → f < frames → h g f ≡ k g f)
      → over_frames groups frames h ≡ over_frames groups frames k
  unfolding over_frames
  over_frames_cong h k e =
      sum_from_cong 0 groups _ _ (λ g a b. sum_from_cong 0 frames (h g) (k g) (λ f c d. e g f (omega arith) (omega arith)))

  pub over_frames-le : (h k : ℕ → ℕ → ℕ) → ((g f : ℕ) → g < groups → f < frames → h g f ≤ k g f)
      → over_frames groups frames h ≤ over_frames groups frames k
  unfolding over_frames
  over_frames-le h k e =
      sum_from-le 0 groups _ _ (λ g a b. sum_from-le 0 frames (h g) (k g) (λ f c d. e g f (omega arith) (omega arith)))

  pub over_frames-add : (h k : ℕ → ℕ → ℕ)
      → over_frames groups frames (λ g f. h g f + k g f) ≡ over_frames groups frames h + over_frames groups frames k
  unfolding over_frames
  over_frames-add h k =
      sum_from_cong 0 groups _ _ (λ g a b. sum_from-add 0 frames (h g) (k g))
      ∙ sum_from-add 0 groups (λ g. sum_from 0 frames (h g)) (λ g. sum_from 0 frames (k g))

  pub over_frames-sum_of : {A : Type 0} (h : ℕ → ℕ → A → ℕ) (l : List A)
      → over_frames groups frames (λ g f. sum_of (h g f) l) ≡ sum_of (λ a. over_frames groups frames (λ g f. h g f a)) l
  unfolding over_frames
  over_frames-sum_of h l =
      sum_from_cong 0 groups _ _ (λ g a b. sum_from-sum_of 0 frames (h g) l)
      ∙ sum_from-sum_of 0 groups (λ g a. sum_from 0 frames (λ f. h g f a)) l

-- ---- of what one span contains

-- one summand at most is not 0
pub sum_from-only : (count a x : ℕ) (h : ℕ → ℕ) → a < count → h a ≡ x → ((i : ℕ) → i < count → (i ≡ a → ⊥) → h i ≡ 0)
    → sum_from 0 count h ≡ x
sum_from-only zero a x h lt here other = absurd (not-suc-le-zero lt)
sum_from-only (suc count) a x h lt here other =
    let last : sum_from 0 (suc count) h ≡ sum_from 0 count h + h count = rw zero-add at (sum_from_snoc 0 count h) in
    elim (ℕ_discrete count a) [
      | yes e ↦
          (let p : h count ≡ x = ap h e ∙ here in
          let q : sum_from 0 count h ≡ 0 = sum_from_zero 0 count h (λ i l r. other i (omega arith) (omega arith)) in
          omega arith)
      | no ne ↦
          (let p : h count ≡ 0 = other count (omega arith) ne in
          let q : sum_from 0 count h ≡ x =
          sum_from-only count a x h (omega arith) here (λ i l. other i (omega arith)) in
          omega arith)
    ]

-- the frames of a span, each with the same weight
module _ {A : Type 0} (c : ℕ) (s : Span A) where
  weight : ℕ → ℕ → ℕ
  weight g f = cond (holds s g f) c 0

  weight_inside : (f : ℕ) → s.first ≤ f → f ≤ s.last → weight s.group f ≡ c
  unfolding weight
  weight_inside f a b = rw (true_holds s s.group f refl a b)

  weight_outside : (g f : ℕ) → (s.group ≡ g → s.first ≤ f → f ≤ s.last → ⊥) → weight g f ≡ 0
  unfolding weight
  weight_outside g f h = rw (false_holds s g f h)

  weight_group : (frames : ℕ) → s.last < frames → sum_from 0 frames (weight s.group) ≡ span_length s * c
  unfolding span_length
  weight_group frames lt = elim (dec_le s.first (suc s.last)) [ yes h ↦ proper h | no h ↦ void h ]
    where
      proper : s.first ≤ suc s.last → sum_from 0 frames (weight s.group) ≡ (suc s.last - s.first) * c
      proper h =
          let len : ℕ = suc s.last - s.first in
          let rest : ℕ = frames - suc s.last in
          let parts : frames ≡ s.first + (len + rest) = omega arith in
          let before : sum_from 0 s.first (weight s.group) ≡ 0 =
          sum_from_zero 0 s.first (weight s.group) (λ f a b. weight_outside s.group f (λ p q r. omega arith)) in
          let inside : sum_from (0 + s.first) len (weight s.group) ≡ len * c =
          sum_from_const (0 + s.first) len c (weight s.group) (λ f a b. weight_inside f (omega arith) (omega arith)) in
          let after : sum_from (0 + s.first + len) rest (weight s.group) ≡ 0 =
          sum_from_zero (0 + s.first + len) rest (weight s.group)
          (λ f a b. weight_outside s.group f (λ p q r. omega arith)) in
          let cut = sum_from-append 0 s.first (len + rest) (weight s.group) in
          let cut' = sum_from-append (0 + s.first) len rest (weight s.group) in
          ap (λ (n : ℕ). sum_from 0 n (weight s.group)) parts ∙ omega arith

      void : (s.first ≤ suc s.last → ⊥) → sum_from 0 frames (weight s.group) ≡ (suc s.last - s.first) * c
      void h =
          let far : suc s.last < s.first = lt_of_not-le h in
          let nothing : suc s.last - s.first ≡ 0 = omega arith in
          sum_from_zero 0 frames (weight s.group) (λ f a b. weight_outside s.group f (λ p q r. omega arith))
          ∙ sym (ap (λ (n : ℕ). n * c) nothing ∙ zero-mul c)

pub over_frames-holds : {A : Type 0} (groups frames c : ℕ) (s : Span A) → s.group < groups → s.last < frames
    → over_frames groups frames (λ g f. cond (holds s g f) c 0) ≡ span_length s * c
unfolding over_frames weight
over_frames-holds groups frames c s in_groups in_frames =
    sum_from-only groups s.group (span_length s * c) (λ g. sum_from 0 frames (weight c s g)) in_groups
    (weight_group c s frames in_frames)
    (λ g lt ne. sum_from_zero 0 frames (weight c s g) (λ f a b. weight_outside c s g f (λ p q r. ne (sym p))))
