-- What tests tell: `cond` and `&&` by cases, and the tests on spans as facts, both ways. Assumes nothing.
use Prim.Native.Nat.{ℕ, suc, ◌≤◌}
use mathlib.Core.Bool.{Bool, true, false, ◌&&◌, false≢true}
use mathlib.Core.Option.{Option, none, some}
use mathlib.Core.Path.{◌≡◌, refl, sym}
use native.Mathlib.Omega.{arith}
use lib.Dec.{leb, eqb}
use borrow.Author.Tests.{leb-true, eqb-true, le-leb, eq-eqb}
use Rattle.model.specs.Common.{is_some}
use Rattle.model.specs.Spans.{Span, meets, holds, adjacent}

pub true≢false : true ≡ false → ⊥
true≢false e = false≢true (sym e)

-- an option is 'none', or 'some' of one value
pub none≢some : {A : Type 0} {a : A} {o : Option A} → o ≡ none → o ≡ some a → ⊥
none≢some p q = let z : ◌≡◌ {A = ℕ} 0 1 = cc in omega arith

pub some_inj : {A : Type 0} {a b : A} {o : Option A} → o ≡ some a → o ≡ some b → a ≡ b
some_inj p q = cc

pub is_some_lem : {A : Type 0} (o : Option A) → is_some o ≡ true → (a : A) × (o ≡ some a)
unfolding is_some
is_some_lem none e = absurd (false≢true e)
is_some_lem (some a) e = (a, refl)

pub is_none : {A : Type 0} (o : Option A) → is_some o ≡ false → o ≡ none
unfolding is_some
is_none none e = refl
is_none (some a) e = absurd (true≢false e)

-- a test is passed or failed
pub cases {ℓ} : {P : Type ℓ} (b : Bool) → (b ≡ true → P) → (b ≡ false → P) → P
cases true yes-case no-case = yes-case refl
cases false yes-case no-case = no-case refl

pub and-true : (a b : Bool) → a && b ≡ true → (a ≡ true) × (b ≡ true)
and-true true b e = (refl, e)
and-true false b e = absurd (false≢true e)

pub true_and : (a b : Bool) → a ≡ true → b ≡ true → a && b ≡ true
true_and true b p q = q
true_and false b p q = absurd (false≢true p)

-- a test that cannot be passed is failed
pub is_false : (b : Bool) → (b ≡ true → ⊥) → b ≡ false
is_false true h = absurd (h refl)
is_false false h = refl

module _ {A : Type 0} (s : Span A) (g f : ℕ) where
  pub holds_true : holds s g f ≡ true → (s.group ≡ g) × (s.first ≤ f) × (f ≤ s.last)
  unfolding holds meets
  holds_true e =
      let p = and-true (eqb s.group g && leb s.first f) (leb f s.last) e in
      let q = and-true (eqb s.group g) (leb s.first f) p.0 in
      (eqb-true _ _ q.0, leb-true _ _ q.1, leb-true _ _ p.1)

  pub true_holds : s.group ≡ g → s.first ≤ f → f ≤ s.last → holds s g f ≡ true
  unfolding holds meets
  true_holds p q r =
      true_and _ _ (true_and _ _ (eq-eqb _ _ p) (le-leb _ _ q)) (le-leb _ _ r)

  pub false_holds : (s.group ≡ g → s.first ≤ f → f ≤ s.last → ⊥) → holds s g f ≡ false
  false_holds h = is_false (holds s g f) (λ e. h (holds_true e).0 (holds_true e).1 (holds_true e).2)

module _ {A B : Type 0} (s : Span A) (t : Span B) where
  pub adjacent_true : adjacent s t ≡ true → (s.group ≡ t.group) × (suc s.last ≡ t.first)
  unfolding adjacent
  adjacent_true e =
      let p = and-true (eqb s.group t.group) (eqb (suc s.last) t.first) e in
      (eqb-true _ _ p.0, eqb-true _ _ p.1)

  pub true_adjacent : s.group ≡ t.group → suc s.last ≡ t.first → adjacent s t ≡ true
  unfolding adjacent
  true_adjacent p q = true_and _ _ (eq-eqb _ _ p) (eq-eqb _ _ q)
