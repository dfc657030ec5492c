-- Lists in another order: what they have in common, and which lists are each other in another order. Assumes nothing.
use Prim.Native.Nat.{ℕ, zero, suc, ◌+◌, ◌<◌}
use mathlib.Core.List.Memᴰ
use mathlib.Core.List.{List, [], ◌∷◌, foldr, Memᴰ}
use mathlib.Core.List.Permᴰ
use mathlib.Core.List.{Permᴰ}
use mathlib.Core.Logic.{⊎_elim, ◌↔◌}
use mathlib.Core.Path.{◌≡◌, refl, sym, ap, ap₂, ◌∙◌, subst}
use native.Mathlib.Omega.{arith}
use lib.ListN.{length, get_or}
use Rattle.model.specs.Common.{list_from}
use Rattle.theory.proofs.Converse.{member_list_from}
use Rattle.theory.proofs.SlotLaws.{member_at}

module _ {A : Type 0} where
  -- they have as many elements
  pub length_order : {xs ys : List A} → Permᴰ xs ys → length xs ≡ length ys
  length_order Permᴰ.nil = refl
  length_order (Permᴰ.cons e p) = ap suc (length_order p)
  length_order (Permᴰ.swap e f) = refl
  length_order (Permᴰ.trans p q) = length_order p ∙ length_order q

-- and the same fold, by what takes two numbers in any order
module _ (op : ℕ → ℕ → ℕ) (turned : (a b c : ℕ) → op a (op b c) ≡ op b (op a c)) where
  pub fold_order : (z : ℕ) {xs ys : List ℕ} → Permᴰ xs ys → foldr op z xs ≡ foldr op z ys
  fold_order z Permᴰ.nil = refl
  fold_order z (Permᴰ.cons e p) = ap₂ op e (fold_order z p)
  fold_order z (Permᴰ.swap {a} {b} {a'} {b'} {l} e f) = turned a b (foldr op z l) ∙ ap₂ (λ x y. op x (op y (foldr op z l))) f e
  fold_order z (Permᴰ.trans p q) = fold_order z p ∙ fold_order z q

  -- the number that the fold begins with is one of them
  pub fold_turned : ((a b : ℕ) → op a b ≡ op b a) → (x y : ℕ) (l : List ℕ) → foldr op x (y ∷ l) ≡ foldr op y (x ∷ l)
  fold_turned either x y [] = either y x
  fold_turned either x y (z ∷ l) =
      turned y z (foldr op x l) ∙ ap (op z) (fold_turned either x y l) ∙ turned z x (foldr op y l)

module _ {A : Type 0} where
  -- they have the same members
  pub member_order : {a : A} {xs ys : List A} → Permᴰ xs ys → Memᴰ a xs → Memᴰ a ys
  member_order Permᴰ.nil m = m
  member_order (Permᴰ.cons e p) m =
      ⊎_elim (λ f. Memᴰ.head (f ∙ e)) (λ n. Memᴰ.tail (member_order p n)) (Memᴰ.cases_cons m)
  member_order (Permᴰ.swap e f) m =
      ⊎_elim (λ h. Memᴰ.tail (Memᴰ.head (h ∙ e)))
      (λ n. ⊎_elim (λ h. Memᴰ.head (h ∙ f)) (λ k. Memᴰ.tail (Memᴰ.tail k)) (Memᴰ.cases_cons n))
      (Memᴰ.cases_cons m)
  member_order (Permᴰ.trans p q) m = member_order q (member_order p m)

  -- no element stands twice in a list
  abbrev pub Once : List A → Type 0
  Once [] = Unit {0}
  Once (x ∷ xs) = (Memᴰ x xs → ⊥) × Once xs

  pub once_order : {xs ys : List A} → Permᴰ xs ys → Once xs → Once ys
  once_order Permᴰ.nil once = once
  once_order (Permᴰ.cons {a} {b} {l₁} {l₂} e p) (apart, once) =
      ((λ m. apart (subst (λ (x : A). Memᴰ x l₁) (sym e) (member_order (Permᴰ.symm p) m))), once_order p once)
  once_order (Permᴰ.swap {a} {b} {a'} {b'} {l} e f) (apart, (apart-too, once)) = (
    (λ m. ⊎_elim (λ h. apart (Memᴰ.head (e ∙ sym h ∙ sym f)))
        (λ n. apart-too (subst (λ (x : A). Memᴰ x l) (sym f) n)) (Memᴰ.cases_cons m)),
    ((λ m. apart (Memᴰ.tail (subst (λ (x : A). Memᴰ x l) (sym e) m))), once),
  )
  once_order (Permᴰ.trans p q) once = once_order q (once_order p once)

  -- an element ahead of the others
  ahead_of : {a : A} (l : List A) → Memᴰ a l → (rest : List A) × Permᴰ l (a ∷ rest)
  ahead_of [] m = absurd (Memᴰ.not-nil m)
  ahead_of (x ∷ l) m =
      ⊎_elim (λ e. (l, Permᴰ.cons (sym e) (Permᴰ.refl l)))
      (λ n. let (rest, p) = ahead_of l n in (x ∷ rest, Permᴰ.trans (Permᴰ.cons refl p) (Permᴰ.swap refl refl)))
      (Memᴰ.cases_cons m)

  -- lists of the same elements, each once, are each other in another order
  pub each_in_the_other : (xs ys : List A) → Once xs → Once ys → ((a : A) → Memᴰ a xs ↔ Memᴰ a ys) → Permᴰ xs ys
  each_in_the_other [] [] once once-too same = Permᴰ.nil
  each_in_the_other [] (y ∷ ys) once once-too same = absurd (Memᴰ.not-nil ((same y).1 (Memᴰ.head refl)))
  each_in_the_other (x ∷ xs) ys (apart, once) once-too same =
      let (rest, p) = ahead_of ys ((same x).0 (Memᴰ.head refl)) in
      let (none_left, once-left) = once_order p once-too in
      Permᴰ.trans (Permᴰ.cons refl (each_in_the_other xs rest once once-left (left rest p none_left))) (Permᴰ.symm p)
    where
      left : (rest : List A) → Permᴰ ys (x ∷ rest) → (Memᴰ x rest → ⊥) → (a : A) → Memᴰ a xs ↔ Memᴰ a rest
      left rest p none_left a = (
        λ m.
            ⊎_elim (λ (e : a ≡ x). absurd (apart (subst (λ (b : A). Memᴰ b xs) e m))) (λ n. n)
            (Memᴰ.cases_cons (member_order p ((same a).0 (Memᴰ.tail m)))),
        λ m.
            ⊎_elim (λ (e : a ≡ x). absurd (none_left (subst (λ (b : A). Memᴰ b rest) e m))) (λ n. n)
            (Memᴰ.cases_cons ((same a).1 (member_order (Permᴰ.symm p) (Memᴰ.tail m)))),
      )

  pub once_at : (d : A) (l : List A) → Once l → (i j : ℕ) → i < j → j < length l → get_or l i d ≡ get_or l j d → ⊥
  once_at d [] once i j less lt e = omega arith
  once_at d (a ∷ l) (apart, once) i zero less lt e = omega arith
  once_at d (a ∷ l) (apart, once) zero (suc j) less lt e =
      apart (subst (λ (x : A). Memᴰ x l) (sym e) (member_at d l j (omega arith)))
  once_at d (a ∷ l) (apart, once) (suc i) (suc j) less lt e = once_at d l once i j (omega arith) (omega arith) e

  pub once-list_from : (h : ℕ → A) (from count : ℕ) → ((i j : ℕ) → i < j → j < from + count → h i ≡ h j → ⊥) → Once (list_from from count h)
  unfolding list_from
  once-list_from h from zero apart = tt
  once-list_from h from (suc count) apart = (
    λ m. let (i, low, high, e) = member_list_from h (suc from) count _ m in apart from i (omega arith) (omega arith) e,
    once-list_from h (suc from) count (λ i j less lt. apart i j less (omega arith)),
  )
