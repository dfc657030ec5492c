-- A list whose first places are overwritten one by one. Assumes nothing.
use Prim.Native.Nat.{ℕ, zero, suc, ◌≤◌, ◌<◌}
use mathlib.Core.List.{List, [], ◌∷◌, ◌++◌, map}
use mathlib.Core.Path.{◌≡◌, refl, sym, ap, ◌∙◌}
use native.Mathlib.Omega.{arith}
use lib.ListN.{length, get_or, set, take, drop, length-append, length-drop}
use lib.Seq.{drop-cons, take-suc}
use Rattle.model.specs.Common.{list_from}
use Rattle.theory.proofs.SlotLaws.{length-list_from}
use Rattle.theory.proofs.Lists.{list_from_snoc}

-- the list with h 0, h 1, .. in its first i places
unfoldable pub copied : {A : Type 0} → (ℕ → A) → List A → ℕ → List A
copied h list i = list_from 0 i h ++ drop i list

-- the place behind a list's first part is overwritten
set_behind : {A : Type 0} (front : List A) (a b : A) (rest : List A)
    → set (front ++ (a ∷ rest)) (length front) b ≡ (front ++ (b ∷ [])) ++ rest
set_behind [] a b rest = refl
set_behind (c ∷ front) a b rest = ap (λ l. c ∷ l) (set_behind front a b rest)

module _ {A : Type 0} (h : ℕ → A) (list : List A) where
  pub copied_none : copied h list 0 ≡ list
  unfolding copied list_from
  copied_none = refl

  pub copied_length : (i : ℕ) → i ≤ length list → length (copied h list i) ≡ length list
  unfolding copied
  copied_length i le =
      length-append (list_from 0 i h) (drop i list)
      ∙ (let a = length-list_from 0 i h in let b = length-drop i list in omega (arith, a, b, le))

  pub copied_more : (i : ℕ) → i < length list → set (copied h list i) i (h i) ≡ copied h list (suc i)
  unfolding copied
  copied_more i lt =
      ap (λ l. set (list_from 0 i h ++ l) i (h i)) (drop-cons list i (h i) lt)
      ∙ ap (λ n. set (list_from 0 i h ++ (get_or list i (h i) ∷ drop (suc i) list)) n (h i)) (sym (length-list_from 0 i h))
      ∙ set_behind (list_from 0 i h) (get_or list i (h i)) (h i) (drop (suc i) list)
      ∙ ap (λ l. l ++ drop (suc i) list) (sym (list_from_snoc h i))

-- what is copied may be made of another list's elements
pub copied_map : {A B : Type 0} (field : A → B) (g : ℕ → A) (list : List B) (i : ℕ)
    → copied (λ j. field (g j)) list i ≡ map field (list_from 0 i g) ++ drop i list
unfolding copied list_from
copied_map field g list i = ap (λ l. l ++ drop i list) (each 0 i)
  where
    each : (from count : ℕ) → list_from from count (λ j. field (g j)) ≡ map field (list_from from count g)
    each from zero = refl
    each from (suc count) = ap (λ l. field (g from) ∷ l) (each (suc from) count)

-- or be another list's first elements
pub copied_take : {A : Type 0} (from : List A) (d : A) (list : List A) (i : ℕ) → i ≤ length from
    → copied (λ j. get_or from j d) list i ≡ take i from ++ drop i list
unfolding copied list_from
copied_take {A} from d list i le = ap (λ l. l ++ drop i list) (first i le)
  where
    first : (i : ℕ) → i ≤ length from → list_from 0 i (λ j. get_or from j d) ≡ take i from
    first zero le = refl
    first (suc i) le =
        list_from_snoc (λ j. get_or from j d) i ∙ ap {B = List A} (λ l. l ++ (get_or from i d ∷ [])) (first i (omega (arith, le)))
        ∙ sym (take-suc from i d (omega (arith, le)))
