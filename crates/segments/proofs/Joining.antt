-- Joined spans: joining what is joined already changes nothing, more spans behind make no fewer segments, and a span behind
-- joined ones concerns the last of them alone. Assumes nothing.
use Prim.Native.Nat.{ℕ, suc, ◌≤◌, zero-le}
use mathlib.Core.Bool.{Bool, true, false, ◌&&◌}
use mathlib.Core.List.{List, [], ◌∷◌, ◌++◌, foldr, append_assoc, foldr-append}
use mathlib.Core.Path.{◌≡◌, refl, sym, ap, ◌∙◌}
use native.Mathlib.Omega.{arith}
use lib.Dec.{eqb}
use lib.ListN.{length}
use borrow.Author.Tests.{eqb-true}
use Rattle.model.specs.Spans.{Span, adjacent}
use Rattle.model.specs.Segments.{join, fuse}
use Rattle.theory.proofs.Tests.{cases, and-true, adjacent_true, true≢false}
use Rattle.segments.specs.Steps.{joins, joined}

-- ---- one span before others

joins_true : (s t : Span ℕ) → joins s t ≡ true → (s.group ≡ t.group) × (suc s.last ≡ t.first) × (s.value ≡ t.value)
unfolding joins
joins_true s t e =
    let p = and-true (adjacent s t) (eqb s.value t.value) e in
    let q = adjacent_true s t p.0 in
    (q.0, q.1, eqb-true _ _ p.1)

-- two spans that join, before a list, are one
pub fuse_join : (s t : Span ℕ) (rest : List (Span ℕ)) → joins s t ≡ true
    → fuse eqb s (fuse eqb t rest) ≡ fuse eqb (join s t) rest
unfolding fuse join joins adjacent
fuse_join s t [] e = rw e
fuse_join s t (u ∷ rest) e =
    let same = joins_true s t e in
    rw (same.0, same.2)
    (cases (eqb t.group u.group && eqb (suc t.last) u.first && eqb t.value u.value)
    (λ c. rw (c, rw (same.0, same.2) at e)) (λ c. rw (c, rw (same.0, same.2) at e)))

-- and two that do not join stay apart
fuse_apart : (s t : Span ℕ) (rest : List (Span ℕ)) → joins s t ≡ false → fuse eqb s (t ∷ rest) ≡ s ∷ t ∷ rest
unfolding fuse joins
fuse_apart s t rest e = rw e

fuse_joined : (s t : Span ℕ) (rest : List (Span ℕ)) → joins s t ≡ true → fuse eqb s (t ∷ rest) ≡ join s t ∷ rest
unfolding fuse joins
fuse_joined s t rest e = rw e

-- spans fused before a list may be fused among themselves first
fuse_first : (rest : List (Span ℕ)) (s : Span ℕ) (l : List (Span ℕ))
    → foldr (fuse eqb) rest (fuse eqb s l) ≡ fuse eqb s (foldr (fuse eqb) rest l)
unfolding fuse
fuse_first rest s [] = refl
fuse_first rest s (t ∷ l) =
    cases (joins s t)
    (λ e. rw (fuse_joined s t l e) (sym (fuse_join s t (foldr (fuse eqb) rest l) e))) (λ e. rw (fuse_apart s t l e))

joined_first : (rest l : List (Span ℕ)) → foldr (fuse eqb) rest (joined l) ≡ foldr (fuse eqb) rest l
unfolding joined
joined_first rest [] = refl
joined_first rest (s ∷ l) = fuse_first rest s (foldr (fuse eqb) [] l) ∙ ap (fuse eqb s) (joined_first rest l)

-- joining in parts is joining the whole
pub joined_append : (l r : List (Span ℕ)) → joined (joined l ++ r) ≡ joined (l ++ r)
unfolding joined
joined_append l r =
    foldr-append (fuse eqb) [] (joined l) r ∙ joined_first (foldr (fuse eqb) [] r) l ∙ sym (foldr-append (fuse eqb) [] l r)

pub joined_joined : (l : List (Span ℕ)) → joined (joined l) ≡ joined l
unfolding joined
joined_joined l = joined_first [] l

-- ---- more spans behind make no fewer segments

-- the first of each list has the same group, first frame and value, and the second list is no shorter
data Before : List (Span ℕ) → List (Span ℕ) → Type 0 where
  nothing_before : {r : List (Span ℕ)} → Before [] r
  one_before : {s t : Span ℕ} {l r : List (Span ℕ)} → s.group ≡ t.group → s.first ≡ t.first → s.value ≡ t.value
      → length l ≤ length r → Before (s ∷ l) (t ∷ r)

before_le : {l r : List (Span ℕ)} → Before l r → length l ≤ length r
before_le nothing_before = omega arith
before_le (one_before g f v le) = omega arith

-- whether a span joins another does not depend on where that one ends
joins_first : (a s t : Span ℕ) → s.group ≡ t.group → s.first ≡ t.first → s.value ≡ t.value → joins a s ≡ joins a t
unfolding joins adjacent
joins_first a s t g f v = rw (g, f, v)

before_fuse : (a : Span ℕ) {l r : List (Span ℕ)} → Before l r → Before (fuse eqb a l) (fuse eqb a r)
unfolding fuse join
before_fuse a {r = []} nothing_before = one_before refl refl refl zero-le
before_fuse a {r = t ∷ r} nothing_before =
    cases (joins a t) (λ e. rw (fuse_joined a t r e) (one_before refl refl refl zero-le))
    (λ e. rw (fuse_apart a t r e) (one_before refl refl refl zero-le))
before_fuse a (one_before {s = s} {t = t} {l = l} {r = r} g f v le) =
    let longer : length (s ∷ l) ≤ length (t ∷ r) = omega arith in
    cases (joins a t)
    (λ e. rw (fuse_joined a t r e, fuse_joined a s l (joins_first a s t g f v ∙ e)) (one_before refl refl refl le))
    (λ e. rw (fuse_apart a t r e, fuse_apart a s l (joins_first a s t g f v ∙ e)) (one_before refl refl refl longer))

before_foldr : (rest l : List (Span ℕ)) → Before (foldr (fuse eqb) [] l) (foldr (fuse eqb) rest l)
before_foldr rest [] = nothing_before
before_foldr rest (a ∷ l) = before_fuse a (before_foldr rest l)

pub joined_le : (l r : List (Span ℕ)) → length (joined l) ≤ length (joined (l ++ r))
unfolding joined
joined_le l r = rw (foldr-append (fuse eqb) [] l r) (before_le (before_foldr (foldr (fuse eqb) [] r) l))

-- ---- a span behind joined ones

-- no span joins the next
abbrev pub Apart : List (Span ℕ) → Type 0
Apart [] = Unit {0}
Apart (s ∷ []) = Unit {0}
Apart (s ∷ t ∷ l) = (joins s t ≡ false) × Apart (t ∷ l)

-- a span that is joined to the next joins no other
apart_join : (s t : Span ℕ) (l : List (Span ℕ)) → joins s t ≡ true → Apart (t ∷ l) → Apart (join s t ∷ l)
unfolding join joins adjacent
apart_join s t [] e apart = tt
apart_join s t (u ∷ l) e apart =
    let same = joins_true s t e in (rw (same.0, same.2) apart.0, apart.1)

apart_fuse : (s : Span ℕ) (l : List (Span ℕ)) → Apart l → Apart (fuse eqb s l)
unfolding fuse
apart_fuse s [] apart = tt
apart_fuse s (t ∷ l) apart =
    cases (joins s t) (λ e. rw (fuse_joined s t l e) (apart_join s t l e apart)) (λ e. rw (fuse_apart s t l e) (e, apart))

pub joined_apart : (l : List (Span ℕ)) → Apart (joined l)
unfolding joined
joined_apart [] = tt
joined_apart (s ∷ l) = apart_fuse s (joined l) (joined_apart l)

-- spans that do not join are left as they are, before one that begins as the last of them did
settled : (l : List (Span ℕ)) (s t : Span ℕ) (rest : List (Span ℕ)) → s.group ≡ t.group → s.first ≡ t.first
    → s.value ≡ t.value → Apart (l ++ (s ∷ [])) → foldr (fuse eqb) (t ∷ rest) l ≡ l ++ t ∷ rest
settled [] s t rest g f v apart = refl
settled (a ∷ []) s t rest g f v apart = fuse_apart a t rest (sym (joins_first a s t g f v) ∙ apart.0)
settled (a ∷ b ∷ l) s t rest g f v apart =
    rw (settled (b ∷ l) s t rest g f v apart.1) (fuse_apart a b (l ++ t ∷ rest) apart.0)

-- a list is empty, or has a last element
pub data Ends {A : Type 0} : List A → Type 0 where
  no_end : Ends []
  end : (l : List A) (a : A) → Ends (l ++ (a ∷ []))

pub ends : {A : Type 0} (l : List A) → Ends l
ends [] = no_end
ends {A} (a ∷ l) = by (ends l)
  where
    by : {l : List A} → Ends l → Ends (a ∷ l)
    by no_end = end [] a
    by (end l b) = end (a ∷ l) b

-- a span that comes behind others is adjacent to the last of them and equal to it in value
unfoldable pub joins_last : List (Span ℕ) → Span ℕ → Bool
joins_last [] s = false
joins_last (t ∷ []) s = joins t s
joins_last (t ∷ u ∷ spans) s = joins_last (u ∷ spans) s

-- nothing joins the last of none
pub joins_last_none : (s : Span ℕ) → joins_last [] s ≡ true → ⊥
unfolding joins_last
joins_last_none s e = true≢false (sym e)

pub joins_last-end : (l : List (Span ℕ)) (t s : Span ℕ) → joins_last (l ++ (t ∷ [])) s ≡ joins t s
unfolding joins_last
joins_last-end [] t s = refl
joins_last-end (a ∷ []) t s = refl
joins_last-end (a ∷ b ∷ l) t s = joins_last-end (b ∷ l) t s

-- the last is joined
pub last_joined : (l : List (Span ℕ)) (t s : Span ℕ) → Apart (l ++ (t ∷ [])) → joins t s ≡ true
    → joined (l ++ (t ∷ []) ++ (s ∷ [])) ≡ l ++ (join t s ∷ [])
unfolding joined fuse join
last_joined l t s apart e =
    foldr-append (fuse eqb) [] (l ++ (t ∷ [])) (s ∷ []) ∙ foldr-append (fuse eqb) (s ∷ []) l (t ∷ [])
    ∙ ap (λ r. foldr (fuse eqb) r l) (fuse_joined t s [] e)
    ∙ settled l t (join t s) [] refl refl refl apart

-- or the span stands by itself
pub last_apart : (l : List (Span ℕ)) (s : Span ℕ) → Apart l → joins_last l s ≡ false
    → joined (l ++ (s ∷ [])) ≡ l ++ (s ∷ [])
unfolding joined fuse
last_apart l s apart e = by (ends l) apart e
  where
    by : {l : List (Span ℕ)} → Ends l → Apart l → joins_last l s ≡ false → joined (l ++ (s ∷ [])) ≡ l ++ (s ∷ [])
    by no_end apart e = refl
    by (end l t) apart e =
        foldr-append (fuse eqb) [] (l ++ (t ∷ [])) (s ∷ []) ∙ foldr-append (fuse eqb) (s ∷ []) l (t ∷ [])
        ∙ ap (λ r. foldr (fuse eqb) r l) (fuse_apart t s [] (sym (joins_last-end l t s) ∙ e))
        ∙ settled l t t (s ∷ []) refl refl refl apart
        ∙ sym (append_assoc l (t ∷ []) (s ∷ []))
