-- The records of a group, and the loads of those that meet a stretch of frames: what one record more changes, and what the loads
-- aggregate to. Assumes nothing.
use Prim.Native.Nat.{ℕ, zero, suc, ◌+◌, ◌-◌, ◌*◌, ◌/◌, ◌%◌, ◌≤◌, ◌<◌, min, max}
use mathlib.Core.Bool.{Bool, true, false, cond}
use mathlib.Core.List.{List, [], ◌∷◌, ◌++◌, foldr, append_assoc}
use mathlib.Core.Option.{none, some}
use mathlib.Core.Path.{◌≡◌, refl, sym, ap, ◌∙◌}
use native.Mathlib.Numerals.{add-one}
use native.Mathlib.Omega.{arith}
use lib.Dec.{eqb}
use lib.ListN.{length, set}
use lib.Seq.{get_or-set_same, get_or-set_other}
use mir.Val.{bool_byte}
use Rattle.std.specs.List.{FoldsTo}
use Rattle.model.specs.Common.{list_from}
use Rattle.model.specs.Spans.{Span, meets}
use Rattle.model.specs.Log.{sum, aggregate, aggregated, meeting}
use Rattle.theory.proofs.Tests.{cases}
use Rattle.theory.proofs.Lists.{list_from_left, list_from_snoc}
use Rattle.tally.specs.Tally.{own_from, only_of, held, loads_at, loads_or, TakesUp, stop_of, stop_at}
use Rattle.tally.specs.declared.Own.{Own}
use Rattle.tally.proofs.Stops.{stop_le}

-- ---- the records of a group, stored side by side

-- stores past the records in hand do not change them
owns_kept : (f l w : List ℕ) (n x y z from count : ℕ) → from + count ≤ n
    → list_from from count (own_from (set f n x) (set l n y) (set w n z)) ≡ list_from from count (own_from f l w)
unfolding list_from
owns_kept f l w n x y z from zero past = refl
owns_kept f l w n x y z from (suc count) past =
    let other : from ≡ n → ⊥ = λ (e : from ≡ n). omega arith in
    rw (get_or-set_other f n from x 0 other, get_or-set_other l n from y 0 other, get_or-set_other w n from z 0 other)
    (ap (λ (r : List Own). own_from f l w from ∷ r) (owns_kept f l w n x y z (suc from) count (omega arith)))

pub owns_more : (f l w : List ℕ) (n x y z : ℕ) → (n < length f) × (n < length l) × (n < length w)
    → list_from 0 (suc n) (own_from (set f n x) (set l n y) (set w n z))
    ≡ list_from 0 n (own_from f l w) ++ (record { first = x; last = y; load = z } ∷ [])
owns_more f l w n x y z (f_room, l_room, w_room) =
    list_from_snoc (own_from (set f n x) (set l n y) (set w n z)) n
    ∙ rw (
      get_or-set_same f n x 0 f_room,
      get_or-set_same l n y 0 l_room,
      get_or-set_same w n z 0 w_room,
      owns_kept f l w n x y z 0 n (omega arith),
    )

-- these records of group g have been selected from the first i: they and those among the records left are the group's
abbrev pub Selected : ℕ → (ℕ → Span ℕ) → ℕ → ℕ → List Own → Type 0
Selected g h count i owns = owns ++ only_of g (list_from i (count - i) h) ≡ only_of g (list_from 0 count h)

module _ (g : ℕ) (h : ℕ → Span ℕ) (count i : ℕ) (lt : i < count) (owns : List Own) (so_far : Selected g h count i owns) where
  -- a record of the group is stored
  pub select_more : eqb (h i).group g ≡ true → (put : List Own)
      → put ≡ owns ++ (record { first = (h i).first; last = (h i).last; load = (h i).value } ∷ []) → Selected g h count (i + 1) put
  unfolding only_of
  select_more chosen put kept =
      rw (add-one i, kept)
      (append_assoc owns _ (only_of g (list_from (suc i) (count - suc i) h))
      ∙ rw (list_from_left h i count lt, chosen) at so_far)

  -- another one is not
  pub select_less : eqb (h i).group g ≡ false → Selected g h count (i + 1) owns
  unfolding only_of
  select_less other = rw (add-one i) (rw (list_from_left h i count lt, other) at so_far)

-- the loads that a group has at a stretch of frames are those of the group's records
pub meeting_own : (rs : List (Span ℕ)) (g a b : ℕ) → meeting rs g a b ≡ loads_at a b (only_of g rs)
unfolding meeting meets only_of loads_at
meeting_own [] g a b = refl
meeting_own (r ∷ rs) g a b =
    cases (eqb r.group g) (λ e. rw (e, meeting_own rs g a b)) (λ e. rw (e, meeting_own rs g a b))

-- ---- one record before the others

module _ (a b : ℕ) (h : ℕ → Own) (i count : ℕ) (lt : i < count) where
  loads_left : loads_at a b (list_from i (count - i) h)
      ≡ cond (held a b (h i)) ((h i).load ∷ loads_at a b (list_from (suc i) (count - suc i) h))
      (loads_at a b (list_from (suc i) (count - suc i) h))
  unfolding loads_at
  loads_left = ap (loads_at a b) (list_from_left h i count lt)

  -- one load more for the count, and for a fold whose start changes nothing
  count_left : length (loads_at a b (list_from i (count - i) h))
      ≡ bool_byte (held a b (h i)) + length (loads_at a b (list_from (suc i) (count - suc i) h))
  count_left =
      ap (λ (l : List ℕ). length l) loads_left
      ∙ cases (held a b (h i)) (λ e. rw e (omega arith)) (λ e. rw e (omega arith))

  pub fold_left : (op : ℕ → ℕ → ℕ) (start : ℕ) → ((l : List ℕ) → op start (foldr op start l) ≡ foldr op start l)
      → foldr op start (loads_at a b (list_from i (count - i) h))
      ≡ op (cond (held a b (h i)) (h i).load start) (foldr op start (loads_at a b (list_from (suc i) (count - suc i) h)))
  fold_left op start unit =
      ap (foldr op start) loads_left
      ∙ cases (held a b (h i)) (λ e. rw e) (λ e. rw e (sym (unit (loads_at a b (list_from (suc i) (count - suc i) h)))))

  stop_left : stop_at a (list_from i (count - i) h) ≡ min (stop_of a (h i)) (stop_at a (list_from (suc i) (count - suc i) h))
  unfolding stop_at
  stop_left = ap (stop_at a) (list_from_left h i count lt)

-- the starts of the sum, of the least and of the greatest
sum_start : (l : List ℕ) → 0 + foldr ◌+◌ 0 l ≡ foldr ◌+◌ 0 l
sum_start l = omega arith

pub least_start : (l : List ℕ) → min 65535 (foldr min 65535 l) ≡ foldr min 65535 l
least_start [] = omega arith
least_start (x ∷ l) = omega (arith, least_start l)

pub greatest_start : (l : List ℕ) → max 0 (foldr max 0 l) ≡ foldr max 0 l
greatest_start l = omega arith

-- ---- a fold

-- what loads come to that are taken up one by one by an operation: the starts in place of those that are left out change nothing
module _ (op : ℕ → ℕ → ℕ) (start : ℕ) (chain : (x y z : ℕ) → op (op x y) z ≡ op x (op y z))
    (unit : (l : List ℕ) → op start (foldr op start l) ≡ foldr op start l)
    (Take : ℕ → ℕ → ℕ → Type 0) (takes : (x y z : ℕ) → Take x y z → z ≡ op x y) (a b : ℕ) where
  pub folded : (rs : List Own) (x r : ℕ) → FoldsTo Take x (loads_or start a b rs) r
      → op r start ≡ op x (foldr op start (loads_at a b rs))
  unfolding loads_or loads_at
  folded [] x r end = rw end
  folded (own ∷ rs) x r (y, step, rest) =
      folded rs y r rest
      ∙ rw (takes x _ y step)
      (chain x _ _ ∙ cases (held a b own) (λ e. rw e) (λ e. rw e (ap (op x) (unit (loads_at a b rs)))))

-- ---- a survey

-- the first i records have been surveyed: what is found with what the records left have is what all have; and each adds at most 1
-- to the count and 255 to each half of the sum
abbrev pub Surveying : ℕ → ℕ → (ℕ → Own) → ℕ → ℕ → ℕ → ℕ → ℕ → ℕ → Type 0
Surveying a b h own i stop count low high =
    ((stop ≤ 65535) × (count ≤ i) × (low ≤ 255 * i) × (high ≤ 255 * i))
    × (min stop (stop_at a (list_from i (own - i) h)) ≡ stop_at a (list_from 0 own h))
    × (count + length (loads_at a b (list_from i (own - i) h)) ≡ length (loads_at a b (list_from 0 own h)))
    × (low + 256 * high + sum (loads_at a b (list_from i (own - i) h)) ≡ sum (loads_at a b (list_from 0 own h)))

-- a count grows by 0 or 1
pub byte_le : (b : Bool) → bool_byte b ≤ 1
byte_le true = omega arith
byte_le false = omega arith

module _ (a b : ℕ) (h : ℕ → Own) (own : ℕ) where
  pub survey_none : Surveying a b h own 0 65535 0 0 0
  survey_none =
      let all : own - 0 ≡ own = omega arith in
      rw all (omega arith, omega (arith, stop_le a (list_from 0 own h)), omega arith, omega arith)

  pub survey_more : (i stop count low high : ℕ) → i < own → Surveying a b h own i stop count low high
      → (r : Own) (met : Bool) (x s t : ℕ) → r ≡ h i → met ≡ held a b r → x ≡ cond met r.load 0 → x ≤ 65535 → s ≡ stop_of a r
      → t ≡ min stop s → Surveying a b h own (i + 1) t (count + bool_byte met) (low + x % 256) (high + x / 256)
  unfolding sum
  survey_more i stop count low high lt (bounds, stops, counts, sums) r met x s t read holds load small ends next =
      let load_of : x ≡ cond (held a b (h i)) (h i).load 0 = load ∙ rw (holds, read) in
      let stop-of : s ≡ stop_of a (h i) = ends ∙ rw read in
      let one = byte_le (held a b (h i)) in
      rw (add-one i, holds, read) (
        omega arith,
        omega (arith, stop_left a b h i own lt),
        omega (arith, count_left a b h i own lt),
        omega (arith, fold_left a b h i own lt ◌+◌ 0 sum_start),
      )

  pub survey_all : (i stop count low high : ℕ) → own ≤ i → Surveying a b h own i stop count low high
      → (stop ≡ stop_at a (list_from 0 own h)) × (count ≡ length (loads_at a b (list_from 0 own h)))
      × (low + 256 * high ≡ sum (loads_at a b (list_from 0 own h)))
  unfolding list_from loads_at stop_at sum
  survey_all i stop count low high past found =
      let none_left : own - i ≡ 0 = omega arith in
      let (bounds, stops, counts, sums) = rw none_left at found in
      (omega arith, omega arith, omega arith)

-- ---- the value of a stretch

-- loads of 16 bits
abbrev Small : List ℕ → Type 0
Small [] = Unit {0}
Small (x ∷ l) = (x ≤ 65535) × Small l

pub no_value : (kind : ℕ) (l : List ℕ) → length l ≡ 0 → aggregated kind l ≡ none
unfolding aggregated
no_value kind [] none-held = refl
no_value kind (x ∷ l) none-held = absurd (omega arith)

-- what some loads aggregate to, kind by kind
pub sum_value : (l : List ℕ) → (length l ≡ 0 → ⊥) → aggregated 0 l ≡ some (sum l)
unfolding aggregated aggregate sum
sum_value [] none-held = absurd (none-held refl)
sum_value (x ∷ l) some-held = refl

pub count_value : (l : List ℕ) → (length l ≡ 0 → ⊥) → aggregated 1 l ≡ some (length l)
unfolding aggregated aggregate
count_value [] none-held = absurd (none-held refl)
count_value (x ∷ l) some-held = refl

-- the least, from 65,535 on down
least_in : (x : ℕ) (l : List ℕ) → x ≤ 65535 → foldr min x l ≡ min x (foldr min 65535 l)
least_in x [] small = omega arith
least_in x (y ∷ l) small = omega (arith, least_in x l small)

least_some : (l : List ℕ) → (length l ≡ 0 → ⊥) → Small l → aggregated 2 l ≡ some (foldr min 65535 l)
unfolding aggregated aggregate
least_some [] none-held small = absurd (none-held refl)
least_some (x ∷ l) some-held small = ap (λ (v : ℕ). some v) (least_in x l small.0)

-- loads that are taken up one by one are of 16 bits
loads_small : (Take : ℕ → ℕ → ℕ → Type 0) (start a b : ℕ) (rs : List Own) (x r : ℕ)
    → FoldsTo (TakesUp Take) x (loads_or start a b rs) r → Small (loads_at a b rs)
unfolding loads_or loads_at
loads_small Take start a b [] x r end = tt
loads_small Take start a b (own ∷ rs) x r (y, (small, taken), rest) =
    let others = loads_small Take start a b rs y r rest in
    cases (held a b own) (λ e. rw e ((rw e at small), others)) (λ e. rw e others)

pub least_found : (a b : ℕ) (rs : List Own) (r : ℕ) (Take : ℕ → ℕ → ℕ → Type 0)
    → FoldsTo (TakesUp Take) 65535 (loads_or 65535 a b rs) r → ((x y z : ℕ) → Take x y z → z ≡ min x y) → r ≤ 65535
    → (length (loads_at a b rs) ≡ 0 → ⊥) → aggregated 2 (loads_at a b rs) ≡ some r
least_found a b rs r Take found takes fits some-held =
    let least : min r 65535 ≡ min 65535 (foldr min 65535 (loads_at a b rs)) =
    folded min 65535 (λ x y z. omega arith) least_start _ (λ x y z taken. takes x y z taken.1) a b rs 65535 r found in
    least_some (loads_at a b rs) some-held (loads_small Take 65535 a b rs 65535 r found)
    ∙ ap (λ (v : ℕ). some v) (omega (arith, least, least_start (loads_at a b rs)))

-- the greatest, from 0 on up
greatest_in : (x : ℕ) (l : List ℕ) → foldr max x l ≡ max x (foldr max 0 l)
greatest_in x [] = omega arith
greatest_in x (y ∷ l) = omega (arith, greatest_in x l)

greatest_some : (l : List ℕ) → (length l ≡ 0 → ⊥) → aggregated 3 l ≡ some (foldr max 0 l)
unfolding aggregated aggregate
greatest_some [] none-held = absurd (none-held refl)
greatest_some (x ∷ l) some-held = ap (λ (v : ℕ). some v) (greatest_in x l)

pub greatest_found : (a b : ℕ) (rs : List Own) (r : ℕ) (Take : ℕ → ℕ → ℕ → Type 0)
    → FoldsTo (TakesUp Take) 0 (loads_or 0 a b rs) r → ((x y z : ℕ) → Take x y z → z ≡ max x y)
    → (length (loads_at a b rs) ≡ 0 → ⊥) → aggregated 3 (loads_at a b rs) ≡ some r
greatest_found a b rs r Take found takes some-held =
    let greatest : max r 0 ≡ max 0 (foldr max 0 (loads_at a b rs)) =
    folded max 0 (λ x y z. omega arith) greatest_start _ (λ x y z taken. takes x y z taken.1) a b rs 0 r found in
    greatest_some (loads_at a b rs) some-held ∙ ap (λ (v : ℕ). some v) (omega (arith, greatest))

pub mean_value : (l : List ℕ) → (length l ≡ 0 → ⊥) → aggregated 4 l ≡ some (100 * sum l / length l)
unfolding aggregated aggregate sum
mean_value [] none-held = absurd (none-held refl)
mean_value (x ∷ l) some-held = refl

-- what is no kind of the paper's has no value of its own
pub other_value : (kind : ℕ) (l : List ℕ) → (length l ≡ 0 → ⊥) → 4 < kind → aggregated kind l ≡ some 0
unfolding aggregated aggregate
other_value kind [] none-held above = absurd (none-held refl)
other_value zero (x ∷ l) some-held above = absurd (omega (arith, above))
other_value (suc zero) (x ∷ l) some-held above = absurd (omega (arith, above))
other_value (suc (suc zero)) (x ∷ l) some-held above = absurd (omega (arith, above))
other_value (suc (suc (suc zero))) (x ∷ l) some-held above = absurd (omega (arith, above))
other_value (suc (suc (suc (suc zero)))) (x ∷ l) some-held above = absurd (omega (arith, above))
other_value (suc (suc (suc (suc (suc kind))))) (x ∷ l) some-held above = refl
