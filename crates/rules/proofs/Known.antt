-- Scenes one after the other. Assumes nothing.
use Prim.Native.Nat.{ℕ, zero, suc, ◌-◌, ◌≤◌, ◌<◌}
use mathlib.Core.Bool.{Bool, ◌&&◌, and-true}
use mathlib.Core.List.{List}
use mathlib.Core.Path.{◌≡◌, refl, sym, ap, ◌∙◌}
use native.Mathlib.Numerals.{add-one}
use native.Mathlib.Omega.{arith}
use lib.Dec.{leb, ltb}
use lib.ListN.{get_or}
use borrow.Author.Tests.{le-leb, lt-ltb}
use Rattle.std.specs.List.{list_all, range_with_len}
use Rattle.model.specs.Common.{every}
use Rattle.model.specs.Spans.{frame_count}
use Rattle.model.specs.Questions.{scene_follows, scene_known, most_scenes, scenes_known}

-- ---- one scene after the other

-- that a last frame of 16 bits is one of the 65,536 is known
module _ (firsts lasts : List ℕ) where
  pub first_scene : (i : ℕ) → get_or lasts i 0 < 65536 → i ≡ 0
      → leb (get_or firsts i 0) (get_or lasts i 0) ≡ scene_known firsts lasts i
  unfolding scene_known scene_follows frame_count
  first_scene zero fits none_before = rw (lt-ltb (get_or lasts 0 0) 65536 fits) (sym (and-true _ ∙ and-true _))
  first_scene (suc i) fits none_before = absurd (omega arith)

  pub later_scene : (i : ℕ) → get_or lasts i 0 < 65536 → (i ≡ 0 → ⊥)
      → leb (get_or firsts i 0) (get_or lasts i 0) && ltb (get_or lasts (i - 1) 0) (get_or firsts i 0)
      ≡ scene_known firsts lasts i
  unfolding scene_known scene_follows frame_count
  later_scene zero fits some_before = absurd (some_before refl)
  later_scene (suc i) fits some_before =
      let before : suc i - 1 ≡ i = omega arith in
      rw (before, lt-ltb (get_or lasts (suc i) 0) 65536 fits, and-true)

-- a test of so many numbers, one after the other
every_listed : (test : ℕ → Bool) (from count : ℕ) → list_all test (range_with_len from count) ≡ every test from count
unfolding every
every_listed test from zero = refl
every_listed test from (suc count) =
    ap (λ (b : Bool). test from && b)
    (ap (λ (n : ℕ). list_all test (range_with_len n count)) (add-one from) ∙ every_listed test (suc from) count)

-- 1 to 16 scenes, each as it must be
pub all_known : (firsts lasts : List ℕ) (count : ℕ) → 1 ≤ count → count ≤ 16
    → list_all (scene_known firsts lasts) (range_with_len 0 count) ≡ scenes_known firsts lasts count
unfolding scenes_known most_scenes
all_known firsts lasts count some few =
    every_listed (scene_known firsts lasts) 0 count ∙ rw (le-leb 1 count some, le-leb count 16 few)
