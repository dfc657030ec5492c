-- Group by group: the frames of one group behind what is made, from the group's records alone, and then those of the groups left.
-- And segments have places enough. Assumes nothing.
use Prim.Native.Nat.{ℕ, zero, suc, ◌+◌, ◌-◌, ◌*◌, ◌≤◌, ◌<◌}
use mathlib.Core.List.{List, [], ◌++◌}
use mathlib.Core.Logic.{⊎_elim}
use mathlib.Core.Option.{Option}
use mathlib.Core.Path.{◌≡◌, refl, ap, ◌∙◌}
use native.Mathlib.Nat.{sub-zero}
use native.Mathlib.Omega.{arith}
use lib.ListN.{length}
use borrow.Author.Tests.{lt-ltb}
use Rattle.model.specs.Spans.{Span, group_count, frame_count}
use Rattle.model.specs.Log.{value}
use Rattle.model.specs.Segments.{frames_from, groups_from, segments_of, segments}
use Rattle.theory.proofs.Count.{few_segments}
use Rattle.tally.proofs.Loads.{meeting_own}
use Rattle.tally.specs.Tally.{only_of, own_value}
use Rattle.segments.specs.Steps.{joined}
use Rattle.segments.proofs.Stretches.{frames_before}

-- segments are the joined frames of all groups
pub segments_joined : (kind : ℕ) (rs : List (Span ℕ))
    → joined (groups_from (value kind 1 rs) frame_count 0 group_count) ≡ segments kind 1 rs
unfolding segments segments_of joined
segments_joined kind rs = refl

module _ {A : Type 0} (val : ℕ → ℕ → Option A) (frames : ℕ) where
  pub groups_left : (g end : ℕ) → g < end
      → groups_from val frames g (end - g) ≡ frames_from val g 0 frames [] ++ groups_from val frames (suc g) (end - suc g)
  unfolding groups_from
  groups_left g end lt =
      let e : end - g ≡ suc (end - suc g) = omega arith in
      ap (λ n. groups_from val frames g n) e ∙ frames_before val g 0 frames (groups_from val frames (suc g) (end - suc g))

  pub groups_past : (g end : ℕ) → end ≤ g → groups_from val frames g (end - g) ≡ []
  unfolding groups_from
  groups_past g end past = let e : end - g ≡ 0 = omega arith in rw e

-- the frames of a group have the values that its records give them
pub frames_own : (kind : ℕ) (rs : List (Span ℕ)) (g : ℕ) → g < group_count → (f count : ℕ) → f + count ≤ frame_count
    → frames_from (value kind 1 rs) g f count [] ≡ frames_from (own_value kind (only_of g rs)) g f count []
unfolding frames_from value own_value
frames_own kind rs g in_groups f zero within = refl
frames_own kind rs g in_groups f (suc count) within =
    rw (
      lt-ltb g group_count in_groups,
      lt-ltb f frame_count (omega arith),
      sub-zero f,
      meeting_own rs g f f,
      frames_own kind rs g in_groups (suc f) count (omega arith),
    )

pub enough_places : (kind : ℕ) (rs : List (Span ℕ)) → length rs ≤ 128 → length (segments kind 1 rs) ≤ 255
enough_places kind rs few =
    ⊎_elim (λ (none : length (segments kind 1 rs) ≡ 0). omega arith)
    (λ (some-few : suc (length (segments kind 1 rs)) ≤ 2 * length rs). omega arith)
    (few_segments kind 1 rs)
