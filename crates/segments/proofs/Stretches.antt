-- From event to event: between two events the records that hold a frame do not change, so the frames of such a stretch have
-- one value, or none, and join to one span. Assumes nothing.
use Prim.Native.Nat.{ℕ, zero, suc, ◌+◌, ◌-◌, ◌≤◌, ◌<◌}
use mathlib.Core.Bool.{true}
use mathlib.Core.List.{List, [], ◌∷◌, ◌++◌, foldr, append_assoc, foldr-append}
use mathlib.Core.Option.{Option, none, some}
use mathlib.Core.Path.{◌≡◌, refl, sym, ap, ◌∙◌}
use native.Mathlib.Omega.{arith}
use native.Mathlib.Nat.{add-zero}
use lib.Dec.{eqb}
use lib.ListN.{length}
use borrow.Author.Tests.{eq-eqb}
use Rattle.model.specs.Spans.{Span}
use Rattle.model.specs.Log.{aggregated}
use Rattle.model.specs.Segments.{join, fuse, place, frames_from}
use Rattle.theory.proofs.Tests.{true_and, true_adjacent}
use Rattle.tally.specs.Tally.{loads_at, stop_at, own_value}
use Rattle.segments.specs.Steps.{joins, joined}
use Rattle.tally.specs.declared.Own.{Own}
use Rattle.segments.proofs.Joining.{fuse_join}
use Rattle.tally.proofs.Stops.{loads_same, stop_from}
use Rattle.tally.proofs.Loads.{no_value}

-- ---- stretches of frames

module _ {A : Type 0} (val : ℕ → ℕ → Option A) (g : ℕ) where
  place_append : (o : Option A) (f : ℕ) (l r : List (Span A)) → place o g f (l ++ r) ≡ place o g f l ++ r
  unfolding place
  place_append none f l r = refl
  place_append (some v) f l r = refl

  -- what comes behind frames
  pub frames_before : (f count : ℕ) (rest : List (Span A))
      → frames_from val g f count rest ≡ frames_from val g f count [] ++ rest
  unfolding frames_from
  frames_before f zero rest = refl
  frames_before f (suc count) rest =
      ap (place (val g f) g f) (frames_before (suc f) count rest)
      ∙ place_append (val g f) f (frames_from val g (suc f) count []) rest

  frames_split : (f m n : ℕ) (rest : List (Span A))
      → frames_from val g f (m + n) rest ≡ frames_from val g f m (frames_from val g (f + m) n rest)
  unfolding frames_from
  frames_split f zero n rest =
      let p : 0 + n ≡ n = omega arith in rw (p, add-zero f)
  frames_split f (suc m) n rest =
      let p : suc m + n ≡ suc (m + n) = omega arith in
      let q : f + suc m ≡ suc f + m = omega arith in
      rw (p, q) (ap (place (val g f) g f) (frames_split (suc f) m n rest))

  -- frames in two parts
  frames_parts : (a b end : ℕ) → a ≤ b → b ≤ end
      → frames_from val g a (end - a) [] ≡ frames_from val g a (b - a) [] ++ frames_from val g b (end - b) []
  frames_parts a b end ab be =
      let p : end - a ≡ b - a + (end - b) = omega arith in
      let q : a + (b - a) ≡ b = omega arith in
      ap (λ n. frames_from val g a n []) p ∙ frames_split a (b - a) (end - b) []
      ∙ frames_before a (b - a) _
      ∙ ap (λ f. frames_from val g a (b - a) [] ++ frames_from val g f (end - b) []) q

  pub frames_past : (a end : ℕ) → end ≤ a → frames_from val g a (end - a) [] ≡ []
  unfolding frames_from
  frames_past a end past = let e : end - a ≡ 0 = omega arith in rw e

  -- frames with no value
  frames_none : (f count : ℕ) → ((e : ℕ) → f ≤ e → e < f + count → val g e ≡ none) → frames_from val g f count [] ≡ []
  unfolding frames_from place
  frames_none f zero no_value = refl
  frames_none f (suc count) no_value =
      rw (no_value f (omega arith) (omega arith))
      (frames_none (suc f) count (λ e le lt. no_value e (omega arith) (omega arith)))

-- joining the frames in two parts
pub joined_parts : (val : ℕ → ℕ → Option ℕ) (g a b end : ℕ) (l : List (Span ℕ)) → a ≤ b → b ≤ end
    → joined (l ++ frames_from val g a (b - a) [] ++ frames_from val g b (end - b) [])
    ≡ joined (l ++ frames_from val g a (end - a) [])
joined_parts val g a b end l ab be =
    ap joined (append_assoc l (frames_from val g a (b - a) []) (frames_from val g b (end - b) []))
    ∙ ap (λ r. joined (l ++ r)) (sym (frames_parts val g a b end ab be))

true_joins : (s t : Span ℕ) → s.group ≡ t.group → suc s.last ≡ t.first → s.value ≡ t.value → joins s t ≡ true
unfolding joins
true_joins s t g f v = true_and _ _ (true_adjacent s t g f) (eq-eqb _ _ v)

-- frames with one value
frames_one : (val : ℕ → ℕ → Option ℕ) (g v f count : ℕ) (rest : List (Span ℕ))
    → ((e : ℕ) → f ≤ e → e < f + suc count → val g e ≡ some v)
    → foldr (fuse eqb) rest (frames_from val g f (suc count) [])
    ≡ fuse eqb (record { group = g; first = f; last = f + count; value = v }) rest
unfolding frames_from place join
frames_one val g v f zero rest one = rw (one f (omega arith) (omega arith), add-zero f)
frames_one val g v f (suc count) rest one =
    let here : val g f ≡ some v = one f (omega arith) (omega arith) in
    let more = frames_one val g v (suc f) count rest (λ e le lt. one e (omega arith) (omega arith)) in
    let s : Span ℕ = record { group = g; first = f; last = f; value = v } in
    let t : Span ℕ = record { group = g; first = suc f; last = suc f + count; value = v } in
    let ended : suc f + count ≡ f + suc count = omega arith in
    ap (λ o. foldr (fuse eqb) rest (place o g f (frames_from val g (suc f) (suc count) []))) here
    ∙ ap (fuse eqb s) more
    ∙ fuse_join s t rest (true_joins s t refl refl refl)
    ∙ ap (λ e. fuse eqb (record { group = g; first = f; last = e; value = v }) rest) ended

-- ---- the stretch up to the next event

module _ (kind : ℕ) (own : List Own) (g a : ℕ) (in_frames : a ≤ 65535) where
  stretch_value : (f : ℕ) → a ≤ f → f < a + (suc (stop_at a own) - a)
      → own_value kind own g f ≡ aggregated kind (loads_at a a own)
  unfolding own_value
  stretch_value f le lt =
      let near : f ≤ stop_at a own = omega (arith, stop_from a own in_frames) in
      ap (aggregated kind) (loads_same a f le own near)

  -- no record holds its frames
  pub stretch_none : length (loads_at a a own) ≡ 0 → frames_from (own_value kind own) g a (suc (stop_at a own) - a) [] ≡ []
  stretch_none empty =
      frames_none (own_value kind own) g a (suc (stop_at a own) - a) (λ f le lt. stretch_value f le lt ∙ no_value kind (loads_at a a own) empty)

  -- its frames have the value of the first
  pub stretch_one : (l : List (Span ℕ)) (v : ℕ) → aggregated kind (loads_at a a own) ≡ some v
      → joined (l ++ frames_from (own_value kind own) g a (suc (stop_at a own) - a) [])
      ≡ joined (l ++ (record { group = g; first = a; last = stop_at a own; value = v } ∷ []))
  unfolding joined fuse
  stretch_one l v found =
      let count : suc (stop_at a own) - a ≡ suc (stop_at a own - a) = omega (arith, stop_from a own in_frames) in
      let ended : a + (stop_at a own - a) ≡ stop_at a own = omega (arith, stop_from a own in_frames) in
      let fused = frames_one (own_value kind own) g v a (stop_at a own - a) []
      (λ f le lt. stretch_value f le (omega arith) ∙ found) in
      foldr-append (fuse eqb) [] l (frames_from (own_value kind own) g a (suc (stop_at a own) - a) [])
      ∙ ap (λ n. foldr (fuse eqb) (foldr (fuse eqb) [] (frames_from (own_value kind own) g a n [])) l) count
      ∙ ap (λ r. foldr (fuse eqb) r l) fused
      ∙ ap (λ e. foldr (fuse eqb) (fuse eqb (record { group = g; first = a; last = e; value = v }) []) l) ended
      ∙ sym (foldr-append (fuse eqb) [] l (record { group = g; first = a; last = stop_at a own; value = v } ∷ []))

-- with no records there is no frame
pub frames_unowned : (kind g f count : ℕ) → frames_from (own_value kind []) g f count [] ≡ []
unfolding own_value loads_at aggregated
frames_unowned kind g f count = frames_none (own_value kind []) g f count (λ e le lt. refl)
