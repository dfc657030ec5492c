-- What is left of spans in order from a place on, and what is taken off at the front: a weight that adds up where a span is cut in two is
-- that of the front and of what is left. Assumes nothing.
use Prim.Native.Nat.{ℕ, suc, ◌+◌, ◌*◌, ◌-◌, ◌≤◌, ◌<◌, max}
use mathlib.Core.Bool.{false, cond}
use mathlib.Core.List.{List, [], ◌∷◌}
use mathlib.Core.Logic.{inl, inr}
use mathlib.Core.Option.{Option}
use mathlib.Core.Path.{◌≡◌, refl, ap, ◌∙◌}
use native.Mathlib.Omega.{arith}
use lib.Dec.{eqb}
use borrow.Author.Tests.{eqb-true, eqb-false}
use Rattle.model.specs.Common.{sum_of}
use Rattle.model.specs.Spans.{Span, group_count, frame_count, span_length, meets, holds}
use Rattle.model.specs.Fitting.{over_frames}
use Rattle.slot.specs.Places.{place_of}
use Rattle.compare.specs.Fronts.{first_place, last_place}
use Rattle.theory.proofs.Tests.{cases}
use Rattle.theory.proofs.Sums.{over_frames_cong, over_frames-add}
use Rattle.theory.proofs.Frames.{Heads, worth, holds_joined, Piece, Earlier}
use Rattle.theory.proofs.Converse.{piece_weigh}
use Rattle.theory.proofs.InOrder.{InOrder}

abbrev pub span : ℕ → ℕ → ℕ → ℕ → Span ℕ
span g a b v = record { group = g; first = a; last = b; value = v }

-- ---- what is left from a place on

-- of a span, and of spans, of which only the first may begin before the place
unfoldable pub trim : ℕ → Span ℕ → Span ℕ
trim p s = record { group = s.group; first = max s.first (p - 131072 * s.group); last = s.last; value = s.value }

unfoldable pub clip : ℕ → List (Span ℕ) → List (Span ℕ)
clip p [] = []
clip p (s ∷ l) = trim p s ∷ l

-- something is left of a span
abbrev pub Reaches : ℕ → Span ℕ → Type 0
Reaches p s = p ≤ last_place s

-- it begins at the later one of its place and that place
pub trim_place : (p : ℕ) (s : Span ℕ) → place_of s.group (trim p s).first ≡ first_place p s
unfolding place_of trim
trim_place p s = omega arith

pub trim_from : (p : ℕ) (s : Span ℕ) → s.first ≤ (trim p s).first
unfolding trim
trim_from p s = omega arith

-- all is left of a span that begins at the place or later
pub trim_whole : (p : ℕ) (s : Span ℕ) → p ≤ place_of s.group s.first → trim p s ≡ s
unfolding place_of trim
trim_whole p s le = let same : max s.first (p - 131072 * s.group) ≡ s.first = omega arith in rw same

-- and of spans that stand behind one that ends before it
clip_whole : (g e : ℕ) (l : List (Span ℕ)) → e < 65536 → Heads (Earlier (span g 0 e 0)) l → clip (place_of g e + 1) l ≡ l
unfolding clip place_of
clip_whole g e [] small later = refl
clip_whole g e (t ∷ l) small (inl above) = rw (trim_whole (place_of g e + 1) t (omega arith))
clip_whole g e (t ∷ l) small (inr behind) = rw (trim_whole (place_of g e + 1) t (omega arith))

-- ---- weights that add up

abbrev pub Adds : (Span ℕ → ℕ) → Type 0
Adds w = (g a e b v : ℕ) → a ≤ e → e < b → w (span g a b v) ≡ w (span g a e v) + w (span g (suc e) b v)

pub span_length_lem : (g a e v : ℕ) → span_length (span g a e v) ≡ suc e - a
unfolding span_length
span_length_lem g a e v = refl

pub length_adds : Adds span_length
unfolding span_length
length_adds g a e b v from to = omega arith

-- what the frame is counted for
pub holds_adds : (g f : ℕ) → Adds (λ s. cond (holds s g f) 1 0)
holds_adds g f h a e b v from to =
    holds_joined (span h a b v) (span h a e v) (span h (suc e) b v) refl refl refl from to refl refl g f 1

-- whatever its number is
pub holds_alike : (g a e v r h f : ℕ) → cond {A = ℕ} (holds (span g a e v) h f) 1 0 ≡ cond (holds (span g a e r) h f) 1 0
unfolding holds meets
holds_alike g a e v r h f = refl

-- the cost of a span's number over the frames that it contains
abbrev pub cost_in : (ℕ → ℕ → ℕ) → (ℕ → ℕ → Option ℕ) → Span ℕ → ℕ
cost_in cost val s = over_frames group_count frame_count (λ g f. cond (holds s g f) (worth (λ v. cost v s.value) (val g f)) 0)

pub cost_adds : (cost : ℕ → ℕ → ℕ) (val : ℕ → ℕ → Option ℕ) → Adds (cost_in cost val)
cost_adds cost val h a e b v from to =
    over_frames_cong group_count frame_count _ _
    (λ g f i j.
    holds_joined (span h a b v) (span h a e v) (span h (suc e) b v) refl refl refl from to refl refl g f
    (worth (λ x. cost x v) (val g f)))
    ∙ over_frames-add group_count frame_count _ _

-- of frames that all have one value
pub cost_front : (cost : ℕ → ℕ → ℕ) (val : ℕ → ℕ → Option ℕ) (g a e v r : ℕ) → Piece val (span g a e v) → g < group_count → e < frame_count
    → cost_in cost val (span g a e r) ≡ (suc e - a) * cost v r
unfolding holds meets span_length
cost_front cost val g a e v r piece in_groups in_frames =
    piece_weigh (λ x. cost x r) val group_count frame_count (span g a e v) piece in_groups in_frames

-- ---- the front taken off

module _ (p e : ℕ) (s : Span ℕ) (rest : List (Span ℕ)) (order : InOrder (s ∷ rest)) (from : (trim p s).first ≤ e) (to : e ≤ s.last)
    (small : s.last < 65536) where
  abbrev pub next : ℕ
  next = place_of s.group e + 1

  -- what stands behind the front: the others where the span ends with it
  abbrev pub left : List (Span ℕ)
  left = cond (eqb (last_place s) (place_of s.group e)) rest (s ∷ rest)

  same_place : (b : ℕ) → place_of s.group b ≡ place_of s.group e → b ≡ e
  unfolding place_of
  same_place b is = omega arith

  begins : max s.first (next - 131072 * s.group) ≡ suc e
  unfolding place_of trim
  begins = omega arith

  -- something is left of what is then at the front
  pub left_reaches : Heads (Reaches next) left
  unfolding place_of
  left_reaches =
      cases (eqb (last_place s) (place_of s.group e))
      (λ t. rw t (others rest order.1 order.2))
      (λ t.
      let apart : s.last ≡ e → ⊥ = λ is. eqb-false _ _ t (ap (place_of s.group) is) in
      let longer : next ≤ last_place s = omega (arith, apart) in
      rw t longer)
    where
      others : (l : List (Span ℕ)) → Heads (Earlier s) l → InOrder l → Heads (Reaches next) l
      others [] later c = tt
      others (u ∷ l) (inl above) c = let proper = c.0 in omega arith
      others (u ∷ l) (inr behind) c = let proper = c.0 in omega arith

  pub front_off : (w : Span ℕ → ℕ) → Adds w
      → sum_of w (clip p (s ∷ rest)) ≡ w (span s.group (trim p s).first e s.value) + sum_of w (clip next left)
  unfolding clip sum_of trim
  front_off w adds =
      cases (eqb (last_place s) (place_of s.group e))
      (λ t.
      let ends : s.last ≡ e = same_place s.last (eqb-true _ _ t) in
      rw (t, clip_whole s.group e rest (omega arith) (rw ends at order.1), ends))
      (λ t.
      let longer : e < s.last = omega (arith, apart t) in
      let whole = adds s.group (trim p s).first e s.last s.value from longer in
      rw (t, begins) (omega arith))
    where
      apart : eqb (last_place s) (place_of s.group e) ≡ false → s.last ≡ e → ⊥
      apart t is = eqb-false _ _ t (ap (place_of s.group) is)
