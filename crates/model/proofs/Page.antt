-- The segments of a log can be found among the frames up to its greatest last frame: a page that is short enough to
-- compute. Assumes nothing.
use Prim.Native.Nat.{ℕ, zero, suc, ◌+◌, ◌-◌, ◌≤◌, max}
use mathlib.Core.Bool.{Bool, true, false, ◌&&◌, cond}
use mathlib.Core.List.{List, [], ◌∷◌, foldr}
use mathlib.Core.Option.{Option, none}
use mathlib.Core.Path.{◌≡◌, refl, ap, ◌∙◌}
use native.Mathlib.Nat.{suc-add, zero-add}
use native.Mathlib.Omega.{arith}
use lib.Dec.{ltb, leb, eqb}
use borrow.Author.Tests.{lt-leb, leb-true}
use Rattle.model.specs.Spans.{Span, group_count, frame_count, meets}
use Rattle.model.specs.Log.{meeting, aggregated, value}
use Rattle.model.specs.Segments.{place, frames_from, groups_from, fuse, segments_of, segments}

-- one more than the last frame that has some record in its memory
unfoldable pub horizon : ℕ → List (Span ℕ) → ℕ
horizon width [] = 0
horizon width (r ∷ rs) = max (suc (r.last + (width - 1))) (horizon width rs)

and-false : (a : Bool) → a && false ≡ false
and-false true = refl
and-false false = refl

meeting_none : (width : ℕ) (rs : List (Span ℕ)) (g f : ℕ) → horizon width rs ≤ f → meeting rs g (f - (width - 1)) f ≡ []
unfolding horizon meeting meets
meeting_none width [] g f h = refl
meeting_none width (r ∷ rs) g f h =
    let late : leb (f - (width - 1)) r.last ≡ false = lt-leb (f - (width - 1)) r.last (omega arith) in
    rw (late, and-false (eqb r.group g && leb r.first f)) (meeting_none width rs g f (omega arith))

-- past the page no frame has a value
pub value_none : (kind width : ℕ) (rs : List (Span ℕ)) (g f : ℕ) → horizon width rs ≤ f → value kind width rs g f ≡ none
unfolding value aggregated
value_none kind width rs g f h =
    let inside = ltb g group_count && ltb f frame_count in
    ap (λ loads. cond inside (aggregated kind loads) none) (meeting_none width rs g f h) ∙ either inside
  where
    either : (b : Bool) → cond {A = Option ℕ} b none none ≡ none
    either true = refl
    either false = refl

module _ {A : Type 0} (val : ℕ → ℕ → Option A) (page : ℕ) (blank : (g f : ℕ) → page ≤ f → val g f ≡ none) where
  frames_blank : (g f count : ℕ) (rest : List (Span A)) → page ≤ f → frames_from val g f count rest ≡ rest
  unfolding frames_from place
  frames_blank g f zero rest h = refl
  frames_blank g f (suc count) rest h = rw (blank g f h) (frames_blank g (suc f) count rest (omega arith))

  frames_short : (g f a b : ℕ) (rest : List (Span A)) → page ≤ f + a
      → frames_from val g f (a + b) rest ≡ frames_from val g f a rest
  unfolding frames_from
  frames_short g f zero b rest h = rw zero-add (frames_blank g f b rest (omega arith))
  frames_short g f (suc a) b rest h =
      rw suc-add (ap (place (val g f) g f) (frames_short g (suc f) a b rest (omega arith)))

  groups_short : (more g count : ℕ) → groups_from val (page + more) g count ≡ groups_from val page g count
  unfolding groups_from
  groups_short more g zero = refl
  groups_short more g (suc count) =
      rw (groups_short more (suc g) count) (frames_short g 0 page more (groups_from val page (suc g) count) (omega arith))

pub short_page : (kind width : ℕ) (rs : List (Span ℕ)) → leb (horizon width rs) frame_count ≡ true
    → segments kind width rs ≡ segments_of eqb (value kind width rs) group_count (horizon width rs)
unfolding segments segments_of
short_page kind width rs h =
    let fits = leb-true (horizon width rs) frame_count h in
    let parts : frame_count ≡ horizon width rs + (frame_count - horizon width rs) = omega arith in
    ap (λ (n : ℕ). foldr (fuse eqb) [] (groups_from (value kind width rs) n 0 group_count)) parts
    ∙ ap (foldr (fuse eqb) [])
    (groups_short (value kind width rs) (horizon width rs) (λ g f. value_none kind width rs g f) (frame_count - horizon width rs) 0 group_count)
