-- A memory: what is remembered of a record w − 1 frames after its last one is what the record would hold if its last frame were w − 1
-- later, at most 65,535. So the values at a width are the values at width 1 of records made longer, and what holds of every list of
-- records at width 1 carries over. Assumes nothing.
use Prim.Native.Nat.{ℕ, ◌+◌, ◌-◌, ◌≤◌, ◌<◌, min}
use mathlib.Core.Bool.{true, ◌&&◌}
use mathlib.Core.List.{List, [], ◌∷◌, map}
use mathlib.Core.Path.{◌≡◌, refl, sym, ap, ◌∙◌}
use native.Mathlib.Nat.{sub-zero}
use native.Mathlib.Omega.{arith}
use lib.Dec.{ltb, leb, eqb}
use borrow.Author.Tests.{ltb-true, leb-true, leb-false, le-leb, lt-leb}
use Rattle.model.specs.Spans.{Span, group_count, frame_count, meets}
use Rattle.model.specs.Log.{meeting, aggregated, value}
use Rattle.model.specs.Segments.{segments_of, segments}
use Rattle.model.specs.Questions.{width_known}
use Rattle.model.specs.NoMemory.{plain_value}
use Rattle.theory.proofs.Tests.{cases, and-true}

-- the last frame that has a record with this last frame in its memory
unfoldable pub later : ℕ → ℕ → ℕ
later width last = min (last + (width - 1)) 65535

unfoldable pub longer : ℕ → Span ℕ → Span ℕ
longer width r = record { group = r.group; first = r.first; last = later width r.last; value = r.value }

-- a width that is known is of some frame
pub some_frame : (width : ℕ) → width_known width ≡ true → 1 ≤ width
unfolding width_known
some_frame width known = leb-true 1 width (and-true (leb 1 width) _ known).0

-- the last frames reach back to a record's last one exactly where its later one is not passed
reaches : (width f last : ℕ) → f < frame_count → leb (f - (width - 1)) last ≡ leb f (later width last)
unfolding later frame_count
reaches width f last lt =
    cases (leb (f - (width - 1)) last)
    (λ t. t ∙ sym (le-leb f _ (omega (arith, leb-true (f - (width - 1)) last t))))
    (λ t. t ∙ sym (lt-leb f _ (omega (arith, leb-false (f - (width - 1)) last t))))

meeting_longer : (width g f : ℕ) → f < frame_count → (rs : List (Span ℕ))
    → meeting rs g (f - (width - 1)) f ≡ meeting (map (longer width) rs) g f f
unfolding meeting meets longer
meeting_longer width g f lt [] = refl
meeting_longer width g f lt (r ∷ rs) = rw (reaches width f r.last lt, meeting_longer width g f lt rs)

-- with no memory, a frame's value is that of the records that contain it
pub value_one : (kind : ℕ) (rs : List (Span ℕ)) (g f : ℕ) → value kind 1 rs g f ≡ plain_value kind rs g f
unfolding value plain_value
value_one kind rs g f = rw (sub-zero f)

-- one law: the values at a width are the values at width 1 of records made longer
value_at_lem : (kind width : ℕ) (rs : List (Span ℕ)) (g f : ℕ) → value kind width rs g f ≡ value kind 1 (map (longer width) rs) g f
unfolding value plain_value
value_at_lem kind width rs g f =
    cases (ltb g group_count && ltb f frame_count)
    (λ t. rw t (ap (aggregated kind) (meeting_longer width g f (ltb-true f frame_count (and-true (ltb g group_count) _ t).1) rs))) (λ t. rw t)
    ∙ sym (value_one kind (map (longer width) rs) g f)

pub value_longer : (kind width : ℕ) (rs : List (Span ℕ)) → value kind width rs ≡ value kind 1 (map (longer width) rs)
value_longer kind width rs i g f = value_at_lem kind width rs g f i

pub segments_longer : (kind width : ℕ) (rs : List (Span ℕ)) → segments kind width rs ≡ segments kind 1 (map (longer width) rs)
unfolding segments
segments_longer kind width rs = ap (λ val. segments_of eqb val group_count frame_count) (value_longer kind width rs)
