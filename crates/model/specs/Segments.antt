-- Instant temporal aggregation (source document 000, Definition 1): the covered frames, joined where neighbours agree.
use Rattle.std.specs.Prelude.{ℕ, zero, suc, Bool, ◌&&◌, cond, eqb}
use mathlib.Core.List.{List, [], ◌∷◌, foldr}
use Rattle.std.proofs.Math.Option.{Option, none, some}
use Rattle.model.specs.Spans.{Span, group_count, frame_count, adjacent}
use Rattle.model.specs.Log.{value}

-- from the first frame of one span to the last of another
unfoldable pub join : {A : Type 0} → Span A → Span A → Span A
join s t = record { group = s.group; first = s.first; last = t.last; value = s.value }

-- a span before a list of spans: joined to its right neighbour where the two are adjacent and have the same value
unfoldable pub fuse : {A : Type 0} → (A → A → Bool) → Span A → List (Span A) → List (Span A)
fuse same s [] = s ∷ []
fuse same s (t ∷ ts) = cond (adjacent s t && same s.value t.value) (join s t ∷ ts) (s ∷ t ∷ ts)

-- a frame before a list of spans, where the frame has a value
unfoldable pub place : {A : Type 0} → Option A → ℕ → ℕ → List (Span A) → List (Span A)
place none g f rest = rest
place (some v) g f rest = record { group = g; first = f; last = f; value = v } ∷ rest

-- the covered frames of group g among the `count` frames from f on, each a span of its own, before `rest`
unfoldable pub frames_from : {A : Type 0} → (ℕ → ℕ → Option A) → ℕ → ℕ → ℕ → List (Span A) → List (Span A)
frames_from val g f zero rest = rest
frames_from val g f (suc count) rest = place (val g f) g f (frames_from val g (suc f) count rest)

-- the same of `count` groups from g on, with `frames` frames each
unfoldable pub groups_from : {A : Type 0} → (ℕ → ℕ → Option A) → ℕ → ℕ → ℕ → List (Span A)
groups_from val frames g zero = []
groups_from val frames g (suc count) = frames_from val g 0 frames (groups_from val frames (suc g) count)

-- the segments of frames with these values, by group and then by first frame
unfoldable pub segments_of : {A : Type 0} → (A → A → Bool) → (ℕ → ℕ → Option A) → ℕ → ℕ → List (Span A)
segments_of same val groups frames = foldr (fuse same) [] (groups_from val frames 0 groups)

-- the segments of a log's records, by the values of a kind and a width
unfoldable pub segments : ℕ → ℕ → List (Span ℕ) → List (Span ℕ)
segments kind width rs = segments_of eqb (value kind width rs) group_count frame_count
