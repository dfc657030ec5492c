-- Spans of frames. A log record, a segment and a row are each a group, a first and a last frame, both included, and a number.
use Rattle.std.specs.Prelude.{ℕ, suc, ◌-◌, Bool, ◌&&◌, leb, eqb}

pub record Span (A : Type 0) : Type 0 where
  pub group : ℕ
  pub first : ℕ
  pub last : ℕ
  pub value : A

-- groups are 0 to 7, and frames 0 to 65,535
unfoldable pub group_count : ℕ
group_count = 8

unfoldable pub frame_count : ℕ
frame_count = 65536

-- a span's length is its number of frames
unfoldable pub span_length : {A : Type 0} → Span A → ℕ
span_length s = suc s.last - s.first

-- the span is of group g and contains some frame of a to b
unfoldable pub meets : {A : Type 0} → Span A → ℕ → ℕ → ℕ → Bool
meets s g a b = eqb s.group g && leb s.first b && leb a s.last

-- the span is of group g and contains frame f
unfoldable pub holds : {A : Type 0} → Span A → ℕ → ℕ → Bool
holds s g f = meets s g f f

-- the frame after the first span's last is the second one's first, in the same group
unfoldable pub adjacent : {A B : Type 0} → Span A → Span B → Bool
adjacent s t = eqb s.group t.group && eqb (suc s.last) t.first

-- what stands where a list of spans has nothing
unfoldable pub nowhere : Span ℕ
nowhere = record { group = 0; first = 0; last = 0; value = 0 }
