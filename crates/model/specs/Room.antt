-- The ranges in which totals are held, and the segments whose totals stay in them: what the functions that work on segments
-- ask of their callers. Every error is then far below 2^64.
use Rattle.std.specs.Prelude.{ℕ, ◌+◌, ◌*◌, ◌≤◌, length}
use mathlib.Core.List.{List, Memᴰ}
use Rattle.model.specs.Common.{sum_of}
use Rattle.model.specs.Spans.{Span, span_length}
use Rattle.model.specs.Blocks.{Totals}
use Rattle.model.specs.Questions.{most_value}

-- the frames of all groups: 8 times 65,536
abbrev pub most_frames : ℕ
most_frames = 524288

-- the greatest error: that of every frame at the greatest value
abbrev pub most_error : ℕ
most_error = most_frames * (most_value * most_value)

-- totals over at most this many frames of at most this value
pub record Room (t : Totals) : Type 0 where
  pub frames_le : t.frames ≤ most_frames
  pub sum_le : t.sum ≤ most_value * t.frames
  pub squares_le : t.squares ≤ most_value * most_value * t.frames
  pub greatest_le : t.greatest ≤ most_value

-- totals of some block: no row value has a negative error
pub record Block (t : Totals) : Type 0 where
  pub room : Room t
  pub error_pos : (r : ℕ) → 2 * (r * t.sum) ≤ t.squares + r * r * t.frames

-- segments of a log: few, each with frames of a value in range, over no more frames than there are
pub record Measured (segs : List (Span ℕ)) : Type 0 where
  pub few : length segs ≤ 255
  pub proper : (s : Span ℕ) → Memᴰ s segs → s.first ≤ s.last
  pub low_values : (s : Span ℕ) → Memᴰ s segs → s.value ≤ most_value
  pub frames : sum_of span_length segs ≤ most_frames
