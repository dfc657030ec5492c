-- Blocks of the code's segments, without their groups, and what is asked of such segments.
use Rattle.std.specs.Prelude.{ℕ, ◌≤◌, ◌<◌, List, [], get_or}
use Rattle.model.specs.Spans.{Span, span_length}
use Rattle.model.specs.Blocks.{Totals, totals, totals_of, add, block}
use Rattle.model.specs.Arrays.{span_in}
use Rattle.model.specs.Questions.{most_value}
use Rattle.model.specs.Room.{Room, Block}
use Rattle.model.specs.declared.Segments.{Segments}

-- the block from j up to i
abbrev pub block_in : Segments → ℕ → ℕ → List (Span ℕ)
block_in s j i = block (span_in [] s.firsts s.lasts s.values) j i

-- the totals of segment i
unfoldable pub segment_totals : Segments → ℕ → Totals
segment_totals s i = totals_of (span_length (span_in [] s.firsts s.lasts s.values i)) (get_or s.values i 0)

-- segment i has frames of a value in range, and so has a block with these totals and the segment in front
pub record Growing (s : Segments) (i : ℕ) (t : Totals) : Type 0 where
  pub place : i < 255
  pub proper : get_or s.firsts i 0 ≤ get_or s.lasts i 0
  pub low_value : get_or s.values i 0 ≤ most_value
  pub room : Room (add (segment_totals s i) t)

-- each of the first n segments has frames of a value in range, and so has each block of them
pub record Measurable (s : Segments) (n : ℕ) : Type 0 where
  pub few : n ≤ 255
  pub proper : (i : ℕ) → i < n → get_or s.firsts i 0 ≤ get_or s.lasts i 0
  pub low_values : (i : ℕ) → i < n → get_or s.values i 0 ≤ most_value
  pub blocks : (j i : ℕ) → j ≤ i → i ≤ n → Block (totals (block_in s j i))
