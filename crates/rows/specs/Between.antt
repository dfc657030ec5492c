-- The blocks between cuts in a list, and their rows.
use Rattle.std.specs.Prelude.{ℕ, ◌+◌, ◌≤◌, ◌<◌, cond, List, ltb, get_or}
use Rattle.model.specs.Common.{list_from}
use Rattle.model.specs.Spans.{Span}
use Rattle.model.specs.Blocks.{row_value, row_of}

-- the end of the block before block `next`: where that one begins, or n after the last of `count` blocks
unfoldable pub end_before : List ℕ → ℕ → ℕ → ℕ → ℕ
end_before cuts count n next = cond (ltb next count) (get_or cuts next 0) n

-- of the blocks that begin with the first `count` cuts none is empty, and none ends past n
abbrev pub Ordered : List ℕ → ℕ → ℕ → Type 0
Ordered cuts count n = (b : ℕ) → b < count
    → (get_or cuts b 0 < end_before cuts count n (b + 1)) × (end_before cuts count n (b + 1) ≤ n)

-- the row of block b, and the rows of all `count` blocks
unfoldable pub row_between : ℕ → (ℕ → Span ℕ) → List ℕ → ℕ → ℕ → ℕ → Span ℕ
row_between kind seg cuts count n b = row_of (row_value kind) seg (get_or cuts b 0) (end_before cuts count n (b + 1))

unfoldable pub rows_between : ℕ → (ℕ → Span ℕ) → List ℕ → ℕ → ℕ → List (Span ℕ)
rows_between kind seg cuts count n = list_from 0 count (row_between kind seg cuts count n)
