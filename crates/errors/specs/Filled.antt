-- What a block costs, and a row of such costs, once it is filled.
use Rattle.std.specs.Prelude.{ℕ, ◌+◌, ◌≤◌, ◌<◌, List, ◌≡◌, length, get_or}
use Rattle.model.specs.Blocks.{block_error}
use Rattle.model.specs.declared.Segments.{Segments}
use Rattle.measures.specs.Held.{block_in}

-- the error of the block from j up to i
abbrev pub cost_in : ℕ → Segments → ℕ → ℕ → ℕ
cost_in kind segments j i = block_error kind (block_in segments j i)

-- the places from `start` on hold the errors of the blocks up to i that begin with `low` or later; `before` stands everywhere else
pub record EndingAt (kind : ℕ) (segments : Segments) (low i start : ℕ) (before after : List ℕ) : Type 0 where
  pub size : length after ≡ length before
  pub errors : (j : ℕ) → low ≤ j → j < i → get_or after (start + j) 0 ≡ cost_in kind segments j i
  pub others : (x : ℕ) → x < start → get_or after x 0 ≡ get_or before x 0
