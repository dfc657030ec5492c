-- The code's totals as the definitions', and a block's error from its totals.
use Rattle.std.specs.Prelude.{ℕ, ◌+◌, ◌-◌, ◌*◌}
use Rattle.model.specs.Blocks.{value_for}
use Rattle.model.specs.Blocks as model
use Rattle.blocks.specs.declared.Totals.{Totals}

unfoldable pub totals_in : Totals → model.Totals
totals_in t = record { frames = t.frames; sum = t.sum; squares = t.squares; greatest = t.greatest }

-- squares + r² × frames − 2 × r × sum: of a block's totals, the error of the row value r
unfoldable pub error_by : ℕ → model.Totals → ℕ
error_by r t = t.squares + r * r * t.frames - 2 * (r * t.sum)

-- the block's error
unfoldable pub error_from : ℕ → model.Totals → ℕ
error_from kind t = error_by (value_for kind t) t
