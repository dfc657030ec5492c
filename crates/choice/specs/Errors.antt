-- Errors as numbers, with 'none' among them.
use Rattle.std.specs.Prelude.{ℕ, ◌≤◌, cond, ◌≡◌, ltb}
use Rattle.std.proofs.Math.Option.{Option, none, some}

-- the least number that stands for 'none': above every error, and so low that an error can be added in 64 bits
abbrev pub no_error : ℕ
no_error = 4611686018427387904

unfoldable pub error_in : ℕ → Option ℕ
error_in x = cond (ltb x no_error) (some x) none

-- x stands for an error or for 'none'; `no_error` is the one number for 'none' that is kept
pub record Stands (x : ℕ) (e : Option ℕ) : Type 0 where
  pub is : error_in x ≡ e
  pub le : x ≤ no_error
