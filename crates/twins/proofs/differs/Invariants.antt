-- `twins::differs` meets its contract. The loop's invariant: the keys so far, with those left, differ as all do. Assumes nothing.
use Prim.Native.Nat.{ℕ, ◌-◌}
use mathlib.Core.Bool.{Bool, ◌&&◌, not}
use mathlib.Core.List.{List}
use mathlib.Core.Path.{◌≡◌}
use lib.Dec.{eqb}
use Rattle.model.specs.Common.{every}
use Rattle.twins.specs.Keys.{key_of, new_in}
use Rattle.twins.proofs.differs.Given as goal

-- another key than that of the record with this index
abbrev pub other : List ℕ → ℕ → ℕ → Bool
other log index j = not (eqb (key_of log j) (key_of log index))

abbrev pub invariant-loop-i : goal.invariant-loop-i
invariant-loop-i l =
    (l.own ≡ key_of l.log l.index) × (l.new && every (other l.log l.index) l.i (l.index - l.i) ≡ new_in l.log l.index)
