-- `load_log::decode` meets its contract. The loop's invariant: there is a place for each record, and the arrays
-- hold the first ones. Assumes nothing.
use Prim.Native.Nat.{◌*◌, ◌≤◌}
use mathlib.Core.Path.{◌≡◌}
use Rattle.model.specs.Common.{list_from}
use Rattle.model.specs.Log.{record_length, record_at}
use Rattle.model.specs.Arrays.{record_arrays}
use Rattle.load_log.proofs.decode.Given as goal

abbrev pub invariant-loop-index : goal.invariant-loop-index
invariant-loop-index l =
    (l.count ≤ 128) × (l.records ≡ record_arrays (list_from 0 l.index (λ i. record_at l.log (record_length * i))))
