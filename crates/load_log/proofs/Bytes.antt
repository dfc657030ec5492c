-- A written record is read back by the log's decoding. Assumes nothing.
use Prim.Native.Nat.{ℕ, ◌/◌}
use mathlib.Core.List.{[], ◌∷◌, append-nil}
use mathlib.Core.Path.{◌≡◌, sym, ap, ◌∙◌}
use native.Mathlib.Omega.{arith}
use lib.ListN.{length}
use Rattle.model.specs.Common.{list_from}
use Rattle.model.specs.Spans.{Span}
use Rattle.model.specs.Log.{record_length, record_bytes, record_at, record_count, records}
use Rattle.theory.proofs.SlotLaws.{InBytes, length-record_bytes, record_read}

-- the log of one written record holds it
pub read_back_lem : (r : Span ℕ) → InBytes 2 r → records (record_bytes r) ≡ r ∷ []
unfolding records record_count record_length list_from
read_back_lem r fits =
    let one : length (record_bytes r) / 9 ≡ 1 = omega (arith, length-record_bytes r) in
    let read : record_at (record_bytes r) 0 ≡ r =
    ap (λ l. record_at l 0) (sym (append-nil (record_bytes r))) ∙ record_read r [] [] fits in
    rw one (ap (λ s. s ∷ []) read)
