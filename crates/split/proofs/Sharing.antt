-- The reduction that answers a bound sees no more of errors and gaps than those of blocks that cross no gap. Assumes nothing.
use Rattle.std.specs.Prelude as std
use Prim.Native.Nat.{ℕ, ◌+◌, ◌≤◌}
use mathlib.Core.List.{List}
use mathlib.Core.Option.{Option, none, some}
use mathlib.Core.Path.{◌≡◌, refl, ap, ◌∙◌}
use native.Mathlib.Omega.{arith}
use Rattle.model.specs.Split.{chosen, rows_tried}
use Rattle.model.specs.declared.Bound.{Bound}
use Rattle.triangle.specs.Places.{row_start, Agree}
use Rattle.triangle.proofs.Starts.{start_mono}
use Rattle.triangle.proofs.Agreeing.{least_cong, cuts_cong, weighed_cong, column_cong}
use Rattle.choice.proofs.Meeting.{by_rows}
use Rattle.cuts.specs.Held.{reduction_for, cuts_for}
use Rattle.cuts.specs.declared.Reduction.{Reduction}
use Rattle.split.specs.Ready.{Reduces}

-- places for the blocks of `most` segments are enough for fewer
pub room_for : (n most : ℕ) → n ≤ most → row_start (n + 1) ≤ row_start (most + 1)
room_for n most le = start_mono (n + 1) (most + 1) (omega arith)

module _ {err err' : ℕ → ℕ → ℕ} {low low' : ℕ → ℕ} {n : ℕ} (same : Agree err low err' low' n) (m : ℕ) (bound : Bound) where
  same_choice : chosen bound (by_rows err low n) n m ≡ chosen bound (by_rows err' low' n) n m
  same_choice = ap (λ (e : ℕ → Option ℕ). chosen bound e n m) (column_cong same)

  reduction_cong : reduction_for err low n m bound ≡ reduction_for err' low' n m bound
  unfolding reduction_for
  reduction_cong = by (chosen bound (by_rows err' low' n) n m) refl
    where
      by : (o : Option ℕ) → chosen bound (by_rows err' low' n) n m ≡ o → reduction_for err low n m bound ≡ reduction_for err' low' n m bound
      by none e = rw (same_choice ∙ e, reduction_for, e, reduction_for)
      by (some k) e =
          rw (same_choice ∙ e, reduction_for, e, reduction_for, least_cong same k n (omega arith), weighed_cong same (rows_tried bound n k))

  cuts_for_cong : (cuts : List ℕ) → cuts_for err low n m bound cuts ≡ cuts_for err' low' n m bound cuts
  unfolding cuts_for
  cuts_for_cong cuts = by (chosen bound (by_rows err' low' n) n m) refl
    where
      by : (o : Option ℕ) → chosen bound (by_rows err' low' n) n m ≡ o → cuts_for err low n m bound cuts ≡ cuts_for err' low' n m bound cuts
      by none e = rw (same_choice ∙ e, cuts_for, e, cuts_for)
      by (some k) e = rw (same_choice ∙ e, cuts_for, e, cuts_for, cuts_cong same k n (omega arith))

  pub reduces_cong : {r : std.Option Reduction} {before after : List ℕ} → Reduces err low n m bound r before after → Reduces err' low' n m bound r before after
  reduces_cong {r} {before} h =
      record { answer = h.answer ∙ reduction_cong; cuts = h.cuts ∙ cuts_for_cong before; weighed = h.weighed }
