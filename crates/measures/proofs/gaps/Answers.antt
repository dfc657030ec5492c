-- `gaps` meets its contract. The invariant: `low` is the last gap below `i`, and the places to `i` hold such gaps. Assumes nothing.
use Prim.Native.Nat.{ℕ, ◌+◌, ◌≤◌}
use mathlib.Core.Path.{◌≡◌, refl, ◌∙◌}
use native.Mathlib.Omega.{arith}
use lib.ListN.{length-set, length-replicate, get_or-replicate}
use Rattle.model.specs.Blocks.{last_gap}
use Rattle.theory.proofs.Lists.{after_set}
use Rattle.measures.proofs.Gapped.{plain, gap_next, gaps_plain}
use Rattle.measures.proofs.gaps.Goals as goal
use Rattle.measures.proofs.gaps.Goals.{Joined-is_gap, then-is_gap, else-is_gap}

next : (c : Joined-is_gap)
    → (c.if-is_gap.low ≡ last_gap (plain c.args.segments.now) (c.loop-i.i + 1)) × (c.if-is_gap.low ≤ c.loop-i.i)
next c =
    gap_next _ _ _ c.is_gap.ensures _ _ c.loop-i.invariant.1
    (elim c.if-is_gap.branch [ then-is_gap w ↦ rw (w.low-is, w.if-is_gap.true) | else-is_gap w ↦ rw (w.low-is, w.if-is_gap.false) ])

pub loop-i-init : goal.loop-i-init
unfolding last_gap
loop-i-init c = (
  length-replicate {A = ℕ} 256 0,
  refl,
  λ x le.
      let first : x ≡ 0 = omega arith in
      rw first (get_or-replicate 256 0 0 0 (omega arith)),
)

pub overflow_cast-out : goal.overflow_cast-out
overflow_cast-out c = omega (arith, (next (goal.at.overflow_cast-out c).Joined-is_gap).1)

pub loop-i-preserved : goal.loop-i-preserved
loop-i-preserved c =
    let (is, below) = next (goal.at.loop-i-preserved c).Joined-is_gap in (
      simp length-set c.loop-i.invariant.0,
      is,
      λ x le. after_set (λ y v. v ≡ last_gap (plain c.args.segments.now) y) c.loop-i.out (c.loop-i.i + 1) c.if-is_gap.low (omega arith) is x (λ other. c.loop-i.invariant.2 x (omega arith)),
    )

pub returns : goal.returns
returns c = λ values i le. c.loop-i.invariant.2 i (omega arith) ∙ gaps_plain c.args.segments.now values _ i le
