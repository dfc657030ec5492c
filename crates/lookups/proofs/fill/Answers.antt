-- `lookups::fill` meets its contract. The invariant: the first `i` places of both lists hold what is written for their pairs. Assumes nothing.
use mathlib.Core.Path.{◌≡◌, sym, ap, ◌∙◌}
use native.Mathlib.Numerals.{add-one}
use native.Mathlib.Omega.{arith}
use lib.ListN.{length}
use mir.Val.{bool_byte}
use Rattle.model.specs.Lookups.{pair_found, value_shown, covered_shown, pairs_shown}
use Rattle.theory.proofs.Copying.{copied, copied_none, copied_more}
use Rattle.lookups.proofs.Left.{value_written, flag_written}
use Rattle.lookups.proofs.fill.Goals as goal
use Rattle.lookups.proofs.fill.Goals.{After-from}

pub loop-i-init : goal.loop-i-init
loop-i-init c = (sym (copied_none _ _), sym (copied_none _ _))

-- what is written for the pair at hand
shown : (c : After-from)
    → let a = c.args in
    let pair = pair_found a.slot.now a.groups.now a.frames.now c.loop-i.i in
    (c.unwrap_or.result ≡ value_shown pair) × (c.from.result ≡ covered_shown pair)
unfolding pair_found
shown c = (
  c.unwrap_or.ensures ∙ value_written c.look-value.result ∙ ap value_shown c.look-value.ensures,
  c.from.ensures ∙ ap bool_byte c.is_some.ensures ∙ flag_written c.look-value.result ∙ ap covered_shown c.look-value.ensures,
)

pub loop-i-preserved : goal.loop-i-preserved
loop-i-preserved c =
    let a = c.args in
    let pair = pair_found a.slot.now a.groups.now a.frames.now in (
      rw (c.loop-i.invariant.0, (shown c).0, add-one c.loop-i.i)
          (copied_more (λ k. value_shown (pair k)) a.values.now c.loop-i.i (omega arith)),
      rw (c.loop-i.invariant.1, (shown c).1, add-one c.loop-i.i)
          (copied_more (λ k. covered_shown (pair k)) a.covered.now c.loop-i.i (omega arith)),
    )

pub returns : goal.returns
unfolding pairs_shown copied
returns c =
    let l = c.loop-i in
    let end : l.i ≡ length c.args.groups.now = omega arith in
    record {
      values_after = l.invariant.0 ∙ rw end;
      covered_after = l.invariant.1 ∙ rw end;
    }
