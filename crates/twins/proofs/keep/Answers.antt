-- `twins::keep` meets its contract. The loop's invariant: the firsts of the keys so far are set, and the records that are kept so far
-- stand at the front of the buffer. Assumes nothing.
use Prim.Native.Nat.{◌*◌, ◌+◌, ◌≤◌}
use mathlib.Core.Path.{◌≡◌, refl, sym, ◌∙◌}
use native.Mathlib.Omega.{arith}
use lib.ListN.{length}
use Rattle.twins.proofs.Keys.{none_noted, new_first, part_put, written_none, written_first, written_still, kept_so_far}
use Rattle.twins.proofs.keep.Goals as goal
use Rattle.twins.proofs.keep.Goals.{then-new, else-new}

pub loop-index-init : goal.loop-index-init
loop-index-init c =
    let a = c.args in
    (none_noted a.log.now, written_none a.log.now a.buffer.now)

pub is_new-new-requires : goal.is_new-new-requires
is_new-new-requires c =
    record { small = omega arith; has_record = omega arith; noted_ahead = c.loop-index.invariant.0 }

pub loop-index-preserved : goal.loop-index-preserved
loop-index-preserved c =
    let l = c.loop-index in
    let log = c.args.log.now in
    let within : 9 * l.index + 9 ≤ length log = omega arith in
    let first = sym (new_first log (λ j. omega (arith, c.type_inv.log j)) c.args.count c.requires.begun l.index c.loop-index-test.true)
    ∙ sym c.is_new-new.ensures.tells in (
      c.is_new-new.ensures.noted,
      elim c.if-new.branch [
        | then-new w ↦ rw (w.buffer-is, w.at-is)
            (written_first log l.index c.args.buffer.now l.buffer l.at l.invariant.1 within (first ∙ w.if-new.true) _
            (part_put log l.index l.at l.buffer _ w.copy.new.to within refl w.copy.ensures))
        | else-new w ↦ rw (w.buffer-is, w.at-is)
            (written_still log l.index c.args.buffer.now l.buffer l.at l.invariant.1 within (first ∙ w.if-new.false))
      ],
    )

pub returns : goal.returns
unfolding kept_so_far
returns c =
    let l = c.loop-index in
    let a = c.args in
    let end : l.index ≡ a.count = omega arith in
    record {
      tells = rw end at l.invariant.1.ended;
      written = rw end at l.invariant.1.written;
    }
