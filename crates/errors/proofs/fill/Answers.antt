-- `fill` meets its contract. The invariant: the places of the blocks that end with one of the first `i` segments hold their errors.
-- Assumes nothing.
use Prim.Native.Nat.{◌+◌}
use mathlib.Core.Path.{refl}
use native.Mathlib.Omega.{arith}
use Rattle.triangle.specs.Places.{gap_at}
use Rattle.triangle.proofs.Starts.{start_le}
use Rattle.measures.proofs.Growing.{measurable_prefix}
use Rattle.errors.proofs.Filling.{rows_begin, next_room, rows_next}
use Rattle.errors.proofs.fill.Goals as goal

pub loop-i-init : goal.loop-i-init
loop-i-init c = rows_begin _ _ _ _ _

pub overflow_add-start : goal.overflow_add-start
overflow_add-start c = omega (arith, c.loop-i.invariant.begins, start_le c.loop-i.i (omega (arith, c.requires.measurable.few)))

pub fill_row-requires : goal.fill_row-requires
unfolding gap_at
fill_row-requires c =
    record {
      low_in_block = omega (arith, c.from.ensures, c.requires.gaps_below (c.loop-i.i + 1) (omega arith) (omega arith));
      measurable = measurable_prefix c.requires.measurable (c.loop-i.i + 1) (omega arith);
      places = next_room c.loop-i.invariant c.loop-i-test.true c.requires.places;
    }

pub loop-i-preserved : goal.loop-i-preserved
unfolding gap_at
loop-i-preserved c =
    rows_next c.loop-i.invariant c.loop-i-test.true c.from.ensures c.fill_row.ensures

pub returns : goal.returns
returns c =
    record { gaps = λ i le. refl; errors = λ j i above lt le. c.loop-i.invariant.held j i above lt (omega arith) }
