-- `memory::records` meets its contract. The loop's invariant: the last frames of the first records are moved. Assumes nothing.
use mathlib.Core.Path.{◌≡◌}
use native.Mathlib.Omega.{arith}
use Rattle.memory.proofs.Moving.{none_moved, one_more, count_and_places, all_moved, none_to_move}
use Rattle.memory.proofs.records.Goals as goal

pub decode-records-requires : goal.decode-records-requires
decode-records-requires c = c.requires.few_records

pub returns-then-width-eq1 : goal.returns-then-width-eq1
returns-then-width-eq1 c =
    let few = (count_and_places c.args.log.now c.decode-records.result c.requires.few_records c.decode-records.ensures).0 in
    none_to_move _ _ c.decode-records.result c.if-width-eq1.true c.decode-records.ensures few

pub loop-index-init : goal.loop-index-init
loop-index-init c =
    let (few, places) = count_and_places c.args.log.now c.decode-records.result c.requires.few_records c.decode-records.ensures in
    (few, places, none_moved _ _)

pub later-requires : goal.later-requires
later-requires c = c.requires.some_frames

pub loop-index-preserved : goal.loop-index-preserved
loop-index-preserved c =
    let (few, places, m) = c.loop-index.invariant in
    (few, places, one_more _ _ c.loop-index.records c.loop-index.index c.later.result m (omega arith) c.later.ensures)

pub returns : goal.returns
returns c =
    let (few, places, m) = c.loop-index.invariant in
    let done : c.loop-index.index ≡ c.decode-records.result.count = omega arith in
    all_moved _ _ c.decode-records.result c.loop-index.records c.decode-records.ensures few (rw done at m)
