-- `twins::keep` meets its contract. The loop's invariant: the firsts of the keys so far are set, and the records that are kept so far
-- stand at the front of the buffer. Assumes nothing.
use Rattle.twins.specs.Keys.{Noted}
use Rattle.twins.proofs.Keys.{Written}
use Rattle.twins.proofs.keep.Given as goal

abbrev pub invariant-loop-index : goal.invariant-loop-index
invariant-loop-index l =
    Noted l.log l.index l.firsts × Written l.log l.index l.initial.buffer l.buffer l.at
