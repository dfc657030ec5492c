-- `tally::Group::survey` meets its contract. The loop's invariant: what is found so far, with what the records left have, is what
-- all have. Assumes nothing.
use Rattle.tally.specs.Tally.{own_in}
use Rattle.tally.proofs.Loads.{Surveying}
use Rattle.tally.proofs.Group.survey.Given as goal

abbrev pub invariant-loop-index : goal.invariant-loop-index
invariant-loop-index l = Surveying l.a l.b (own_in l.self) l.self.count l.index l.stop l.count l.low l.high
