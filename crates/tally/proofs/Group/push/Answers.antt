-- `tally::Group::push` meets its contract. Assumes nothing.
use native.Mathlib.Numerals.{add-one}
use native.Mathlib.Omega.{arith}
use Rattle.tally.proofs.Loads.{owns_more}
use Rattle.tally.proofs.Group.push.Goals as goal

pub returns-clause-put : goal.returns-clause-put
returns-clause-put c =
    let s = c.args.self.now in
    let r = c.args.«record» in
    rw (add-one s.count) (owns_more s.firsts s.lasts s.loads s.count r.first r.last r.load (omega arith, omega arith, omega arith))
