-- `read_back` meets its contract: a recursion on the falling number of rows. Assumes nothing.
use Rattle.std.proofs.Common.{◌-◌, sym, subst, arith}
use Rattle.cuts.specs.Held.{cuts_in, ascending, Readable}
use Rattle.cuts.proofs.Reading.{readable_cut, cuts_step}
use Rattle.cuts.proofs.+read_back.Goals as goal

pub returns-then-k-eq0 : goal.returns-then-k-eq0
unfolding ascending cuts_in
returns-then-k-eq0 t c = rw c.if-k-eq0.true

pub read_back-requires : goal.read_back-requires
read_back-requires t c =
    let a = c.args in
    let cut = readable_cut a.table.now a.k a.i c.if-k-eq0.false c.requires.readable in
    let below = cut.0 in (
      omega arith,
      ((omega arith, omega (arith, c.from.ensures)), subst (Readable a.table.now (a.k - 1)) (sym c.from.ensures) cut.1),
    )

pub returns : goal.returns
returns t c =
    let a = c.args in
    cuts_step a.table.now a.k a.i c.if-k-eq0.false c.from.result a.cuts.now _ (omega arith) c.from.ensures c.read_back.ensures
