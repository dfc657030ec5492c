-- `Work::share_out` meets its contract: the errors that are read are those that were worked out. Assumes nothing.
use Rattle.triangle.proofs.Agreeing.{costs_cong}
use Rattle.split.proofs.Sharing.{reduces_cong}
use Rattle.split.proofs.Work.share_out.Goals as goal

pub fill-requires-2-clause-costs : goal.fill-requires-2-clause-costs
fill-requires-2-clause-costs c = let ready = c.requires.ready in costs_cong (rw (← ready.all) at c.fill.ensures) ready.costs

pub returns : goal.returns
returns c =
    let task = c.args.self.now.task in
    let answer = c.fill-2.ensures in
    reduces_cong (rw (← c.requires.ready.all) at c.fill.ensures) task.runs task.bound
    (record { answer = answer.answer; cuts = answer.cuts; weighed = answer.weighed_bound })
