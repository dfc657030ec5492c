-- `query_by_windows` meets its contract: the promise follows from the answer and the slot. Assumes nothing.
use Rattle.theory.proofs.Demands.{ruled_promise}
use Rattle.pacer.proofs.query_by_windows.Goals as goal

pub answer_by_windows-requires : goal.answer_by_windows-requires
answer_by_windows-requires c = c.requires

pub returns : goal.returns
returns c =
    let e = c.answer_by_windows.ensures in
    let a = c.args in
    record {
      says = e.says;
      holds = e.holds;
      promise = ruled_promise a.query a.log.now a.slot.now _ _ e.says e.holds;
    }
