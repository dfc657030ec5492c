-- `query_and_read` meets its contract: what the reader returns is what the slot holds, and that is best. Assumes nothing.
use Rattle.pacer.proofs.Answering.{best_reading}
use Rattle.pacer.proofs.query_and_read.Goals as goal

pub returns : goal.returns
returns c =
    let e = c.query_by_bound-answer.ensures in
    let r = c.read-reading.ensures in
    record {
      says = e.says;
      holds = e.holds;
      header = r.header;
      rows = r.rows;
      promise = e.promise;
      best = λ counts accepts. best_reading _ _ _ c.read-reading.result (e.promise.best counts accepts) r.header r.rows;
    }
