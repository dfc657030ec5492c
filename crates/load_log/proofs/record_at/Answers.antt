-- `load_log::record_at` meets its contract, field by field. Assumes nothing.
use lib.ListN.{get_or}
use Prim.Native.Nat.{◌+◌}
use Rattle.model.specs.Calls.{record_span}
use Rattle.model.specs.Log.{record_at}
use Rattle.load_log.proofs.record_at.Goals as goal

pub returns : goal.returns
unfolding record_span record_at
returns c = λ i.
    record {
      group = get_or c.args.log.now (c.args.at + 2) 0;
      first = c.two.ensures i;
      last = c.two-2.ensures i;
      value = c.two-3.ensures i;
    }
