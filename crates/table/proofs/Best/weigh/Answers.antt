-- `Best::weigh` meets its contract. Assumes nothing.
use Rattle.table.proofs.Scan.{weigh_in}
use Rattle.table.proofs.Best.weigh.Goals as goal

pub returns : goal.returns
returns c =
    let (weighed, small) = weigh_in c.args.self _ _ _ _ c.requires.1 c.select_unpredictable.ensures c.select_unpredictable-2.ensures in
    record { weighed = weighed; at_most_none = small }
