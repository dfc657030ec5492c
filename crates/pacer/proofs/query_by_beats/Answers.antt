-- `query_by_beats` meets its contract: a query by windows, put together every so many frames. Assumes nothing.
use Rattle.model.specs.Windows.{bound_in}
use Rattle.model.specs.Calls.{beat_query}
use Rattle.pacer.proofs.query_by_beats.Goals as goal

pub query_by_windows-requires : goal.query_by_windows-requires
unfolding bound_in beat_query
query_by_windows-requires c = rw c.beats-query.ensures

pub returns : goal.returns
returns c =
    rw c.beats-query.ensures at c.query_by_windows.ensures
