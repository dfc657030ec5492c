-- `query_by_scenes` meets its contract: a query by windows, put together by scenes. Assumes nothing.
use Rattle.model.specs.Windows.{bound_in}
use Rattle.model.specs.Calls.{scene_query}
use Rattle.pacer.proofs.query_by_scenes.Goals as goal

pub query_by_windows-requires : goal.query_by_windows-requires
unfolding bound_in scene_query
query_by_windows-requires c = rw c.scenes-query.ensures

pub returns : goal.returns
returns c =
    rw c.scenes-query.ensures at c.query_by_windows.ensures
