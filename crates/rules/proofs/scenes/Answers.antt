-- `scenes` meets its contract. Assumes nothing.
use Rattle.model.specs.Questions.{most_scenes}
use Rattle.model.specs.Calls.{scene_query}
use Rattle.rules.proofs.scenes.Goals as goal

pub returns : goal.returns
unfolding scene_query most_scenes
returns c = rw (c.count_of-count.ensures, c.frames_of.ensures, c.frames_of-2.ensures)
