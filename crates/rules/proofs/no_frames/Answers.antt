-- `no_frames` meets its contract. Assumes nothing.
use mathlib.Core.Path.{refl}
use Rattle.model.specs.Questions.{most_scenes}
use Rattle.model.specs.Calls.{no_frames}
use Rattle.rules.proofs.no_frames.Goals as goal

pub returns : goal.returns
unfolding no_frames most_scenes
returns c = refl
