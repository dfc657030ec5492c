-- `rules::frames_of` meets its contract: as many frames as there are places for are copied over zeros. Assumes nothing.
use Rattle.model.specs.Questions.{most_scenes}
use Rattle.model.specs.Calls.{no_frames}
use Rattle.rules.proofs.Padded.{first_frames}
use Rattle.rules.proofs.frames_of.Goals as goal

pub returns : goal.returns
unfolding no_frames most_scenes
returns c = rw (c.copy_from_slice.ensures.after, c.no_frames-frames.ensures) (first_frames 16 c.min-count.result c.args.list.now c.min-count.ensures)
