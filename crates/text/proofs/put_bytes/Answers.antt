-- `put_bytes` meets its contract: the bytes are copied to their place. Assumes nothing.
use mathlib.Core.Path.{refl}
use Rattle.text.proofs.Putting.{put_copied}
use Rattle.text.proofs.put_bytes.Goals as goal

pub returns : goal.returns
returns c = put_copied c.requires c.copy.ensures refl
