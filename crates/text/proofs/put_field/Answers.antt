-- `put_field` meets its contract: a number, then a byte. Assumes nothing.
use mathlib.Core.Path.{refl}
use Rattle.text.proofs.Putting.{put_then}
use Rattle.text.proofs.put_field.Goals as goal

pub returns : goal.returns
returns c = put_then c.put_number-next.ensures refl c.put_byte.ensures
