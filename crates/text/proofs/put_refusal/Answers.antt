-- `put_refusal` meets its contract: three bytes, then the line of the number and the index. Assumes nothing.
use mathlib.Core.Path.{refl}
use Rattle.text.specs.Text.{refusal_text}
use Rattle.text.proofs.Putting.{room_first, room_then, put_then}
use Rattle.text.proofs.put_refusal.Goals as goal

pub put_bytes-next-requires : goal.put_bytes-next-requires
unfolding refusal_text
put_bytes-next-requires c = room_first _ refl c.requires

pub put_line-requires : goal.put_line-requires
unfolding refusal_text
put_line-requires c =
    rw (c.from.ensures, c.from-question.ensures) (room_then c.put_bytes-next.ensures refl c.requires)

pub returns : goal.returns
unfolding refusal_text
returns c =
    put_then c.put_bytes-next.ensures refl (rw (c.from.ensures, c.from-question.ensures) at c.put_line.ensures)
