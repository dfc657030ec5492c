-- `put_line` meets its contract: the first number, each other with the space ahead of it, and the end of the line. Assumes nothing.
use mathlib.Core.Path.{refl, sym}
use mathlib.Core.List.{[]}
use Rattle.text.proofs.Putting.{room_first, room_then, put_then, left_all, left_less}
use Rattle.text.proofs.Lines.{line_rest, line_first, rest_more, rest_none}
use Rattle.text.proofs.put_line.Goals as goal

pub put_number-next-requires : goal.put_number-next-requires
put_number-next-requires c =
    room_first (line_rest c.args.more.now) (line_first c.args.first c.args.more.now) c.requires

pub loop-n-init : goal.loop-n-init
loop-n-init c =
    left_all refl (room_then c.put_number-next.ensures (line_first c.args.first c.args.more.now) c.requires)

pub put_byte-next-requires : goal.put_byte-next-requires
put_byte-next-requires c =
    room_first _ (rest_more c.args.more.now c.loop-n.n-index c.loop-n-test.true) c.loop-n.invariant.room

pub put_number-next-requires-in-loop-n : goal.put_number-next-requires-in-loop-n
put_number-next-requires-in-loop-n c =
    room_first _ refl
    (room_then c.put_byte-next.ensures (rest_more c.args.more.now c.loop-n.n-index c.loop-n-test.true) c.loop-n.invariant.room)

pub loop-n-preserved : goal.loop-n-preserved
loop-n-preserved c =
    left_less
    (left_less c.loop-n.invariant c.put_byte-next.ensures (rest_more c.args.more.now c.loop-n.n-index c.loop-n-test.true))
    c.put_number-next-in-loop-n.ensures
    refl

pub put_byte-requires : goal.put_byte-requires
put_byte-requires c =
    room_first [] (sym (rest_none c.args.more.now c.loop-n.n-index c.loop-n-test.false)) c.loop-n.invariant.room

pub returns : goal.returns
returns c =
    put_then c.put_number-next.ensures (line_first c.args.first c.args.more.now)
    (c.loop-n.invariant.completes _ _
    (rw (rest_none c.args.more.now c.loop-n.n-index c.loop-n-test.false) c.put_byte.ensures))
