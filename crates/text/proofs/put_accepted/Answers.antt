-- `put_accepted` meets its contract: the first line, then the rows. Assumes nothing.
use mathlib.Core.Path.{◌≡◌, refl, ap}
use native.Mathlib.Omega.{arith}
use lib.ListN.{length, take}
use Rattle.model.specs.Calls.{counts_in}
use Rattle.model.specs.Arrays.{rows_in}
use Rattle.text.specs.Text.{rows_text, answer_text}
use Rattle.text.specs.Put.{Room, accepted_text}
use Rattle.text.proofs.Putting.{room_first, room_then, put_then}
use Rattle.text.proofs.Lengths.{room_accepted}
use Rattle.text.proofs.Lines.{lines, first_rows}
use Rattle.text.proofs.Widths.{rows_narrow}
use Rattle.text.proofs.put_accepted.Goals as goal
use Rattle.text.proofs.put_accepted.Goals.{Start}

room : (c : Start) → Room c.args.out.now 0 (accepted_text c.args.rows c.args.written)
room c =
    let a = c.args in
    room_accepted a.out.now a.rows a.written (rows_narrow a.rows _ c.well_formed.1.1.0) c.requires

-- the lines of the rows that are counted
counted : (c : Start) → lines (take c.args.written.rows c.args.rows) ≡ rows_text (rows_in c.args.rows c.args.written.rows)
counted c =
    let a = c.args in
    let size : length a.rows ≡ 64 = c.well_formed.1.1.0.1.0.1 in
    ap rows_text (first_rows a.rows a.written.rows (omega (arith, c.requires)))

pub put_line-next-requires : goal.put_line-next-requires
unfolding accepted_text answer_text counts_in
put_line-next-requires c = room_first _ refl (room (goal.at.put_line-next-requires c).Start)

pub put_rows-requires : goal.put_rows-requires
unfolding accepted_text answer_text counts_in
put_rows-requires c =
    let start = (goal.at.put_rows-requires c).Start in
    rw (counted start) (room_then c.put_line-next.ensures refl (room start))

pub returns : goal.returns
unfolding accepted_text answer_text counts_in
returns c =
    put_then c.put_line-next.ensures refl (rw (counted (goal.at.returns c).Start) at c.put_rows.ensures)
