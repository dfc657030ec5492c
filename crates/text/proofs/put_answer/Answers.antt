-- `put_answer` meets its contract: the text of either case. Assumes nothing.
use Rattle.model.specs.Calls.{number, counts_in, answer_case}
use Rattle.text.specs.Text.{answer_text}
use Rattle.text.specs.Put.{accepted_text, row_count}
use Rattle.text.proofs.Putting.{put_whole}
use Rattle.text.proofs.Lengths.{room_accepted, room_refusal}
use Rattle.text.proofs.Widths.{rows_narrow}
use Rattle.text.proofs.put_answer.Goals as goal

pub put_accepted-requires : goal.put_accepted-requires
unfolding row_count answer_case counts_in
put_accepted-requires c = rw c.in-Ok.is at c.requires

pub put_refusal-requires : goal.put_refusal-requires
put_refusal-requires c =
    let r = c.in-Err.refusal in
    room_refusal c.args.out.now (number r.question) r.index c.requires.1

pub returns-in-Ok : goal.returns-in-Ok
unfolding row_count answer_case counts_in accepted_text
returns-in-Ok c =
    let v = c.in-Ok in
    let a = c.args in
    let room = room_accepted a.out.now a.rows v.written (rows_narrow a.rows _ c.well_formed.1.1.0) (rw v.is at c.requires) in
    rw v.is (put_whole room c.put_accepted.ensures)

pub returns-in-Err : goal.returns-in-Err
unfolding row_count answer_case answer_text
returns-in-Err c =
    let v = c.in-Err in
    let r = v.refusal in
    let room = room_refusal c.args.out.now (number r.question) r.index c.requires.1 in
    rw v.is (put_whole room c.put_refusal.ensures)
