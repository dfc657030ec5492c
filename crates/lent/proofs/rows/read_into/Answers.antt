-- `rows::read_into` meets its contract: the places, and then the reader's own questions. Assumes nothing.
use Prim.Native.Nat.{◌≤◌}
use borrow.Author.Tests.{lt-leb}
use lib.Seq.{length-take-le}
use mathlib.Core.Path.{sym}
use native.Mathlib.Omega.{arith}
use Rattle.std.proofs.lemmas.Result.{err_from_is_err_and}
use Rattle.model.specs.Split.{most_rows}
use Rattle.model.specs.Questions.{outcome, lent, ask, ask_room}
use Rattle.model.specs.Calls.{number, answer_case, header_in, read_list_questions, read_list_outcome, read_list}
use Rattle.lent.proofs.Filling.{refused_list, few, said, filled}
use Rattle.lent.proofs.rows.read_into.Goals as goal
use Rattle.lent.proofs.rows.read_into.Goals.{In_ok-reading}

pub returns-then-list-lt-MOST_ROWS : goal.returns-then-list-lt-MOST_ROWS
unfolding answer_case number read_list_outcome read_list read_list_questions ask_room ask outcome lent most_rows
returns-then-list-lt-MOST_ROWS c =
    let small = lt-leb 64 _ c.if-list-lt-MOST_ROWS.true in
    record { says = rw (c.no.ensures, small); holds = rw small }

pub returns-in_err-reading : goal.returns-in_err-reading
unfolding answer_case most_rows
returns-in_err-reading c =
    let p = err_from_is_err_and c.from_residual.result c.from_residual.ensures.1 in
    let r = refused_list c.args.slot.now c.args.list.now (omega arith) (sym c.in_err-reading.ensures.says) in
    record { says = rw (p.1, p.2) r.0; holds = r.1 }

-- the rows that were read fit
fits : (c : In_ok-reading) → c.in_ok-reading.reading.header.rows ≤ 64
unfolding answer_case header_in most_rows
fits c = few c.args.slot.now c.args.list.now (omega arith) _ _ (sym c.in_ok-reading.ensures.says) c.in_ok-reading.ensures.rows

pub slice_bounds-copy_from_slice-end : goal.slice_bounds-copy_from_slice-end
slice_bounds-copy_from_slice-end c = let few = fits c in omega arith

pub slice_bounds-copy_from_slice-end-2 : goal.slice_bounds-copy_from_slice-end-2
slice_bounds-copy_from_slice-end-2 c =
    let few = fits (goal.at.slice_bounds-copy_from_slice-end-2 c).In_ok-reading in
    sym (length-take-le _ c.args.list.now (omega arith))

pub shared_ref_as_front-copy_from_slice : goal.shared_ref_as_front-copy_from_slice
shared_ref_as_front-copy_from_slice c = let few = fits (goal.at.shared_ref_as_front-copy_from_slice c).In_ok-reading in omega (arith, few)

pub returns : goal.returns
unfolding answer_case header_in most_rows
returns c =
    let e = c.in_ok-reading.ensures in
    let slot = c.args.slot.now in
    let list = c.args.list.now in
    record {
      says = said slot list (omega arith) _ _ (sym e.says) e.rows;
      holds = rw c.copy_from_slice.ensures.after (filled slot list (omega arith) _ _ (sym e.says) e.rows);
    }
