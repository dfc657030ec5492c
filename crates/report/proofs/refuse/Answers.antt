-- `refuse` meets its contract. Assumes nothing.
use mathlib.Core.Path.{◌≡◌}
use native.Mathlib.Omega.{arith}
use borrow.Author.Rules.{rules}
use lib.ListN.{length}
use Rattle.model.specs.Calls.{number}
use Rattle.text.specs.Text.{refusal_text}
use Rattle.text.specs.Put.{Room}
use Rattle.text.proofs.Putting.{put_whole}
use Rattle.text.proofs.Lengths.{room_refusal}
use Rattle.report.proofs.refuse.Goals as goal
use Rattle.report.proofs.refuse.Goals.{After-put_refusal-arg-1}

-- the buffer has the room
room : (c : After-put_refusal-arg-1) → Room c.args.out.now 0 (refusal_text (number c.args.question) 0)
room c =
    let out = c.args.out.now in
    let size : 4096 ≡ length out = search rules in
    room_refusal out (number c.args.question) 0 (omega arith)

pub put_refusal-requires : goal.put_refusal-requires
put_refusal-requires c = room c

pub returns : goal.returns
returns c = put_whole (room (goal.at.returns c).After-put_refusal-arg-1) c.put_refusal.ensures
