-- `checker::ask_against` meets its contract: the rows are compared with the segments of the slot's kind. Assumes nothing.
use Prim.Native.Nat.{ℕ}
use mathlib.Core.Path.{◌≡◌, ap, ap₂, ◌∙◌}
use native.Mathlib.Omega.{arith}
use Rattle.model.specs.Log.{records}
use Rattle.model.specs.Slot.{slot_kind, slot_error, slot_rows}
use Rattle.model.specs.Calls.{kind_number, log_segments}
use Rattle.model.specs.Arrays.{segments_in}
use Rattle.theory.proofs.Asking.{answer}
use Rattle.theory.proofs.Frames.{segmentation}
use Rattle.theory.proofs.SlotLaws.{room_passed}
use Rattle.load_log.proofs.Columns.{segments_held}
use Rattle.checker.specs.Found.{found_questions}
use Rattle.checker.proofs.Asking.{found_answers}
use Rattle.checker.proofs.ask_against.Goals as goal
use Rattle.checker.proofs.ask_against.Goals.{After-of_log}

pub bounds-slot-2 : goal.bounds-slot-2
bounds-slot-2 c = omega (arith, room_passed _ c.requires.slot_passes)

-- the kind is the slot's
kind : (c : After-of_log) → kind_number c.of-kind.result ≡ slot_kind c.args.slot.now
unfolding slot_kind
kind c = c.of-kind.ensures

-- the segments are the log's
found : (c : After-of_log) → segments_in c.of_log.new.segments ≡ log_segments (slot_kind c.args.slot.now) c.args.width c.args.log.now
found c =
    ap segments_in c.of_log.ensures
    ∙ segments_held _
    ∙ ap (λ (kind : ℕ). log_segments kind c.args.width c.args.log.now) (kind c)

pub with_segments-found-requires-clause-of_log : goal.with_segments-found-requires-clause-of_log
with_segments-found-requires-clause-of_log c =
    (_, _, _, c.requires.log_passes, found (goal.at.with_segments-found-requires-clause-of_log c).After-of_log)

pub eight-requires : goal.eight-requires
eight-requires c = omega (arith, room_passed _ c.requires.slot_passes)

pub returns : goal.returns
unfolding log_segments slot_error
returns c =
    let a = c.args in
    let t = (goal.at.returns c).After-of_log in
    let rows = c.with_segments-found.result in
    c.ask_found.ensures
    ∙ ap₂ (λ (kind error : ℕ). answer (found_questions kind error rows)) (kind t) c.eight.ensures
    ∙ found_answers (slot_kind a.slot.now) (slot_error a.slot.now) (slot_rows a.slot.now) _ rows c.with_segments-found.ensures _
    (rw (found t) (segmentation (slot_kind a.slot.now) a.width (records a.log.now)))
