-- `windows::beat` meets its contract: the window begins at a frame, so that only its end may be cut off. Assumes nothing.
use Prim.Native.Nat.{◌+◌, ◌-◌, ◌*◌, ◌≤◌, min}
use mathlib.Core.Path.{◌≡◌, ◌∙◌}
use native.Mathlib.Omega.{arith}
use Rattle.model.specs.Spans.{frame_count}
use Rattle.model.specs.Windows.{beat}
use Rattle.theory.proofs.Windows.{beat_begins}
use Rattle.windows.proofs.beat.Goals as goal
use Rattle.windows.proofs.beat.Goals.{After-from-2, Start}

-- the window's first frame is a frame
at_frame : (s : Start) → s.args.start + s.args.length * s.args.i ≤ 65535
unfolding frame_count
at_frame s = omega (arith, (beat_begins s.args.length s.args.start s.args.i s.requires.0).0 s.requires.1)

-- and is what the code works out
first : (c : After-from-2) → c.from.result + c.from-2.result * c.args.i ≡ c.args.start + c.args.length * c.args.i
first c = rw (c.from.ensures, c.from-2.ensures)

pub overflow_mul-first : goal.overflow_mul-first
overflow_mul-first c = omega (arith, first c, at_frame (goal.at.overflow_mul-first c).Start)

pub overflow_add-first : goal.overflow_add-first
overflow_add-first c = omega (arith, first c, at_frame (goal.at.overflow_add-first c).Start)

pub overflow_add-first-2 : goal.overflow_add-first-2
overflow_add-first-2 c = omega (arith, first (goal.at.overflow_add-first-2 c).After-from-2, at_frame (goal.at.overflow_add-first-2 c).Start)

pub returns : goal.returns
unfolding beat frame_count
returns c =
    let from = first (goal.at.returns c).After-from-2 in
    let begin : c.cut_off.result ≡ c.args.start + c.args.length * c.args.i =
    c.cut_off.ensures ∙ rw from (omega (arith, at_frame (goal.at.returns c).Start)) in
    let end : c.cut_off-2.result ≡ min (c.args.start + c.args.length * c.args.i + (c.args.length - 1)) 65535 =
    c.cut_off-2.ensures ∙ rw (from, c.from-3.ensures) in
    rw (begin, end)
