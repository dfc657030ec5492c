-- `segments::find_group` meets its contract. The loop's invariant: what is made, with the frames left behind it, joins to the whole.
-- Assumes nothing.
use Prim.Native.Nat.{ℕ, suc, ◌-◌, ◌≤◌}
use mathlib.Core.List.{List, [], ◌++◌, append-nil}
use mathlib.Core.Option.{Option}
use mathlib.Core.Path.{◌≡◌, ap, ◌∙◌}
use native.Mathlib.Numerals.{add-one}
use native.Mathlib.Omega.{arith}
use lib.ListN.{length}
use Rattle.model.specs.Common.{list_from}
use Rattle.model.specs.Spans.{Span, frame_count}
use Rattle.model.specs.Segments.{frames_from}
use Rattle.model.specs.Arrays.{segments_in, segment_arrays}
use Rattle.model.specs.declared.Segments.{Segments}
use Rattle.tally.specs.Tally.{owns_in, own_value}
use Rattle.model.specs.Calls.{kind_number}
use Rattle.segments.specs.Steps.{joined}
use Rattle.segments.proofs.Joining.{joined_le}
use Rattle.segments.proofs.Storing.{made_by, made_behind}
use Rattle.tally.proofs.Stops.{stop_from, stop_le}
use Rattle.segments.proofs.Stretches.{joined_parts, frames_past, frames_unowned}
use Rattle.segments.proofs.find_group.Goals as goal
use Rattle.segments.proofs.find_group.Goals.{After-add_stretch, After-survey-here, At-loop-kind, Else-here, Start}

-- the values of the group's frames
abbrev val : Start → ℕ → ℕ → Option ℕ
val s = own_value (kind_number s.args.kind) (owns_in s.args.own.now)

-- the segments made before, and those made so far
abbrev before : Start → List (Span ℕ)
before s = segments_in s.args.made.now

abbrev so_far : At-loop-kind → List (Span ℕ)
so_far c = segments_in c.loop-kind.made

-- the next stretch lies among the frames left
within : (c : After-survey-here)
    → (c.loop-kind.a ≤ c.survey-here.result.stop) × (c.survey-here.result.stop ≤ 65535)
within c =
    let own = owns_in c.args.own.now in
    rw c.survey-here.ensures.stops (stop_from c.loop-kind.a own c.loop-kind.invariant.0, stop_le c.loop-kind.a own)

-- the frames up to the next event, those left, and all
abbrev stretch : After-survey-here → List (Span ℕ)
stretch c =
    frames_from (val (goal.at.After-survey-here c).Start) c.args.group c.loop-kind.a (suc c.survey-here.result.stop - c.loop-kind.a) []

abbrev left : After-survey-here → List (Span ℕ)
left c =
    frames_from (val (goal.at.After-survey-here c).Start) c.args.group (suc c.survey-here.result.stop) (frame_count - suc c.survey-here.result.stop) []

abbrev whole : Start → List (Span ℕ)
whole s = joined (before s ++ frames_from (val s) s.args.group 0 frame_count [])

parts : (c : After-survey-here)
    → joined (so_far (goal.at.After-survey-here c).At-loop-kind ++ stretch c ++ left c) ≡ whole (goal.at.After-survey-here c).Start
unfolding frame_count
parts c =
    let w = within c in
    joined_parts (val (goal.at.After-survey-here c).Start) c.args.group c.loop-kind.a (suc c.survey-here.result.stop) frame_count (so_far (goal.at.After-survey-here c).At-loop-kind) (omega arith) (omega arith)
    ∙ c.loop-kind.invariant.2

-- the segments made with the stretch
abbrev made : After-add_stretch → Segments
made c = c.add_stretch.new.made

-- the frame after a stretch that does not end with the last frame
next_frame : (c : Else-here)
    → suc c.survey-here.result.stop ≤ 65535
next_frame c = omega (arith, within (goal.at.Else-here c).After-survey-here, c.if-here.false)

pub returns-then-own-eq0 : goal.returns-then-own-eq0
unfolding list_from
returns-then-own-eq0 c =
    let no-records : c.args.own.now.count ≡ 0 = c.if-own-eq0.true in
    rw (no-records, frames_unowned (kind_number c.args.kind) c.args.group 0 frame_count, append-nil) c.requires.is_made

pub loop-kind-init : goal.loop-kind-init
loop-kind-init c = let all : frame_count - 0 ≡ frame_count = omega arith in (omega arith, c.requires.is_made, rw all)

pub add_stretch-requires : goal.add_stretch-requires
add_stretch-requires c =
    record {
      surveyed = c.survey-here.ensures;
      is_made = c.loop-kind.invariant.1;
      has_places = omega (
        arith,
        c.requires.has_places,
        ap (λ (l : List (Span ℕ)). length l) (parts (goal.at.add_stretch-requires c).After-survey-here),
        joined_le (so_far (goal.at.add_stretch-requires c).At-loop-kind ++ stretch (goal.at.add_stretch-requires c).After-survey-here) (left (goal.at.add_stretch-requires c).After-survey-here),
      );
    }

pub returns-then-here : goal.returns-then-here
unfolding frame_count
returns-then-here c =
    let past : frame_count ≤ suc c.survey-here.result.stop = omega (arith, c.if-here.true) in
    let done : so_far (goal.at.returns-then-here c).At-loop-kind ++ stretch (goal.at.returns-then-here c).After-survey-here ≡ so_far (goal.at.returns-then-here c).At-loop-kind ++ stretch (goal.at.returns-then-here c).After-survey-here ++ left (goal.at.returns-then-here c).After-survey-here =
    rw (frames_past (val (goal.at.returns-then-here c).Start) c.args.group (suc c.survey-here.result.stop) frame_count past, append-nil) in
    c.add_stretch.ensures ∙ ap segment_arrays (ap joined done ∙ parts (goal.at.returns-then-here c).After-survey-here)

pub overflow_add-a : goal.overflow_add-a
overflow_add-a c = omega (arith, next_frame (goal.at.overflow_add-a c).Else-here)

pub loop-kind-smaller : goal.loop-kind-smaller
loop-kind-smaller c = omega (arith, next_frame (goal.at.loop-kind-smaller c).Else-here, within (goal.at.loop-kind-smaller c).After-survey-here)

pub loop-kind-preserved : goal.loop-kind-preserved
loop-kind-preserved c =
    let l = so_far (goal.at.loop-kind-preserved c).At-loop-kind ++ stretch (goal.at.loop-kind-preserved c).After-survey-here in
    rw (add-one c.survey-here.result.stop) (
      next_frame (goal.at.loop-kind-preserved c).Else-here,
      made_by (made (goal.at.loop-kind-preserved c).After-add_stretch) l c.add_stretch.ensures,
      made_behind (made (goal.at.loop-kind-preserved c).After-add_stretch) l c.add_stretch.ensures (left (goal.at.loop-kind-preserved c).After-survey-here) ∙ parts (goal.at.loop-kind-preserved c).After-survey-here,
    )
