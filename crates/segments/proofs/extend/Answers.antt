-- `segments::extend` meets its contract: the last segment is widened, or one more is stored. Assumes nothing.
use borrow.Author.Rules.{scaled_Fits}
use Prim.Native.Nat.{◌≤◌, ◌<◌, ◌-◌}
use mathlib.Core.Bool.{Bool, true, false}
use mathlib.Core.List.{[], ◌∷◌}
use mathlib.Core.Path.{◌≡◌, sym, ap, ◌∙◌}
use lib.Dec.{lit<}
use native.Mathlib.Omega.{arith}
use Rattle.model.specs.Arrays.{span_in, segments_in}
use Rattle.model.specs.declared.Segment.{Segment}
use Rattle.model.specs.declared.Segments.{Segments}
use Rattle.model.specs.Calls.{segment_of, segment_span}
use Rattle.segments.specs.Steps.{joins}
use Rattle.segments.proofs.Joining.{joins_last}
use Rattle.segments.proofs.Storing.{made_le, joins_last_in, joins_last_none_in, widened, free, stored}
use Rattle.segments.proofs.extend.Goals as goal
use Rattle.segments.proofs.extend.Goals.{then-count-ne0+else-joins, else-count-ne0, Joined-count-ne0, Start, Then-count-ne0, Then-joins}

-- the segments made before
abbrev made : Start → Segments
made s = s.args.made.now

few : (s : Start) → (made s).count ≤ 255
few s = omega (arith, made_le (made s) s.requires.is_made (segment_span s.args.segment ∷ []), s.requires.has_places)

-- the last segment's place
last : (c : Then-count-ne0) → c.args.made.now.count - 1 < 255
last c = omega (arith, few (goal.at.Then-count-ne0 c).Start)

-- whether it joins the next, by the segment read from there
told : (s : Start) (before : Segment) {t : Bool} → before ≡ segment_of (span_in (made s).groups (made s).firsts (made s).lasts (made s).values ((made s).count - 1))
    → t ≡ joins (segment_span before) (segment_span s.args.segment) → ((made s).count ≡ 0 → ⊥)
    → joins_last (segments_in (made s)) (segment_span s.args.segment) ≡ t
unfolding segment_of segment_span span_in
told s before is e some_made =
    joins_last_in (made s) (segment_span s.args.segment) some_made ∙ ap (λ b. joins (segment_span b) (segment_span s.args.segment)) (sym is) ∙ sym e

joining : (c : Then-joins) → joins_last (segments_in (made (goal.at.Then-joins c).Start)) (segment_span c.args.segment) ≡ true
joining c = told (goal.at.Then-joins c).Start c.at.result c.at.ensures c.joins.ensures c.if-count-ne0.true ∙ c.if-joins.true

standing : (c : Joined-count-ne0) → joins_last (segments_in (made (goal.at.Joined-count-ne0 c).Start)) (segment_span c.args.segment) ≡ false
standing c =
    let s = (goal.at.Joined-count-ne0 c).Start in
    elim c.if-count-ne0.branch [
      | then-count-ne0+else-joins w ↦ told s w.at.result w.at.ensures w.joins.ensures w.if-count-ne0.true ∙ w.if-joins.false
      | else-count-ne0 w ↦ joins_last_none_in (made s) (segment_span c.args.segment) w.if-count-ne0.false
    ]

-- the place for one more
room : (c : Joined-count-ne0) → c.args.made.now.count < 255
room c =
    free (made (goal.at.Joined-count-ne0 c).Start) c.requires.is_made (segment_span c.args.segment) (standing c) 255 c.requires.has_places

pub at-requires : goal.at-requires
at-requires c = last (goal.at.at-requires c).Then-count-ne0

pub offset_bounds-made-place : goal.offset_bounds-made-place
offset_bounds-made-place c = scaled_Fits _ 255 2 (last (goal.at.offset_bounds-made-place c).Then-count-ne0) (lit< tt)

pub bounds-made-place : goal.bounds-made-place
bounds-made-place c = last (goal.at.bounds-made-place c).Then-count-ne0

pub returns-then-joins : goal.returns-then-joins
unfolding segment_span
returns-then-joins c =
    widened (made (goal.at.returns-then-joins c).Start) c.requires.is_made (segment_span c.args.segment) (joining (goal.at.returns-then-joins c).Then-joins)

pub bounds-made-count : goal.bounds-made-count
bounds-made-count c = room (goal.at.bounds-made-count c).Joined-count-ne0

pub offset_bounds-made-count : goal.offset_bounds-made-count
offset_bounds-made-count c = scaled_Fits _ 255 2 (room (goal.at.offset_bounds-made-count c).Joined-count-ne0) (lit< tt)

pub bounds-made-count-2 : goal.bounds-made-count-2
bounds-made-count-2 c = room (goal.at.bounds-made-count-2 c).Joined-count-ne0

pub offset_bounds-made-count-2 : goal.offset_bounds-made-count-2
offset_bounds-made-count-2 c = scaled_Fits _ 255 2 (room (goal.at.offset_bounds-made-count-2 c).Joined-count-ne0) (lit< tt)

pub bounds-made-count-3 : goal.bounds-made-count-3
bounds-made-count-3 c = room (goal.at.bounds-made-count-3 c).Joined-count-ne0

pub offset_bounds-made-count-3 : goal.offset_bounds-made-count-3
offset_bounds-made-count-3 c = scaled_Fits _ 255 4 (room (goal.at.offset_bounds-made-count-3 c).Joined-count-ne0) (lit< tt)

pub bounds-made-count-4 : goal.bounds-made-count-4
bounds-made-count-4 c = room (goal.at.bounds-made-count-4 c).Joined-count-ne0

pub overflow_add-made : goal.overflow_add-made
overflow_add-made c = omega (arith, room (goal.at.overflow_add-made c).Joined-count-ne0)

pub returns : goal.returns
unfolding segment_span
returns c =
    stored (made (goal.at.returns c).Start) c.requires.is_made (segment_span c.args.segment) (standing (goal.at.returns c).Joined-count-ne0) (room (goal.at.returns c).Joined-count-ne0)
