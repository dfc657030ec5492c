-- `segments::find` meets its contract. The loop's invariant: what is made, with the groups left behind it, joins to the segments.
-- Assumes nothing.
use Prim.Native.Nat.{ℕ, suc, ◌-◌, ◌≤◌, ◌<◌}
use mathlib.Core.List.{List, [], ◌++◌, append_assoc, append-nil}
use mathlib.Core.Path.{◌≡◌, sym, ap, ◌∙◌}
use native.Mathlib.Numerals.{add-one}
use native.Mathlib.Omega.{arith}
use lib.ListN.{length}
use Rattle.model.specs.Spans.{Span, group_count, frame_count}
use Rattle.model.specs.Log.{value}
use Rattle.model.specs.Segments.{frames_from, groups_from, segments}
use Rattle.model.specs.Calls.{kind_number}
use Rattle.model.specs.Arrays.{span_in, records_in, segments_in, segment_arrays}
use Rattle.model.specs.Questions.{most_records}
use Rattle.model.specs.declared.Segments.{Segments}
use Rattle.theory.proofs.SlotLaws.{length-list_from}
use Rattle.tally.specs.declared.Own.{Own}
use Rattle.tally.specs.Tally.{owns_in, own_value}
use Rattle.segments.specs.Steps.{joined}
use Rattle.segments.proofs.Joining.{joined_le}
use Rattle.segments.proofs.Storing.{made_by, made_behind}
use Rattle.segments.proofs.Groups.{segments_joined, groups_left, groups_past, frames_own, enough_places}
use Rattle.segments.proofs.find.Goals as goal
use Rattle.segments.proofs.find.Goals.{After-find_group, After-loop-group, After-select, At-loop-group, In-loop-group, Start}

-- all records
abbrev records : Start → List (Span ℕ)
records s = records_in s.args.records.now

all_few : (s : Start) → length (records s) ≤ 128
unfolding most_records records_in
all_few s =
    let r = s.args.records.now in
    omega (arith, s.requires.few, length-list_from 0 r.count (span_in r.groups r.firsts r.lasts r.loads))

-- the segments made so far
abbrev so_far : At-loop-group → List (Span ℕ)
so_far c = segments_in c.loop-group.made

in_groups : (c : In-loop-group) → c.loop-group.group < group_count
unfolding group_count
in_groups c = omega arith

at_end : (c : After-loop-group) → group_count ≤ c.loop-group.group
unfolding group_count
at_end c = c.loop-group-test.false

-- the frames of this group, from its own records
abbrev frames : After-select → List (Span ℕ)
frames c =
    frames_from
    (own_value (kind_number c.args.kind) (owns_in c.select.new.self))
    c.loop-group.group 0 frame_count []

-- those of the groups left
abbrev left : At-loop-group → List (Span ℕ)
left c =
    groups_from (value (kind_number c.args.kind) 1 (records (goal.at.At-loop-group c).Start)) frame_count (suc c.loop-group.group) (group_count - suc c.loop-group.group)

parts : (c : After-select)
    → joined (so_far (goal.at.After-select c).At-loop-group ++ frames c ++ left (goal.at.After-select c).At-loop-group)
    ≡ segments (kind_number c.args.kind) 1 (records (goal.at.After-select c).Start)
parts c =
    let kind = kind_number c.args.kind in
    let g = c.loop-group.group in
    let of-group : frames c ≡ frames_from (value kind 1 (records (goal.at.After-select c).Start)) g 0 frame_count [] =
    ap (λ (own : List Own). frames_from (own_value kind own) g 0 frame_count []) c.select.ensures
    ∙ sym (frames_own kind (records (goal.at.After-select c).Start) g (in_groups (goal.at.After-select c).In-loop-group) 0 frame_count (omega arith)) in
    ap joined (append_assoc (so_far (goal.at.After-select c).At-loop-group) (frames c) (left (goal.at.After-select c).At-loop-group))
    ∙ ap (λ (r : List (Span ℕ)). joined (so_far (goal.at.After-select c).At-loop-group ++ (r ++ left (goal.at.After-select c).At-loop-group))) of-group
    ∙ ap (λ (r : List (Span ℕ)). joined (so_far (goal.at.After-select c).At-loop-group ++ r))
    (sym (groups_left (value kind 1 (records (goal.at.After-select c).Start)) frame_count g group_count (in_groups (goal.at.After-select c).In-loop-group)))
    ∙ c.loop-group.invariant.1

-- the segments made with this group
abbrev made : After-find_group → Segments
made c = c.find_group.new.made

pub loop-group-init : goal.loop-group-init
unfolding joined
loop-group-init c =
    let all : group_count - 0 ≡ group_count = omega arith in
    let none_made = c.requires.none_made in (
      made_by _ [] none_made,
      rw all (made_behind _ [] none_made _ ∙ segments_joined (kind_number c.args.kind) (records (goal.at.loop-group-init c).Start)),
    )

pub select-requires : goal.select-requires
unfolding most_records
select-requires c = c.requires.few

pub find_group-requires : goal.find_group-requires
unfolding most_records
find_group-requires c =
    let few : length (records (goal.at.find_group-requires c).Start) ≤ 128 = all_few (goal.at.find_group-requires c).Start in record {
      is_made = c.loop-group.invariant.0;
      has_places = omega (
        arith,
        enough_places (kind_number c.args.kind) (records (goal.at.find_group-requires c).Start) few,
        ap (λ (l : List (Span ℕ)). length l) (parts (goal.at.find_group-requires c).After-select),
        joined_le (so_far (goal.at.find_group-requires c).At-loop-group ++ frames (goal.at.find_group-requires c).After-select) (left (goal.at.find_group-requires c).At-loop-group),
      );
    }

pub loop-group-preserved : goal.loop-group-preserved
loop-group-preserved c =
    let h = (goal.at.loop-group-preserved c).At-loop-group in
    let l = so_far h ++ frames (goal.at.loop-group-preserved c).After-select in
    rw (add-one c.loop-group.group) (
      made_by (made c) l c.find_group.ensures,
      made_behind (made c) l c.find_group.ensures (left h) ∙ parts (goal.at.loop-group-preserved c).After-select,
    )

pub returns : goal.returns
returns c =
    c.loop-group.invariant.0
    ∙ ap segment_arrays
    (ap joined (sym (append-nil (so_far (goal.at.returns c).At-loop-group)))
    ∙ ap (λ (r : List (Span ℕ)). joined (so_far (goal.at.returns c).At-loop-group ++ r))
    (sym (groups_past (value (kind_number c.args.kind) 1 (records (goal.at.returns c).Start)) frame_count c.loop-group.group group_count (at_end c)))
    ∙ c.loop-group.invariant.1)
