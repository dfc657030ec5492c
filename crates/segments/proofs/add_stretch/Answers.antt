-- `segments::add_stretch` meets its contract: nothing is added where no record holds frame a, and else one span. Assumes nothing.
use Prim.Native.Nat.{ℕ, suc, ◌-◌, ◌≤◌}
use mathlib.Core.List.{List, [], ◌∷◌, ◌++◌, append-nil}
use mathlib.Core.Path.{◌≡◌, sym, ap, subst, ◌∙◌}
use native.Mathlib.Omega.{arith}
use lib.ListN.{length}
use Rattle.model.specs.Spans.{Span}
use Rattle.model.specs.Segments.{frames_from}
use Rattle.model.specs.Arrays.{segments_in, segment_arrays}
use Rattle.model.specs.declared.Segments.{Segments}
use Rattle.tally.specs.Tally.{owns_in, loads_at, own_value}
use Rattle.model.specs.Calls.{segment_span, kind_number}
use Rattle.segments.specs.Steps.{joined}
use Rattle.tally.specs.declared.Own.{Own}
use Rattle.segments.proofs.Stretches.{stretch_none, stretch_one}
use Rattle.segments.proofs.add_stretch.Goals as goal
use Rattle.segments.proofs.add_stretch.Goals.{After-value_at, Start}

-- the group's records, the segments made before, and the frames to add
abbrev own : Start → List Own
own s = owns_in s.args.own.now

abbrev made : Start → Segments
made s = s.args.made.now

abbrev frames : Start → List (Span ℕ)
frames s = frames_from (own_value (kind_number s.args.kind) (own s)) s.args.group s.args.a (suc s.args.here.stop - s.args.a) []

-- the frames are one span, with the value found
one_span : (c : After-value_at)
    → joined (segments_in (made (goal.at.After-value_at c).Start) ++ frames (goal.at.After-value_at c).Start)
    ≡ joined (segments_in (made (goal.at.After-value_at c).Start)
    ++ (segment_span
    (record {
      group = c.args.group;
      first = c.args.a;
      last = c.args.here.stop;
      value = c.value_at.result;
    })
    ∷ []))
unfolding segment_span
one_span c =
    rw c.requires.surveyed.stops
    (stretch_one (kind_number c.args.kind) (own (goal.at.After-value_at c).Start) c.args.group c.args.a (omega arith) (segments_in (made (goal.at.After-value_at c).Start)) c.value_at.result
    c.value_at.ensures)

pub returns-then-here-eq0 : goal.returns-then-here-eq0
returns-then-here-eq0 c =
    rw (
      c.requires.surveyed.stops,
      stretch_none (kind_number c.args.kind) (own (goal.at.returns-then-here-eq0 c).Start) c.args.group c.args.a (omega arith) (sym c.requires.surveyed.counts ∙ c.if-here-eq0.true),
      append-nil,
    )
    c.requires.is_made

pub value_at-requires : goal.value_at-requires
value_at-requires c =
    record {
      surveyed = c.requires.surveyed;
      met = λ (none-held : length (loads_at c.args.a c.args.a (own (goal.at.value_at-requires c).Start)) ≡ 0). c.if-here-eq0.false (c.requires.surveyed.counts ∙ none-held);
    }

pub extend-requires : goal.extend-requires
extend-requires c =
    record {
      is_made = c.requires.is_made;
      has_places = subst (λ (l : List (Span ℕ)). length l ≤ 255) (one_span (goal.at.extend-requires c).After-value_at) c.requires.has_places;
    }

pub returns : goal.returns
returns c = c.extend.ensures ∙ ap segment_arrays (sym (one_span (goal.at.returns c).After-value_at))
