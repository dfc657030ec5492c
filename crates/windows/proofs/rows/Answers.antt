-- `windows::rows` meets its contract: a turn of the inner loop gives the first of the rows that are left, or passes over windows that
-- have none. Assumes nothing.
use Prim.Native.Nat.{ℕ, ◌≤◌, ◌<◌}
use mathlib.Core.List.{List}
use mathlib.Core.Path.{◌≡◌, sym, ap, subst, ◌∙◌}
use native.Mathlib.Numerals.{add-one}
use native.Mathlib.Omega.{arith}
use lib.ListN.{length}
use Rattle.model.specs.Common.{list_from}
use Rattle.model.specs.Spans.{Span, group_count}
use Rattle.model.specs.Calls.{kind_number, row_of_span}
use Rattle.model.specs.Windows.{Window, window_count, window_at, windows, span_rows}
use Rattle.model.specs.Arrays.{records_in}
use Rattle.model.specs.declared.Row.{Row}
use Rattle.model.specs.declared.RuledQuery.{RuledQuery}
use Rattle.tally.specs.Tally.{Survey, only_of, loads_at, stop_at}
use Rattle.tally.proofs.Stops.{stop_from}
use Rattle.windows.specs.Listed.{Skips}
use Rattle.windows.proofs.Rules.{no_windows, forward}
use Rattle.windows.proofs.Listings.{Made, made_none, made_next, made_all, made_past}
use Rattle.windows.proofs.Meeting.{all_groups, no_groups, group_starts, group_ends, skip_on, row_left, some_left}
use Rattle.windows.proofs.rows.Goals as goal
use Rattle.windows.proofs.rows.Goals.{Start, After-survey-here}

-- the kind's number and the records
abbrev kind : Start → ℕ
kind c = kind_number c.args.kind

abbrev records : Start → List (Span ℕ)
records c = records_in c.args.records.now

-- rows by as many windows as the query has
whole : (kind : ℕ) (rs : List (Span ℕ)) (q : RuledQuery) {n : ℕ} → n ≡ window_count q.rule
    → span_rows kind rs (list_from 0 n (window_at q)) ≡ span_rows kind rs (windows q)
unfolding windows
whole kind rs q counts = rw counts

-- the same rows are left
same_left : {rows : List Row} {made : ℕ} {all a b : List (Span ℕ)} → a ≡ b → Made rows made a all → Made rows made b all
same_left {rows} {made} {all} e m = subst (λ (left : List (Span ℕ)). Made rows made left all) e m

in_groups : {g : ℕ} → g < 8 → g < group_count
unfolding group_count
in_groups lt = lt

at_end : {g : ℕ} → 8 ≤ g → group_count ≤ g
unfolding group_count
at_end le = le

pub returns-then-is_some : goal.returns-then-is_some
returns-then-is_some c =
    let q = c.args.query in
    rw (c.no_rows-rows.ensures, no_windows q c.bound_in.result c.bound_in.ensures (sym c.is_some.ensures ∙ c.if-is_some.true) (kind (goal.at.returns-then-is_some c).Start) (records (goal.at.returns-then-is_some c).Start))
    (made_all _ 0 _ (made_none _))

pub loop-group-init : goal.loop-group-init
loop-group-init c =
    let s = (goal.at.loop-group-init c).Start in
    rw (c.no_rows-rows.ensures, all_groups (kind s) (records s) (window_at c.args.query) c.count_windows-n.result) (made_none _)

pub loop-i-init : goal.loop-i-init
loop-i-init c =
    let s = (goal.at.loop-i-init c).Start in (
      omega arith,
      same_left
          (group_starts (kind s) (records s) (window_at c.args.query) c.count_windows-n.result c.loop-group.group (in_groups c.loop-group-test.true))
          c.loop-group.invariant,
    )

-- what is found of the window, over the records of the group
survey : (c : After-survey-here)
    → Survey c.window-frames.result.first c.window-frames.result.last (only_of c.loop-group.group (records_in c.args.records.now)) c.survey-here.result
survey c = rw c.select.ensures at c.survey-here.ensures

-- the last fact: the last frame before the next event is no earlier than the window's first
pub next-i-requires : goal.next-i-requires
next-i-requires c =
    let v = survey (goal.at.next-i-requires c).After-survey-here in
    let w = c.window-frames.ensures in
    let own = only_of c.loop-group.group (records (goal.at.next-i-requires c).Start) in (
      c.requires.known,
      c.loop-i-test.true,
      c.count_windows-n.ensures,
      omega (
        arith,
        v.stops,
        stop_from c.window-frames.result.first own (omega (arith, c.window-frames.type_inv)),
        ap (λ (x : Window). x.first) w,
      ),
    )

pub loop-i-preserved-then-here-eq0 : goal.loop-i-preserved-then-here-eq0
loop-i-preserved-then-here-eq0 c =
    let q = c.args.query in
    let k = kind (goal.at.loop-i-preserved-then-here-eq0 c).Start in
    let rs = records (goal.at.loop-i-preserved-then-here-eq0 c).Start in
    let v = survey (goal.at.loop-i-preserved-then-here-eq0 c).After-survey-here in
    let w = c.window-frames.ensures in
    let g = c.loop-group.group in
    let l = c.loop-i in
    let own = only_of g rs in
    let unmet : length (loads_at (window_at q l.i).first (window_at q l.i).last own) ≡ 0 =
    rw (sym w) (sym v.counts ∙ c.if-here-eq0.true) in
    let stop : c.survey-here.result.stop ≡ stop_at (window_at q l.i).first own =
    v.stops ∙ ap (λ (x : Window). stop_at x.first own) w in
    let skips = subst (λ (x : ℕ). Skips (window_at q) x l.i c.count_windows-n.result c.next-i.result) stop c.next-i.ensures in
    let in_windows : l.i < window_count q.rule = omega (arith, c.loop-i-test.true, c.count_windows-n.ensures) in (
      skips.within,
      same_left
          (skip_on k rs (window_at q) c.count_windows-n.result g l.i c.next-i.result
          (forward q c.requires.known l.i in_windows) unmet skips)
          l.invariant.1,
    )

pub returns-then-made-ge-MOST_ROWS : goal.returns-then-made-ge-MOST_ROWS
returns-then-made-ge-MOST_ROWS c =
    let q = c.args.query in
    let k = kind (goal.at.returns-then-made-ge-MOST_ROWS c).Start in
    let rs = records (goal.at.returns-then-made-ge-MOST_ROWS c).Start in
    let v = survey (goal.at.returns-then-made-ge-MOST_ROWS c).After-survey-here in
    let w = c.window-frames.ensures in
    let l = c.loop-i in
    let (r, more) = some_left k rs (window_at q) c.count_windows-n.result c.loop-group.group l.i c.loop-i-test.true _ _ w
    (λ none_met. c.if-here-eq0.false (v.counts ∙ none_met)) in
    rw (whole k rs q c.count_windows-n.ensures) at (made_past l.rows l.made _ r _ (same_left more l.invariant.1) c.if-made-ge-MOST_ROWS.true)

pub loop-i-preserved : goal.loop-i-preserved
unfolding row_of_span
loop-i-preserved c =
    let q = c.args.query in
    let k = kind (goal.at.loop-i-preserved c).Start in
    let rs = records (goal.at.loop-i-preserved c).Start in
    let w = c.window-frames.ensures in
    let l = c.loop-i in
    let f = c.window-frames.result in
    let found = rw c.select.ensures at c.value_at.ensures in
    rw (add-one l.i, add-one l.made) (
      omega (arith, c.loop-i-test.true),
      made_next l.rows l.made _ _ _
          (same_left
          (row_left k rs (window_at q) c.count_windows-n.result c.loop-group.group l.i c.loop-i-test.true
          f.first f.last w c.value_at.result found)
          l.invariant.1)
          c.if-made-ge-MOST_ROWS.false,
    )

pub loop-group-preserved : goal.loop-group-preserved
loop-group-preserved c =
    let q = c.args.query in
    let k = kind (goal.at.loop-group-preserved c).Start in
    let rs = records (goal.at.loop-group-preserved c).Start in
    let g = c.loop-group.group in
    let l = c.loop-i in
    rw (add-one g) (same_left (group_ends k rs (window_at q) c.count_windows-n.result g l.i c.loop-i-test.false) l.invariant.1)

pub returns : goal.returns
returns c =
    let q = c.args.query in
    let k = kind (goal.at.returns c).Start in
    let rs = records (goal.at.returns c).Start in
    let l = c.loop-group in
    rw (whole k rs q c.count_windows-n.ensures) at
    (made_all l.rows l.made _
    (same_left
    (no_groups k rs (window_at q) c.count_windows-n.result l.group (at_end c.loop-group-test.false))
    l.invariant))
