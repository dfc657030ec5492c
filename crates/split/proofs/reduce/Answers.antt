-- `reduce` meets its contract. Assumes nothing.
use Prim.Native.Nat.{ℕ}
use mathlib.Core.List.{List}
use mathlib.Core.Path.{◌≡◌, ◌∙◌, sym, ap}
use Rattle.model.specs.Arrays.{segments_in}
use Rattle.model.specs.Calls.{kind_number}
use Rattle.model.specs.Spans.{Span}
use Rattle.model.specs.Split.{error_of, gap_below, runs}
use Rattle.choice.specs.Bounds.{covers_runs}
use Rattle.split.specs.Ready.{Counted}
use Rattle.split.proofs.Measuring.{few_segments, no_runs, no_segments_lem, too_few_lem, reduces}
use Rattle.split.proofs.reduce.Goals as goal
use Rattle.split.proofs.reduce.Goals.{After-runs-runs, In_ok-task, Start}

abbrev segs : Start → List (Span ℕ)
segs s = segments_in s.args.segments.now

abbrev err : Start → ℕ → ℕ → ℕ
err s = error_of (kind_number s.args.kind) (segs s)

runs_is : (c : After-runs-runs) → c.runs-runs.result ≡ runs (segments_in c.args.segments.now)
unfolding segments_in
runs_is c = c.runs-runs.ensures c.args.segments.now.values

pub returns-then-segments-eq0 : goal.returns-then-segments-eq0
returns-then-segments-eq0 c =
    let s = (goal.at.returns-then-segments-eq0 c).Start in
    reduces
    (no_segments_lem (err s) (gap_below (segs s)) _ _ c.args.bound c.args.cuts.now c.if-segments-eq0.true
    (no_runs c.args.segments.now c.if-segments-eq0.true))

pub runs-runs-requires : goal.runs-runs-requires
runs-runs-requires c = few_segments c.args.segments.now c.requires.0

pub returns-in_err-task : goal.returns-in_err-task
returns-in_err-task c =
    let s = (goal.at.returns-in_err-task c).Start in
    let few = ap (covers_runs c.args.bound) (sym (runs_is (goal.at.returns-in_err-task c).After-runs-runs)) ∙ c.in_err-task.ensures in
    let (none_here, cuts_stay) = too_few_lem (err s) (gap_below (segs s)) c.args.segments.now.count (runs (segs s)) c.args.bound c.args.cuts.now few in
    reduces (c.from_residual.ensures ∙ none_here, cuts_stay)

-- the task is that of the segments
counted : (c : In_ok-task) → Counted c.args.segments.now c.in_ok-task.task
counted c =
    let (all, of_runs, of_bound) = c.in_ok-task.ensures in
    record { measured = c.requires.0; all = all; is_runs = of_runs ∙ runs_is (goal.at.In_ok-task c).After-runs-runs }

pub reduce_run-requires : goal.reduce_run-requires
reduce_run-requires c =
    (counted (goal.at.reduce_run-requires c).In_ok-task, c.in_ok-task.ensures.1 ∙ c.if-runs-eq1.true)

pub tabulate-requires : goal.tabulate-requires
tabulate-requires c = counted (goal.at.tabulate-requires c).In_ok-task
