-- `reduce` meets its contract: from the log to its segments to their reduction to rows. Assumes nothing.
use Prim.Native.Nat.{ℕ, ◌≤◌}
use mathlib.Core.List.{List}
use mathlib.Core.Option.{some}
use mathlib.Core.Path.{◌≡◌, sym, ap, ◌∙◌, subst}
use native.Mathlib.Omega.{arith}
use Rattle.model.specs.Common.{list_from}
use Rattle.model.specs.Spans.{Span}
use Rattle.model.specs.Log.{records}
use Rattle.model.specs.Slot.{by_bound}
use Rattle.model.specs.Split.{most_rows, reduced, count_for}
use Rattle.model.specs.Questions.{ask, ask_width, log_questions, order_questions}
use Rattle.model.specs.Calls.{kind_number, log_segments, query_segments}
use Rattle.model.specs.Arrays.{segment_in, segments_in}
use Rattle.model.specs.Demands.{AllPass}
use Rattle.model.specs.Room.{Measured}
use Rattle.model.specs.declared.Question.TheVariants as question
use Rattle.model.specs.declared.Segments.{Segments}
use Rattle.theory.proofs.Answer.{count_le}
use Rattle.theory.proofs.Asking.{file_passed}
use Rattle.theory.proofs.Bounds.{logs_measured}
use Rattle.theory.proofs.Demands.{limit_le}
use Rattle.theory.proofs.Memory.{some_frame}
use Rattle.theory.proofs.Refusals.{all_head, all_tail}
use Rattle.load_log.proofs.Columns.{segments_held}
use Rattle.measures.proofs.Growing.{measurable}
use Rattle.preparing.specs.Prepared.{laid_out}
use Rattle.preparing.proofs.Answering.{known_bound}
use Rattle.preparing.proofs.Reducing.{Answers, answers, unanswered, laid_rows}
use Rattle.preparing.proofs.reduce.Goals as goal
use Rattle.preparing.proofs.reduce.Goals.{After-of_log, In-Some, Start}

-- the call's log, whose questions are passed
logged : (s : Start) → AllPass (log_questions s.args.log.now)
unfolding order_questions
logged s = all_tail _ _ (all_tail _ _ (all_tail _ _ s.requires.in_order))

-- the segments that were found
abbrev seg : After-of_log → Segments
seg c = c.of_log.new.segments

-- are the log's
found : (c : After-of_log) → list_from 0 (seg c).count (segment_in (seg c)) ≡ query_segments c.args.query c.args.log.now
unfolding segments_in
found c = ap segments_in c.of_log.ensures ∙ segments_held _ ∙ ap (λ (kind : ℕ). log_segments kind c.args.query.width c.args.log.now) c.requires.of_kind

measured : (c : After-of_log) → Measured (list_from 0 (seg c).count (segment_in (seg c)))
measured c =
    let q = c.args.query in
    rw (found c) (logs_measured q.kind q.width c.args.log.now (file_passed c.args.log.now (logged (goal.at.After-of_log c).Start)))

-- the reduction that was found, with its cuts
answer : (c : In-Some) → Answers (kind_number c.args.kind) (segment_in c.of_log.new.segments) c.of_log.new.segments.count c.args.query.bound c.in-Some.reduction c.reduce.new.cuts
unfolding segments_in
answer c = answers (kind_number c.args.kind) (segment_in c.of_log.new.segments) c.of_log.new.segments.count (measured (goal.at.In-Some c).After-of_log) c.reduce.ensures c.in-Some.reduction c.in-Some.is

-- has at most 64 rows
few : (c : In-Some) → c.in-Some.reduction.count ≤ 64
unfolding order_questions ask log_segments most_rows
few c =
    let q = c.args.query in
    let counted = rw c.requires.of_kind at (subst (λ (segs : List (Span ℕ)). count_for (kind_number c.args.kind) q.bound segs ≡ some c.in-Some.reduction.count) (found (goal.at.In-Some c).After-of_log) (answer c).counted) in
    let le = count_le q.kind q.width (records c.args.log.now) q.bound c.in-Some.reduction.count counted in
    let limit = limit_le q.bound (all_head _ _ (all_tail _ _ c.requires.in_order)) in
    omega arith

pub of_log-requires : goal.of_log-requires
unfolding order_questions ask_width ask
of_log-requires c =
    record {
      log_passes = logged (goal.at.of_log-requires c).Start;
      some_frames = some_frame _ (all_head _ _ (all_tail _ _ (all_tail _ _ c.requires.in_order)));
      none_made = c.none-segments.ensures;
    }

pub reduce-requires : goal.reduce-requires
unfolding order_questions ask segments_in
reduce-requires c =
    (measured (goal.at.reduce-requires c).After-of_log, known_bound c.args.query.bound (all_head _ _ (all_tail _ _ c.requires.in_order)))

pub returns-in_default : goal.returns-in_default
unfolding laid_out segments_in
returns-in_default c =
    let t = (goal.at.returns-in_default c).After-of_log in
    let none_here = unanswered (kind_number c.args.kind) (segment_in (seg t)) (seg t).count (measured t) c.reduce.ensures c.in_default.is in
    rw (c.no.ensures, ← found t, sym c.requires.of_kind, none_here)

pub between-rows-requires : goal.between-rows-requires
unfolding segments_in
between-rows-requires c =
    record {
      few_rows = few (goal.at.between-rows-requires c).In-Some;
      ordered = (answer (goal.at.between-rows-requires c).In-Some).order;
      measurable = measurable _ (measured (goal.at.between-rows-requires c).After-of_log);
    }

pub lay_out-requires : goal.lay_out-requires
lay_out-requires c = few (goal.at.lay_out-requires c).In-Some

pub returns : goal.returns
returns c =
    let q = c.args.query in
    let t = (goal.at.returns c).After-of_log in
    rw c.lay_out.ensures
    (laid_rows (kind_number c.args.kind) (segment_in (seg t)) (seg t).count (answer (goal.at.returns c).In-Some) _ c.between-rows.ensures
    ∙ rw c.requires.of_kind (ap (λ (segs : List (Span ℕ)). laid_out by_bound question.EnoughRows q.kind (reduced q.kind q.bound segs)) (found t)))
