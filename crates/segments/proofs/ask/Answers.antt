-- `segments::ask` meets its contract: places, kind, width, and then the log's own questions. Assumes nothing.
use mathlib.Core.Bool.{true}
use mathlib.Core.List.{[], ◌∷◌}
use mathlib.Core.Path.{◌≡◌, sym, ap, ◌∙◌}
use native.Mathlib.Omega.{arith}
use borrow.Author.Tests.{le-leb, lt-leb}
use Rattle.std.proofs.lemmas.Result.{err_from_is_err_and}
use Rattle.model.specs.Questions.{accepted, outcome, ask, ask_room, ask_width, kind_known, most_segments, log_questions, segments_questions}
use Rattle.model.specs.Calls.{number, answer_case}
use Rattle.theory.proofs.Refusals.{all_head, outcome_accepted, refused_first, refused_same, all_outcome}
use Rattle.segments.proofs.ask.Goals as goal
use Rattle.segments.proofs.ask.Goals.{In_ok-known}

pub returns-then-places-lt-MOST_SEGMENTS : goal.returns-then-places-lt-MOST_SEGMENTS
unfolding answer_case number outcome segments_questions ask_room ask most_segments
returns-then-places-lt-MOST_SEGMENTS c = rw c.no.ensures (simp (lt-leb 255 c.args.places (omega arith)))

pub returns-in_err-known : goal.returns-in_err-known
unfolding answer_case outcome segments_questions ask_room ask most_segments
returns-in_err-known c =
    let a = c.args in
    let p = err_from_is_err_and c.from_residual.result c.from_residual.ensures.1 in
    let e = refused_first (ask 2 0 (kind_known a.kind) ∷ []) (ask_width a.width ∷ log_questions a.log.now) _ a.kind _ _ (sym c.in_err-known.ensures) in
    rw (p.1, p.2, le-leb 255 a.places (omega arith)) (sym e)

-- a kind is known
known : (c : In_ok-known) → kind_known c.args.kind ≡ true
unfolding answer_case ask
known c = all_head _ _ (outcome_accepted (ask 2 0 (kind_known c.args.kind) ∷ []) _ _ (sym c.in_ok-known.ensures)).0

pub returns-then-not-is_width : goal.returns-then-not-is_width
unfolding answer_case number outcome segments_questions ask_room ask_width ask most_segments
returns-then-not-is_width c =
    let t = (goal.at.returns-then-not-is_width c).In_ok-known in
    rw (c.no-then-not-is_width.ensures, le-leb 255 c.args.places (omega arith), known t, sym c.is_width.ensures ∙ c.if-not-is_width.true)

pub returns-in_err-ask : goal.returns-in_err-ask
unfolding answer_case outcome segments_questions ask_room ask_width ask most_segments
returns-in_err-ask c =
    let p = err_from_is_err_and c.from_residual-in_err-ask.result c.from_residual-in_err-ask.ensures.1 in
    let t = (goal.at.returns-in_err-ask c).In_ok-known in
    rw (p.1, p.2, le-leb 255 c.args.places (omega arith), known t, sym c.is_width.ensures ∙ c.if-not-is_width.false)
    (sym (refused_same (log_questions c.args.log.now) _ c.args.kind _ _ (sym c.in_err-ask.ensures)))

pub returns : goal.returns
unfolding answer_case outcome segments_questions ask_room ask_width ask most_segments
returns c =
    let t = (goal.at.returns c).In_ok-known in
    let same = (outcome_accepted (ask 2 0 (kind_known c.args.kind) ∷ []) _ _ (sym c.in_ok-known.ensures)).1 in
    let logged = (outcome_accepted (log_questions c.args.log.now) (tt {0}) (tt {0}) (sym c.in_ok-ask.ensures)).0 in
    rw (le-leb 255 c.args.places (omega arith), known t, sym c.is_width.ensures ∙ c.if-not-is_width.false)
    (ap accepted same ∙ sym (all_outcome (log_questions c.args.log.now) c.args.kind logged))
