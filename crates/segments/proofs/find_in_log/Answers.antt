-- `segments::find_in_log` meets its contract: its questions, and then the segments. Assumes nothing.
use mathlib.Core.Path.{◌≡◌, sym, ap, ◌∙◌}
use Rattle.std.proofs.lemmas.Result.{err_from_is_err_and}
use Rattle.model.specs.Questions.{accepted, ask, ask_width, segments_questions}
use Rattle.model.specs.Calls.{answer_case, kind_number, segments_outcome}
use Rattle.model.specs.Arrays.{segment_arrays}
use Rattle.model.specs.Demands.{AllPass}
use Rattle.model.specs.declared.Segments.{Segments}
use Rattle.theory.proofs.Refusals.{all_head, all_tail, outcome_accepted, all_outcome, refused_same}
use Rattle.theory.proofs.Memory.{some_frame}
use Rattle.segments.proofs.find_in_log.Goals as goal
use Rattle.segments.proofs.find_in_log.Goals.{In_ok-known}

pub returns-in_err-known : goal.returns-in_err-known
unfolding answer_case segments_outcome
returns-in_err-known c =
    let p = err_from_is_err_and c.from_residual.result c.from_residual.ensures.1 in
    record {
      says = rw (p.1, p.2) (sym (refused_same _ _ _ _ _ (sym c.in_err-known.ensures)));
      holds = rw p.1 tt;
    }

-- every question is passed where the segments are looked for, and the kind is the one asked for
passed : (c : In_ok-known) → AllPass (segments_questions c.args.kind c.args.width c.args.log.now c.args.places) × (kind_number c.in_ok-known.known ≡ c.args.kind)
unfolding answer_case
passed c = outcome_accepted _ _ _ (sym c.in_ok-known.ensures)

pub of_log-requires : goal.of_log-requires
unfolding segments_questions ask_width ask
of_log-requires c =
    let behind = all_tail _ _ (all_tail _ _ (passed (goal.at.of_log-requires c).In_ok-known).0) in
    record {
      log_passes = all_tail _ _ behind;
      some_frames = some_frame _ (all_head _ _ behind);
      none_made = c.none-segments.ensures;
    }

pub returns : goal.returns
unfolding answer_case segments_outcome segment_arrays
returns c =
    let (all, same) = passed (goal.at.returns c).In_ok-known in
    let found = rw same at c.of_log.ensures in
    record {
      says = ap (λ (s : Segments). accepted s.count) found ∙ sym (all_outcome _ _ all);
      holds = found;
    }
