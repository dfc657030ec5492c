-- `list` meets its contract: from records to rows by windows. Assumes nothing.
use mathlib.Core.List.{List}
use mathlib.Core.Path.{◌≡◌, ap, ◌∙◌, subst}
use Prim.Native.Nat.{ℕ, ◌<◌}
use lib.ListN.{length}
use Rattle.model.specs.Spans.{Span}
use Rattle.model.specs.Log.{records}
use Rattle.model.specs.Windows.{windows, span_rows}
use Rattle.model.specs.Questions.{most_records, log_questions, window_rows, ruled_order, width_questions}
use Rattle.model.specs.Calls.{kind_number}
use Rattle.model.specs.Arrays.{records_in}
use Rattle.model.specs.Demands.{AllPass}
use Rattle.theory.proofs.Refusals.{all_head, all_tail, all_right}
use Rattle.load_log.proofs.Asking.{few_records, decoded_count}
use Rattle.load_log.proofs.Columns.{records_held}
use Rattle.windows.specs.Listed.{Holds}
use Rattle.preparing.specs.Prepared.{laid_out}
use Rattle.preparing.proofs.Answering.{listed_none, listed_rows}
use Rattle.preparing.proofs.list.Goals as goal
use Rattle.preparing.proofs.list.Goals.{After-decode-records}

-- the log's questions are passed
logged : (c : After-decode-records) → AllPass (log_questions c.args.log.now)
unfolding ruled_order
logged c = all_right (width_questions c.args.query) _ (all_tail _ _ (all_tail _ _ c.requires.in_order))

-- the rows are those of the log's records
rows_are : (c : After-decode-records)
    → span_rows (kind_number c.args.kind) (records_in c.decode-records.result) (windows c.args.query) ≡ window_rows c.args.query c.args.log.now
unfolding window_rows
rows_are c =
    let q = c.args.query in
    rw c.requires.of_kind
    (ap (λ (rs : List (Span ℕ)). span_rows q.kind rs (windows q)) (ap records_in c.decode-records.ensures ∙ records_held (records c.args.log.now)))

pub decode-records-requires : goal.decode-records-requires
unfolding ruled_order
decode-records-requires c = few_records c.args.log.now (all_right (width_questions c.args.query) _ (all_tail _ _ (all_tail _ _ c.requires.in_order)))

pub rows-requires : goal.rows-requires
unfolding ruled_order most_records
rows-requires c =
    record {
      has_places = rw (c.decode-records.ensures, decoded_count c.args.log.now) (few_records c.args.log.now (logged (goal.at.rows-requires c).After-decode-records));
      known = all_head _ _ (all_tail _ _ c.requires.in_order);
    }

pub returns-in_default : goal.returns-in_default
unfolding laid_out
returns-in_default c =
    rw (c.no.ensures, listed_none _ (subst (λ (rows : List (Span ℕ)). 64 < length rows) (rows_are (goal.at.returns-in_default c).After-decode-records) c.in_default.ensures))

pub returns : goal.returns
returns c =
    rw (c.lay_out.ensures, c.requires.of_kind)
    (listed_rows _ _ (subst (Holds c.in-Some.listing) (rows_are (goal.at.returns c).After-decode-records) c.in-Some.ensures) _)
