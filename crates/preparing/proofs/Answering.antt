-- A query's questions, asked in parts: what it answers and what its slot holds where a part is refused, and where the last question
-- decides. This is said once of any questions; a query by a bound, whose last is answered by a reduction of the log's segments, and one
-- by windows, whose last is answered by the number of its rows, are its two cases. Assumes nothing.
use Prim.Native.Nat.{ℕ, ◌<◌}
use mathlib.Core.Bool.{true}
use mathlib.Core.List.{List, [], ◌∷◌, ◌++◌}
use mathlib.Core.Option.{Option, none, some}
use mathlib.Core.Path.{◌≡◌, refl, sym, ap, ◌∙◌}
use Rattle.std.specs.Prelude.{Result, Ok, Err}
use native.Mathlib.Nat.{zero-add}
use borrow.Author.Tests.{leb-true, le-leb, lt-leb}
use lib.Dec.{leb}
use lib.ListN.{length}
use Rattle.model.specs.Common.{is_some}
use Rattle.model.specs.Spans.{Span, nowhere}
use Rattle.model.specs.Split.{Reduced, most_rows, count_for, reduced}
use Rattle.model.specs.Windows.{bound_in}
use Rattle.model.specs.Slot.{by_bound, by_windows}
use Rattle.model.specs.Questions.{Question, refused, ask, bound_known, outcome, enough_rows, order_questions, query_questions, ask_width, width_questions}
use Rattle.model.specs.Questions.{window_rows, rule_question, rows_question, ruled_order, ruled_questions}
use Rattle.model.specs.Calls.{number, answer_case, counts_in, log_segments, answer_of, counts_of, ruled_answer, ruled_mark, row_span, row_of_span, query_segments}
use Rattle.model.specs.Arrays.{rows_in, row_array}
use Rattle.model.specs.Demands.{AllPass}
use Rattle.model.specs.declared.Bound.{Bound}
use Rattle.model.specs.declared.Bound.TheVariants.{Rows, Share}
use Rattle.model.specs.declared.Query.{Query}
use Rattle.model.specs.declared.RuledQuery.{RuledQuery}
use Rattle.model.specs.declared.Refusal.{Refusal}
use Rattle.model.specs.declared.Question as code
use Rattle.model.specs.declared.Question.TheVariants as question
use Rattle.theory.proofs.Tests.{none≢some, some_inj, cases}
use Rattle.theory.proofs.Refusals.{all_tail, outcome_behind, refused_first}
use Rattle.theory.proofs.SlotLaws.{list_from-of}
use Rattle.load_log.proofs.Columns.{map_at}
use Rattle.choice.specs.Bounds.{Known}
use Rattle.windows.specs.Listed.{Holds}
use Rattle.windows.specs.declared.Listing.{Listing}
use Rattle.preparing.specs.declared.Prepared.{Prepared}
use Rattle.preparing.specs.Prepared.{early_questions, ahead_of_rows, with_rows, laid_out, listed, Prepares}

-- ---- the segments of a log in order

-- a bound that passes question 3 is within the paper's range
pub known_bound : (bound : Bound) → bound_known bound ≡ true → Known bound
unfolding bound_known Known most_rows
known_bound (Rows c) h = leb-true c 64 h
known_bound (Share p) h = leb-true p 1000 h

-- ---- an array of rows

-- the array holds the rows that it was made of
pub rows_held : (rows : List (Span ℕ)) → rows_in (row_array rows) (length rows) ≡ rows
unfolding rows_in row_array row_span row_of_span
rows_held rows =
    list_from-of nowhere 0 _ rows
    (λ i lt. rw (zero-add i) (ap row_span (map_at row_of_span rows _ i nowhere (row_of_span nowhere) lt)))

-- ---- what answers, and whether there is an answer

-- a reduction answers a bound exactly where a number of rows does
reduced_some : (kind : ℕ) (bound : Bound) (segs : List (Span ℕ)) → is_some (count_for kind bound segs) ≡ is_some (reduced kind bound segs)
unfolding reduced is_some
reduced_some kind bound segs = by (count_for kind bound segs) refl
  where
    by : (o : Option ℕ) → count_for kind bound segs ≡ o → is_some (count_for kind bound segs) ≡ is_some (reduced kind bound segs)
    by none e = rw (e, reduced)
    by (some k) e = rw (e, reduced)

-- rows by windows answer where they are at most 64
listed_some : (rows : List (Span ℕ)) → leb (length rows) most_rows ≡ is_some (listed rows)
unfolding listed is_some
listed_some rows = cases (leb (length rows) most_rows) (λ t. rw t) (λ t. rw t)

listed_is : (rows : List (Span ℕ)) (d : Reduced) → listed rows ≡ some d → record { rows = rows; error = 0; weighed = 0 } ≡ d
unfolding listed
listed_is rows d e =
    cases (leb (length rows) most_rows) (λ t. some_inj refl (rw t at e)) (λ t. absurd (none≢some refl (rw t at e)))

-- of rows by windows, more than 64 are refused, and others laid out
pub listed_none : (rows : List (Span ℕ)) → 64 < length rows → listed rows ≡ none
unfolding listed most_rows
listed_none rows more = rw (lt-leb (length rows) 64 more)

pub listed_rows : (l : Listing) (rows : List (Span ℕ)) → Holds l rows → (kind : ℕ)
    → Ok (with_rows by_windows kind (record { rows = l.count; error = 0; weighed = 0 }) (rows_in l.rows l.count))
    ≡ laid_out by_windows question.WindowRows kind (listed rows)
unfolding listed most_rows with_rows laid_out
listed_rows l rows is kind = rw (is.holds, is.counts, le-leb (length rows) 64 is.few)

-- ---- the questions in parts

-- those ahead of the last, and the last
module _ (ahead : List Question) (last : Question) (mark kind : ℕ) (given : Reduced) where
  abbrev all : List Question
  all = ahead ++ (last ∷ [])

  -- a query refused by one ahead
  pub refused_early : {A : Type 0} (a : A) (refusal : Refusal) → outcome ahead a ≡ refused (number refusal.question) refusal.index
      → Prepares all mark kind given (Err refusal)
  unfolding answer_case
  refused_early a refusal e =
      (sym (refused_first ahead (last ∷ []) a (counts_of given) (number refusal.question) refusal.index e), tt)

  -- where those are passed, the last decides: an answer where there is one, laid out, is the query's
  pub decided : AllPass ahead → (asked : code.Question) (o : Option Reduced) → last ≡ ask (number asked) 0 (is_some o)
      → ((d : Reduced) → o ≡ some d → given ≡ d) → (p : Result Prepared Refusal) → p ≡ laid_out mark asked kind o → Prepares all mark kind given p
  unfolding outcome ask laid_out answer_case counts_in counts_of is_some
  decided passed asked none decides is p e =
      rw e (sym (outcome_behind ahead (last ∷ []) _ passed ∙ rw decides), tt)
  decided passed asked (some d) decides is p e =
      rw (e, ← is d refl) (sym (outcome_behind ahead (last ∷ []) _ passed ∙ rw decides), refl)

-- by a bound 3 and 25 are asked ahead, and 10 last
module _ (q : Query) (log : List ℕ) (room : ℕ) where
  abbrev pub ahead_of10 : List Question
  ahead_of10 = ahead_of_rows q.kind (ask 3 0 (bound_known q.bound) ∷ ask_width q.width ∷ []) log room

  pub refused_bound : {A : Type 0} (a : A) (refusal : Refusal) → outcome ahead_of10 a ≡ refused (number refusal.question) refusal.index
      → Prepares (query_questions q log room) by_bound q.kind (answer_of q log) (Err refusal)
  unfolding query_questions order_questions ahead_of_rows early_questions
  refused_bound a = refused_early ahead_of10 (ask 10 0 (enough_rows q log)) by_bound q.kind (answer_of q log) a

  module _ (passed_bound : AllPass ahead_of10) where
    -- where those ahead are passed, the query and the log are in order
    pub bound_in_order : AllPass (order_questions q log)
    unfolding order_questions ahead_of_rows early_questions
    bound_in_order = all_tail _ _ passed_bound

    pub bound_laid_out : (p : Result Prepared Refusal) → p ≡ laid_out by_bound question.EnoughRows q.kind (reduced q.kind q.bound (query_segments q log))
        → Prepares (query_questions q log room) by_bound q.kind (answer_of q log) p
    unfolding query_questions order_questions ahead_of_rows early_questions enough_rows log_segments answer_of number
    bound_laid_out =
        decided ahead_of10 (ask 10 0 (enough_rows q log)) by_bound q.kind (answer_of q log) passed_bound question.EnoughRows
        (reduced q.kind q.bound (query_segments q log))
        (ap (ask 10 0) (reduced_some q.kind q.bound (query_segments q log)))
        (λ d is. rw is)

-- by windows 18 or 19, and 20
module _ (q : RuledQuery) (log : List ℕ) (room : ℕ) (windowed : bound_in q.rule ≡ none) where
  abbrev pub ahead_of20 : List Question
  ahead_of20 = ahead_of_rows q.kind (rule_question q ∷ []) log room

  -- windows read no width, so that these are all
  all_by_windows : ruled_questions q log room ≡ ahead_of20 ++ (rows_question q log ∷ [])
  unfolding ruled_questions ruled_order width_questions ahead_of_rows early_questions
  all_by_windows = rw (windowed, width_questions)

  pub refused_windows : {A : Type 0} (a : A) (refusal : Refusal) → outcome ahead_of20 a ≡ refused (number refusal.question) refusal.index
      → Prepares (ruled_questions q log room) (ruled_mark q) q.kind (ruled_answer q log) (Err refusal)
  refused_windows a refusal e =
      rw all_by_windows (refused_early ahead_of20 (rows_question q log) (ruled_mark q) q.kind (ruled_answer q log) a refusal e)

  module _ (passed_windows : AllPass ahead_of20) where
    pub windows_in_order : AllPass (ruled_order q log)
    unfolding ruled_order width_questions ahead_of_rows early_questions
    windows_in_order = rw (windowed, width_questions) (all_tail _ _ passed_windows)

    pub windows_laid_out : (p : Result Prepared Refusal) → p ≡ laid_out by_windows question.WindowRows q.kind (listed (window_rows q log))
        → Prepares (ruled_questions q log room) (ruled_mark q) q.kind (ruled_answer q log) p
    unfolding rows_question ruled_mark ruled_answer number
    windows_laid_out p e =
        rw all_by_windows
        (decided ahead_of20 (rows_question q log) (ruled_mark q) q.kind (ruled_answer q log) passed_windows question.WindowRows (listed (window_rows q log))
        (rw (windowed, rows_question) (ap (ask 20 0) (listed_some (window_rows q log))))
        (λ d is. rw (windowed, ruled_answer) (listed_is (window_rows q log) d is)) p
        (e ∙ rw (windowed, ruled_mark)))
