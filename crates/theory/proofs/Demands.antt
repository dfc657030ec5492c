-- The demands, proved. What each says stands in `specs/Demands.antt` of the crate `model`. Assumes nothing.
use Prim.Native.Nat.{ℕ, ◌≤◌}
use mathlib.Core.Bool.{true}
use mathlib.Core.List.{List, [], ◌∷◌, ◌++◌, map, Memᴰ}
use mathlib.Core.Logic.{inl, inr}
use mathlib.Core.Option.{Option, none, some}
use mathlib.Core.Path.{◌≡◌, refl, sym, ap, ◌∙◌, subst}
use native.Mathlib.Nat.{le_refl}
use native.Mathlib.Omega.{arith}
use lib.ListN.{length, drop, length-map}
use borrow.Author.Tests.{leb-true, le-leb}
use lib.Dec.{leb}
use Rattle.model.specs.Spans.{Span}
use Rattle.model.specs.Log.{records, greatest_kind, value}
use Rattle.model.specs.Segments.{segments}
use Rattle.model.specs.Blocks.{segment_at}
use Rattle.model.specs.Split.{most_rows, count_for, Reduced, error_of, gap_below}
use Rattle.model.specs.Reductions.{IsReduction, reduction_error}
use Rattle.model.specs.Windows.{bound_in}
use Rattle.model.specs.Slot.{slot_length, by_bound, by_windows, slot_bytes, slot_kind, slot_count}
use Rattle.model.specs.Questions.{query_by, with_bound, window_rows, rule_question, width_questions, ruled_order, ask_width}
use Rattle.model.specs.Questions.{Question, Outcome, accepted, ask, outcome, lent, kind_known, bound_known, most_value, ask_room, file_questions, order_questions, query_questions, enough_rows, slot_questions}
use Rattle.model.specs.Calls.{Counts, Header, log_segments, query_segments, answer_of, counts_of, query_outcome, query_slot, read_outcome, read_rows}
use Rattle.model.specs.Calls.{ruled_answer, ruled_mark, ruled_outcome, ruled_slot}
use Rattle.model.specs.Calls.{cuts_weighed, query_weighed, bound_of, letter_questions, letter_outcome, letter_slot, letter_weighed}
use Rattle.model.specs.LowerHalves.{lower_reduced_to, lower_answer}
use Rattle.model.specs.Guarantee.{Choices, BestRows}
use Rattle.model.specs.Fitting.{FitsFor, whole}
use Rattle.model.specs.Demands.{AllPass, Demand1, Demand2, Demand3, HalvesUp, CutBy, Cut, LowerCut, Reduces, Storable, Reads, lists_for, BestSlot, NeverShort}
use Rattle.model.specs.Demands.{SpanAggregation, SpanSlot, Shuffled, QueryPromise, RuledPromise, LetterPromise}
use Rattle.model.specs.Demands.{Bytes, Agrees, NoBetter, SlotAgainstLog, CheckPromise}
use Rattle.model.specs.Check.{check_outcome}
use Rattle.model.specs.declared.Bound.{Bound}
use Rattle.model.specs.declared.Bound.TheVariants.{Rows, Share}
use Rattle.model.specs.declared.Query.{Query}
use Rattle.model.specs.declared.RuledQuery.{RuledQuery}
use Rattle.theory.proofs.Refusals.{all_nil, all_cons, all_head, all_tail, all_right, all_append, all_outcome, all_lent, lent_same, outcome_accepted, accepted_query, too_few_lem}
use Rattle.theory.proofs.Refusals as refusals
use Rattle.theory.proofs.Asking.{file_passed}
use Rattle.theory.proofs.Tests.{cases, is_some_lem}
use Rattle.theory.proofs.RowValues.{row_le, row_between_lem, row_above, row_least}
use Rattle.theory.proofs.SlotLaws.{round_trip_lem, layout}
use Rattle.theory.proofs.Frames.{segmentation}
use Rattle.theory.proofs.Count.{segment_count}
use Rattle.theory.proofs.Conserved.{conserved}
use Rattle.theory.proofs.Merging.{merging}
use Rattle.theory.proofs.Bounds.{sound_records, mean, logs_measured, reduction_error_le, most_error_lem}
use Rattle.theory.proofs.Blocks.{rows_length}
use Rattle.theory.proofs.Stored.{InRange, rows_known_lem, rows_sorted}
use Rattle.theory.proofs.Halves.{at_half_of, same_elsewhere, same_error_lem, lower_in_range, same_errors, same_reduction, risen_rows, answers_are, same_outcome_lem}
use Rattle.theory.proofs.Guarantee.{limit_of}
use Rattle.theory.proofs.Answer.{cuts_to, answer_reduces, best_rows_lem, count_le, too_few_rows, only_least, never_short_lem}
use Rattle.theory.proofs.Check.{accepted_agrees, agrees_accepted, whatever_fits_lem, not_by_windows_lem, check_any_order}
use Rattle.theory.proofs.Empty.{nothing_fits, empty_log_lem}
use Rattle.theory.proofs.Windows.{aggregation, only, window_rows_known, window_rows_sorted, frame_by_frame_lem}
use Rattle.theory.proofs.Order.{query_any_order, ruled_any_order}
use Rattle.theory.proofs.Ruled.{bound_outcome, bound_slot, accepted_windows, too_many_lem, not_too_few_lem}

-- Demand 1
pub demand1 : Demand1
demand1 = refusals.demand1

-- ---- what an accepted query answers

-- the answer to a query that has enough rows: its number of rows and its cuts
record Answered (q : Query) (log : List ℕ) : Type 0 where
  rows : ℕ
  counted : count_for q.kind q.bound (query_segments q log) ≡ some rows
  cuts : List ℕ
  cut : Cut q.kind (query_segments q log) (answer_of q log) cuts
  lower_cut : LowerCut q.kind (query_segments q log) (lower_answer q log) cuts
  reduces : Reduces q.kind q.bound (query_segments q log) cuts
  count : length cuts ≡ rows

answered : (q : Query) (log : List ℕ) → enough_rows q log ≡ true → Answered q log
unfolding enough_rows log_segments counts_of
answered q log enough =
    let (k, h) = is_some_lem (count_for q.kind q.bound (segments q.kind q.width (records log))) enough in
    let segs : List (Span ℕ) = query_segments q log in
    let cuts : List ℕ = cuts_to q.kind segs k in
    let (cut, reduces, size) = answer_reduces q.kind segs q.bound k h in
    let (rows, counts) = same_reduction q.kind q.bound segs k in
    let lower : LowerCut q.kind segs (lower_reduced_to q.kind q.bound segs k) cuts =
    record {
      rows = rows;
      error = ap (λ (c : Counts). c.error) (sym counts) ∙ cut.error ∙ ap (λ err. reduction_error err (length segs) cuts) (same_errors q.kind segs);
    } in
    record {
      rows = k;
      counted = h;
      cuts = cuts;
      cut = subst (λ a. Cut q.kind segs a cuts) (sym (answers_are q log k h).0) cut;
      lower_cut = subst (λ a. LowerCut q.kind segs a cuts) (sym (answers_are q log k h).1) lower;
      reduces = reduces;
      count = size;
    }

-- it is best
answer_best : (q : Query) (log : List ℕ) → enough_rows q log ≡ true
    → BestRows (lists_for q.kind q.width log) q.bound (answer_of q log).error (map whole (answer_of q log).rows)
unfolding log_segments
answer_best q log enough =
    let a = answered q log enough in
    rw (a.cut.error, a.cut.rows) (best_rows_lem q.kind q.width (records log) q.bound a.cuts a.reduces)

is_reduction_lem : (kind : ℕ) (bound : Bound) (segs : List (Span ℕ)) (cuts : List ℕ) → Reduces kind bound segs cuts
    → IsReduction (gap_below segs) (length segs) cuts
is_reduction_lem kind (Rows c) segs cuts b = b.is_reduction
is_reduction_lem kind (Share p) segs cuts b = b.is_reduction

-- what is best fits
fitting : {A : Type 0} (choices : Choices A) (bound : Bound) (error : ℕ) (a : A) → BestRows choices bound error a → choices.fits a
fitting choices (Rows c) error a b = b.fits
fitting choices (Share p) error a b = b.fits

pub limit_le : (bound : Bound) → bound_known bound ≡ true → limit_of bound ≤ most_rows
unfolding bound_known
limit_le (Rows c) h = leb-true c most_rows h
limit_le (Share p) h = le_refl most_rows

-- ---- rows of kind 3

-- rows that are best never fall short
pub best_never_short : (q : Query) (log : List ℕ) (error : ℕ) (rows : List (Span ℕ))
    → BestRows (lists_for q.kind q.width log) q.bound error (map whole rows) → NeverShort q log rows
best_never_short q log error rows best is =
    never_short_lem (value q.kind q.width (records log)) rows
    (subst (λ kind. FitsFor kind (value q.kind q.width (records log)) (map whole rows)) is
    (fitting (lists_for q.kind q.width log) q.bound error (map whole rows) best))

slot_never_short : (q : Query) (log slot : List ℕ) → BestSlot q log slot → NeverShort q log (read_rows slot)
slot_never_short q log slot b = rw b.reads.body (best_never_short q log b.error b.rows b.best)

-- ---- what a slot can hold

-- the rows and error of a reduction of a log's segments, by any rule for row values that is in range and has the errors of a kind's
cut_storable : (rule kind width : ℕ) (log cuts : List ℕ) (a : Reduced) {value_of : List (Span ℕ) → ℕ} {err : ℕ → ℕ → ℕ} → InRange value_of
    → err ≡ error_of rule (log_segments kind width log) → kind_known kind ≡ true → AllPass (file_questions log)
    → CutBy value_of err (log_segments kind width log) a cuts
    → IsReduction (gap_below (log_segments kind width log)) (length (log_segments kind width log)) cuts → length cuts ≤ most_rows
    → Storable by_bound kind a.error a.rows
unfolding log_segments
cut_storable rule kind width log cuts a {value_of} in_range errs known logged cut is few-cuts =
    let segs : List (Span ℕ) = log_segments kind width log in
    let (few, small) = sound_records log logged in
    let loads : (r : Span ℕ) → Memᴰ r (records log) → r.value ≤ 1000 = λ r m. (small r m).2 in
    let size = rows_length value_of (segment_at segs) (length segs) cuts in
    record {
      made = inl refl;
      known = known;
      error64 =
          rw (cut.error, errs)
          (let le = reduction_error_le rule segs (logs_measured kind width log logged) (gap_below segs) (length segs) cuts (le_refl _) is in
          let most = most_error_lem.0 in
          omega arith);
      count = rw cut.rows (omega arith);
      rows_known = rw cut.rows (rows_known_lem value_of in_range kind width (records log) few loads cuts is);
      sorted = rw cut.rows (rows_sorted value_of in_range kind width (records log) few loads cuts is);
    }

-- ---- what the slot of an accepted query holds

module _ (q : Query) (log slot : List ℕ) (counts : Counts) (ok : query_outcome q log (length slot) ≡ accepted counts) where
  abbrev a : Answered q log
  a = answered q log (accepted_query q log (length slot) counts ok).2

  abbrev segs : List (Span ℕ)
  segs = query_segments q log

  slot_written : query_slot q log slot
      ≡ slot_bytes by_bound q.kind (answer_of q log).error (answer_of q log).rows ++ drop slot_length slot
  unfolding query_slot query_outcome
  slot_written = all_lent _ _ _ (outcome_accepted _ _ counts ok).0

  pub storable : Storable by_bound q.kind (answer_of q log).error (answer_of q log).rows
  unfolding order_questions log_segments ask
  storable =
      let (room, order, enough, same) = accepted_query q log (length slot) counts ok in
      let logged = file_passed log (all_tail _ _ (all_tail _ _ (all_tail _ _ order))) in
      let limit = limit_le q.bound (all_head _ _ (all_tail _ _ order)) in
      let at_most = count_le q.kind q.width (records log) q.bound a.rows a.counted in
      let counted = a.count in
      cut_storable q.kind q.kind q.width log a.cuts (answer_of q log) (row_le q.kind most_value) refl (all_head _ _ order) logged a.cut
      (is_reduction_lem q.kind q.bound segs a.cuts a.reduces) (omega arith)

  pub reads_back : Reads (query_slot q log slot) by_bound q.kind (answer_of q log).error (answer_of q log).rows
  reads_back =
      rw slot_written (round_trip_lem by_bound q.kind (answer_of q log).error (answer_of q log).rows (drop slot_length slot) storable)

  pub best : BestSlot q log (query_slot q log slot)
  best =
      record {
        error = (answer_of q log).error;
        rows = (answer_of q log).rows;
        reads = reads_back;
        answer_error = refl;
        answer_rows = refl;
        best = answer_best q log (accepted_query q log (length slot) counts ok).2;
      }

-- ---- what the slot of an accepted query by windows holds

module _ (q : RuledQuery) (windowed : bound_in q.rule ≡ none) (log slot : List ℕ) (counts : Counts)
    (ok : ruled_outcome q log (length slot) ≡ accepted counts) where
  passes : (rule_question q).passed ≡ true
  unfolding ruled_order
  passes = all_head _ _ (all_tail _ _ (accepted_windows q windowed log (length slot) counts ok).1)

  windows_storable : Storable by_windows q.kind 0 (window_rows q log)
  unfolding ruled_order ask
  windows_storable =
      let (room, order, few, same) = accepted_windows q windowed log (length slot) counts ok in
      record {
        made = inr (refl, refl);
        known = all_head _ _ order;
        error64 = omega arith;
        count = few;
        rows_known = window_rows_known q log windowed passes (file_passed log (all_right (width_questions q) _ (all_tail _ _ (all_tail _ _ order))));
        sorted = window_rows_sorted q log windowed passes;
      }

  windows_written : ruled_slot q log slot ≡ slot_bytes by_windows q.kind 0 (window_rows q log) ++ drop slot_length slot
  unfolding ruled_slot ruled_outcome ruled_answer ruled_mark
  windows_written = all_lent _ _ _ (outcome_accepted _ _ counts ok).0 ∙ rw (windowed, ruled_answer, ruled_mark)

  pub span_slot : SpanSlot q log (ruled_slot q log slot) counts
  span_slot =
      record {
        rows = window_rows q log;
        reads = rw windows_written (round_trip_lem by_windows q.kind 0 (window_rows q log) (drop slot_length slot) windows_storable);
        aggregation = aggregation q log windowed passes;
        counted = (accepted_windows q windowed log (length slot) counts ok).3;
      }

-- Demand 2
pub demand2 : Demand2
unfolding log_segments gap_below
demand2 =
    record {
      segmentation = λ kind width log. segmentation kind width (records log);
      count = segment_count;
      mean = mean;
      conserved = conserved;
      merging = λ kind width log. merging (segment_at (log_segments kind width log)) (length (log_segments kind width log));
      least = row_least;
      between = row_between_lem;
      greatest = λ b s m. row_above greatest_kind b s m refl;
      reduction = λ q log room counts ok.
          let (fits, order, enough, same) = accepted_query q log room counts ok in
          let found = answered q log enough in
          (found.cuts, found.cut, found.reduces, sym same);
      empty_log = empty_log_lem;
      written = reads_back;
      round_trip = round_trip_lem;
      still_read = λ rule kind log cuts rest r known logged cut is few.
          round_trip_lem by_bound kind r.error r.rows rest (cut_storable rule kind 1 log cuts r (lower_in_range rule) (sym (same_errors rule (log_segments kind 1 log))) known logged cut is few);
      layout = layout;
      windows = λ q log windowed passed rows.
          (only q log windowed passed rows, λ e. subst (SpanAggregation q log) (sym e) (aggregation q log windowed passed));
      frame_by_frame = frame_by_frame_lem;
    }

-- Halves go up
pub halves_up : HalvesUp
halves_up =
    record {
      at_half = λ kind k b other half. at_half_of kind b k other half;
      elsewhere = same_elsewhere;
      same_error = same_error_lem;
      same_outcome = same_outcome_lem;
      same_cuts = λ q log room counts ok.
          let (fits, order, enough, same) = accepted_query q log room counts ok in
          let found = answered q log enough in
          let segs : List (Span ℕ) = query_segments q log in (
            found.cuts,
            found.cut,
            found.lower_cut,
            rw (found.cut.rows, found.lower_cut.rows) (risen_rows q.kind segs (length segs) found.cuts),
          );
    }

-- Demand 3
pub demand3 : Demand3
unfolding enough_rows
demand3 =
    record {
      best = best;
      never_short = λ q log slot counts ok. slot_never_short q log _ (best q log slot counts ok);
      too_few = λ q log slot fits order.
          let (said, says) = too_few_lem q log (length slot) order fits in
          let (refuses, none-fits) = too_few_rows q.kind q.width (records log) q.bound in
          ((λ h. refuses (said h)), λ h. says (none-fits h));
      uncovered = nothing_fits;
      one_least = λ kind width log. only_least kind width (records log);
    }

-- ---- a slot against its log

-- what is best has its error
best_error : {A : Type 0} (choices : Choices A) (bound : Bound) (error : ℕ) (a : A) → BestRows choices bound error a → choices.error a ≡ error
best_error choices (Rows c) error a b = b.has_error
best_error choices (Share p) error a b = b.has_error

-- every slot that a query by a bound writes passes with its log
written_passes : (q : Query) (log slot : List ℕ) (counts : Counts) → query_outcome q log (length slot) ≡ accepted counts
    → check_outcome q.width log (query_slot q log slot) ≡ accepted tt
unfolding order_questions ask_width ask
written_passes q log slot counts ok =
    let b = best q log slot counts ok in
    let lists = lists_for q.kind q.width log in
    let asked = all_tail _ _ (all_tail _ _ (accepted_query q log (length slot) counts ok).1) in
    agrees_accepted q.width log (query_slot q log slot)
    (record {
      kind = q.kind;
      error = b.error;
      rows = b.rows;
      known = all_head _ _ asked;
      log_passes = all_tail _ _ asked;
      reads = b.reads;
      fits = fitting lists q.bound b.error (map whole b.rows) b.best;
      has_error = best_error lists q.bound b.error (map whole b.rows) b.best;
    })

-- the tool's own answer for as many rows is at least as good as a slot that agrees with its log
no_better_lem : (width : ℕ) (log slot : List ℕ) → Agrees width log slot → (room : ℕ) → slot_length ≤ room → NoBetter width log slot room
unfolding query_outcome query_questions order_questions read_outcome slot_questions enough_rows ask_room ask_width ask counts_of bound_known
no_better_lem width log slot found room long =
    let q : Query = query_by found.kind (Rows (length found.rows)) width in
    let (read, header) = outcome_accepted (slot_questions slot) _ _ found.reads.header in
    let count : length found.rows ≡ slot_count slot = ap (λ (h : Header). h.rows) header in
    let kind : found.kind ≡ slot_kind slot = ap (λ (h : Header). h.kind) header in
    let few : leb (length found.rows) most_rows ≡ true = rw count (all_head _ _ (all_tail _ _ (all_tail _ _ (all_tail _ _ read)))) in
    let known : kind_known found.kind ≡ true = rw kind (all_head _ _ (all_tail _ _ (all_tail _ _ read))) in
    let order : AllPass (order_questions q log) = all_cons _ _ known (all_cons _ _ few (all_cons _ _ found.known found.log_passes)) in
    let enough : enough_rows q log ≡ true =
    cases (enough_rows q log) (λ t. t)
    (λ t. absurd ((too_few_rows found.kind width (records log) q.bound).0 t (map whole found.rows) found.fits (omega (arith, length-map found.rows whole)))) in
    let answer = answer_best q log enough in
    record {
      kind = found.kind;
      error = found.error;
      rows = found.rows;
      reads = found.reads;
      own = counts_of (answer_of q log);
      answers =
          all_outcome (query_questions q log room) _
          (all_cons _ _ (le-leb slot_length room long) (all_append (order_questions q log) _ order (all_cons _ _ enough all_nil)));
      as_many_rows = omega (arith, answer.count, length-map (answer_of q log).rows whole);
      as_great_an_error =
          omega (arith, answer.least (map whole found.rows) found.fits (omega (arith, length-map found.rows whole)), found.has_error);
    }

pub slot_against_log : SlotAgainstLog
slot_against_log =
    record {
      exactly = λ width log slot small. (accepted_agrees width log slot small, agrees_accepted width log slot);
      whatever_fits = whatever_fits_lem;
      written = written_passes;
      no_better = λ width log slot small e. no_better_lem width log slot (accepted_agrees width log slot small e);
      not_by_windows = not_by_windows_lem;
      any_order = check_any_order;
    }

-- ---- what the calls promise beyond their equations

-- the cuts weighed by a call that is asked these questions and would give these counts
weighed_asked : (qs : List Question) (counts : Counts) → cuts_weighed (outcome qs counts) ≡ lent qs counts.weighed 0
unfolding cuts_weighed outcome lent
weighed_asked [] counts = refl
weighed_asked (q ∷ qs) counts =
    cases q.passed (λ p. rw p (weighed_asked qs counts)) (λ p. rw p)

-- a call that answers a query so and leaves this slot keeps the query's promise
pub query_promise : (q : Query) (log slot : List ℕ) (says : Outcome Counts) (after : List ℕ)
    → says ≡ query_outcome q log (length slot) → after ≡ query_slot q log slot → QueryPromise q log slot says after
unfolding query_outcome query_weighed counts_of
query_promise q log slot says after answers holds =
    record {
      weighed = ap cuts_weighed answers ∙ weighed_asked (query_questions q log (length slot)) (counts_of (answer_of q log));
      best = λ counts e. rw holds (best q log slot counts (sym answers ∙ e));
      never_short = λ counts e. rw holds (slot_never_short q log _ (best q log slot counts (sym answers ∙ e)));
      too_few = rw answers (demand3.too_few q log slot);
      any_order = query_any_order q log slot says after answers holds;
      passes = λ counts e. rw holds (written_passes q log slot counts (sym answers ∙ e));
    }

-- a call that answers a check so keeps its promise
pub check_promise : (width : ℕ) (log slot : List ℕ) → Bytes slot → (says : Outcome (Unit {0})) → says ≡ check_outcome width log slot
    → CheckPromise width log slot says
check_promise width log slot small says answers =
    record {
      exactly = rw answers (slot_against_log.exactly width log slot small);
      no_better = λ e. slot_against_log.no_better width log slot small (sym answers ∙ e);
      any_order = λ other both. answers ∙ check_any_order width log other slot both;
    }

-- and the same of a query by a rule
pub ruled_promise : (q : RuledQuery) (log slot : List ℕ) (says : Outcome Counts) (after : List ℕ)
    → says ≡ ruled_outcome q log (length slot) → after ≡ ruled_slot q log slot → RuledPromise q log slot says after
ruled_promise q log slot says after answers holds =
    record {
      bounded = λ bound e.
          query_promise (with_bound q bound) log slot says after
          (answers ∙ bound_outcome q bound e log (length slot)) (holds ∙ bound_slot q bound e log slot);
      windowed = λ e.
          record {
            spans = λ counts accepts. rw holds (span_slot q e log slot counts (sym answers ∙ accepts));
            not_too_few = λ index refuses. not_too_few_lem q e log (length slot) index (sym answers ∙ refuses);
            too_many = rw answers (too_many_lem q e log (length slot));
          };
      any_order = ruled_any_order q log slot says after answers holds;
    }

-- and the same of a query by letter
pub letter_promise : (kind letter x width : ℕ) (log slot : List ℕ) (says : Outcome Counts) (after : List ℕ)
    → says ≡ letter_outcome kind letter x width log (length slot) → after ≡ letter_slot kind letter x width log slot
    → LetterPromise kind letter x width log slot says after
unfolding letter_outcome letter_slot letter_weighed
letter_promise kind letter x width log slot says after answers holds =
    record { weighed = by (bound_of letter x) refl; named = named; any_order = λ other both. order other both (bound_of letter x) refl }
  where
    named : (bound : Bound) → bound_of letter x ≡ some bound
        → QueryPromise (query_by kind bound width) log slot says after
    named bound e =
        query_promise (query_by kind bound width) log slot says after
        (answers ∙ rw (e, letter_outcome)) (holds ∙ rw (e, letter_slot))

    by : (o : Option Bound) → bound_of letter x ≡ o → cuts_weighed says ≡ letter_weighed kind letter x width log (length slot)
    by none e =
        let none-given : Counts = record { rows = 0; error = 0; weighed = 0 } in
        let asked : says ≡ outcome (letter_questions kind (length slot)) none-given = answers ∙ rw (e, letter_outcome) in
        rw (e, letter_weighed)
        (ap cuts_weighed asked ∙ weighed_asked (letter_questions kind (length slot)) none-given
        ∙ lent_same (letter_questions kind (length slot)) 0)
    by (some bound) e = rw (e, letter_weighed) (named bound e).weighed

    -- no letter but those of bounds asks for the log
    order : (other : List ℕ) → Shuffled log other → (o : Option Bound) → bound_of letter x ≡ o
        → (says ≡ letter_outcome kind letter x width other (length slot)) × (after ≡ letter_slot kind letter x width other slot)
    order other both none e = (answers ∙ rw (e, letter_outcome), holds ∙ rw (e, letter_slot))
    order other both (some bound) e =
        let (answer, left) = (named bound e).any_order other both in (rw (e, letter_outcome) answer, rw (e, letter_slot) left)
