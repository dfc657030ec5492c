-- Where there is nothing: the empty block, the lists that fit where no frame is covered, and the empty log. Assumes nothing.
use Prim.Native.Nat.{ℕ, ◌≤◌, zero-le, min}
use mathlib.Core.Bool.{true}
use mathlib.Core.List.Memᴰ
use mathlib.Core.List.{List, [], ◌∷◌}
use mathlib.Core.Logic.{◌↔◌}
use mathlib.Core.Option.{Option, none, some, get_or}
use mathlib.Core.Path.{◌≡◌, refl, ap, ◌∙◌}
use native.Mathlib.Nat.{le_refl, mul-zero}
use native.Mathlib.Omega.{arith}
use lib.Dec.{eqb}
use lib.IntN.{ℤ}
use borrow.Author.Tests.{le-leb}
use Rattle.model.specs.Common.{sum_of, list_from, is_some}
use Rattle.model.specs.Spans.{Span, group_count, frame_count}
use Rattle.model.specs.Log.{record_length, record_count, records, greatest_kind}
use Rattle.model.specs.Segments.{frames_from, groups_from, segments_of}
use Rattle.model.specs.Blocks.{runs_to, empty, totals, nearest, value_for, row_value, error_with, block_error}
use Rattle.model.specs.Split.{cell, least, weighed, cuts_of, rows_of, fewest, within, first_that, chosen, rows_tried, error_of, gap_below, runs, least_of, count_for, reduced_to, reduced}
use Rattle.model.specs.Slot.{slot_length, value_in}
use Rattle.model.specs.Questions.{accepted, ask, ask_room, kind_known, bound_known, each, outcome, most_records, log_questions, order_questions, query_questions, enough_rows, ask_width, width_known}
use Rattle.model.specs.Calls.{log_segments, answer_of, counts_of, query_outcome, query_segments}
use Rattle.model.specs.Fitting.{hits, due, FitsFor}
use Rattle.model.specs.declared.Bound.{Bound}
use Rattle.model.specs.declared.Bound.TheVariants.{Rows, Share}
use Rattle.model.specs.declared.Query.{Query}
use Rattle.model.proofs.Page.{horizon, short_page}
use Rattle.theory.proofs.Tests.{cases, none≢some, true_holds}
use Rattle.theory.proofs.Choice.{weighed_le}

-- the empty block: its totals, its row value and its error are 0
pub empty_block : (kind : ℕ) → (totals [] ≡ empty) × (row_value kind [] ≡ 0) × (block_error kind [] ≡ 0)
unfolding totals empty row_value value_for nearest block_error error_with sum_of
empty_block kind = (refl, cases (eqb kind greatest_kind) (λ e. rw e) (λ e. rw e), refl)

-- where no frame is covered, only the list of 0 rows fits
pub nothing_fits : (kind : ℕ) (val : ℕ → ℕ → Option ℕ) → ((g f : ℕ) → val g f ≡ none)
    → (rows : List (Span ℤ)) → FitsFor kind val rows ↔ (rows ≡ [])
unfolding hits due value_in
nothing_fits kind val blank [] = (
  λ f. refl,
  λ e.
      record {
        covers = record { ordered = λ r m. absurd (Memᴰ.not-nil m); exact = λ g f. rw (blank g f) };
        nowhere_below = λ k g f v z p q. absurd (none≢some (blank g f) p);
      },
)
nothing_fits kind val blank (r ∷ rows) = (
  λ f.
      let held = true_holds r r.group r.first refl (le_refl _) (f.covers.ordered r (Memᴰ.head refl)) in
      absurd (omega (arith, rw (held, blank r.group r.first) at (f.covers.exact r.group r.first))),
  λ e. let z : ◌≡◌ {A = ℕ} 0 1 = cc in absurd (omega arith),
)

-- ---- the empty log

no_segments_lem : (kind width : ℕ) → log_segments kind width [] ≡ []
unfolding log_segments records record_count record_length list_from horizon frame_count segments_of groups_from group_count frames_from
no_segments_lem kind width = short_page kind width [] refl

-- 0 rows answer every bound
no_rows : (kind : ℕ) (bound : Bound) → count_for kind bound [] ≡ some 0
unfolding count_for chosen runs runs_to fewest first_that within least_of least cell
no_rows kind (Rows c) =
    let none_left : min c 0 ≡ 0 = omega arith in
    rw (le-leb 0 c zero-le, none_left)
no_rows kind (Share p) = rw mul-zero

-- by no cuts
no_cuts_lem : (kind : ℕ) (bound : Bound) → reduced kind bound [] ≡ some (record { rows = []; error = 0; weighed = 0 })
unfolding reduced reduced_to cuts_of rows_of least_of least cell
no_cuts_lem kind bound =
    let none-weighed : weighed (error_of kind []) (gap_below []) (rows_tried bound 0 0) 0 ≡ 0 =
    omega (arith, weighed_le (error_of kind []) (gap_below []) (rows_tried bound 0 0) 0) in
    rw (no_rows kind bound, reduced, none-weighed)

-- the empty log gives 0 rows and error 0
pub empty_log_lem : (q : Query) (room : ℕ) → slot_length ≤ room → kind_known q.kind ≡ true → bound_known q.bound ≡ true
    → width_known q.width ≡ true
    → (answer_of q [] ≡ record { rows = []; error = 0; weighed = 0 })
    × (query_outcome q [] room ≡ accepted (record { rows = 0; error = 0; weighed = 0 }))
unfolding answer_of query_outcome query_questions order_questions log_questions enough_rows record_count record_length each most_records log_segments ask_room ask ask_width outcome is_some counts_of
empty_log_lem q room fits kind bound width =
    let none_found : query_segments q [] ≡ [] = no_segments_lem q.kind q.width in
    let is : count_for q.kind q.bound (query_segments q []) ≡ some 0 =
    ap (count_for q.kind q.bound) none_found ∙ no_rows q.kind q.bound in
    let answer : answer_of q [] ≡ record { rows = []; error = 0; weighed = 0 } =
    ap (λ o. get_or o (record { rows = []; error = 0; weighed = 0 }))
    (ap (reduced q.kind q.bound) none_found ∙ no_cuts_lem q.kind q.bound) in
    (answer, rw (le-leb slot_length room fits, kind, bound, width, is) (ap (λ a. accepted (counts_of a)) answer))
