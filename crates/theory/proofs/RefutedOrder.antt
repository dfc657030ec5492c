-- Wrong answers that the statements about any order reject, each by the clause that its comment names; two logs of which they speak; and
-- the same statements with a condition left out, which are false. Assumes nothing.
use Prim.Native.Nat.{ℕ}
use mathlib.Core.Bool.{true}
use mathlib.Core.List.Permᴰ
use mathlib.Core.List.{List, [], ◌∷◌, ◌++◌}
use mathlib.Core.Logic.{⊎_elim}
use mathlib.Core.Path.{◌≡◌, refl, sym, ap, ◌∙◌}
use native.Mathlib.Omega.{arith}
use lib.ListN.{length, get_or, replicate}
use Rattle.model.specs.Common.{list_from, every, joined, is_some, number_at, bytes_of}
use Rattle.model.specs.Spans.{Span, group_count, frame_count, meets, adjacent}
use Rattle.model.specs.Log.{record_length, record_bytes, record_at, record_count, record_part, twins, is_first, records, meeting, sum, aggregate, aggregated, value}
use Rattle.model.specs.Segments.{join, fuse, place, frames_from, groups_from, segments_of}
use Rattle.model.specs.Blocks.{segment_at, gap, runs_to}
use Rattle.model.specs.Split.{most_rows, chosen, runs, count_for}
use Rattle.model.specs.Windows.{bound_in}
use Rattle.model.specs.Slot.{slot_length, used_bytes, slot_bytes}
use Rattle.model.specs.Questions.{Outcome, refused, accepted, ask, ask_room, outcome, each, marked, kind_known, bound_known, group_known, span_questions, record_questions, twin_questions, most_records, most_segments, log_questions, segments_questions, enough_rows, rule_question, rows_question, ruled_order, ruled_questions, ask_width, width_questions, width_known}
use Rattle.model.specs.Calls.{Counts, segment_of, log_segments, segments_outcome, filled_list, rule_of, bounded_query, query_outcome, query_slot, ruled_outcome, ruled_slot, bound_of, letter_outcome, letter_slot}
use Rattle.model.specs.Fitting.{hits, due}
use Rattle.model.specs.Demands.{AllPass, SameRecords, Shuffled, SameAnswer, SegmentsPromise, QueryPromise, RuledPromise, LetterPromise}
use Rattle.model.specs.declared.Bound.TheVariants.{Rows}
use Rattle.model.specs.declared.RuledQuery.{RuledQuery}
use Rattle.model.specs.declared.Segment.{Segment}
use Rattle.model.proofs.Page.{horizon, short_page}
use Rattle.model.proofs.Cases.{span, bytes, query}
use Rattle.model.proofs.TwinCases.{a, b, bad}
use Rattle.theory.proofs.Refusals.{accepted≢refused, accepted_inj, all_nil, all_cons, all_append, outcome_accepted, all_outcome, all_lent}
use Rattle.theory.proofs.Ruled.{bound_back, bound_outcome, bound_slot}
use Rattle.theory.proofs.RefutedCalls.{refused_number}
use Rattle.theory.proofs.Order.{any_order_lem}
use Rattle.theory.proofs.Demands.{demand2}

abbrev pub log : List ℕ
log = bytes (a ∷ b ∷ [])

abbrev pub other : List ℕ
other = bytes (b ∷ a ∷ [])

-- a log of the same length, with a record of other frames
abbrev apart : List ℕ
apart = bytes (a ∷ span 0 9 9 200 ∷ [])

passing : AllPass (log_questions log) × AllPass (log_questions apart)
unfolding list_from every number_at bytes_of record_length record_bytes record_at record_count twins is_first ask outcome each marked group_known span_questions record_questions twin_questions most_records log_questions
passing = ((outcome_accepted (log_questions log) (tt {0}) tt refl).0, (outcome_accepted (log_questions apart) (tt {0}) tt refl).0)

-- the statements speak of these two logs: the second is made of the records of the first, and has other bytes
pub swapped : Shuffled log other
unfolding list_from joined record_length record_count record_part record_bytes bytes_of
swapped = any_order_lem.any_shuffle log (1 ∷ 0 ∷ []) passing.0 (Permᴰ.swap refl refl)

pub not_the_same_bytes : log ≡ other → ⊥
unfolding record_bytes bytes_of
not_the_same_bytes e = omega (arith, ap (λ (l : List ℕ). get_or l 3 0) e)

-- ---- two queries (SameAnswer)

-- other counts: cuts weighed, error or rows
module _ (slot otherSlot : List ℕ) where
  pub counts_differ : (counts others : Counts) → (counts ≡ others → ⊥) → SameAnswer (accepted counts) slot (accepted others) otherSlot → ⊥
  counts_differ counts others differ =
      ⊎_elim (λ (both, says, says-too, bytes). differ (accepted_inj (says ∙ sym says-too))) (λ (n, is, says, says-too). accepted≢refused says)

  pub cuts_differ : SameAnswer (accepted (record { rows = 2; error = 0; weighed = 3 })) slot
      (accepted (record { rows = 2; error = 0; weighed = 4 })) otherSlot → ⊥
  cuts_differ = counts_differ _ _ (λ e. omega (arith, ap (λ (c : Counts). c.weighed) e))

  -- one of the two refused, 10 and 20, and another refusal of both
  pub one_refused : (counts : Counts) → SameAnswer (accepted counts) slot (refused 10 0) otherSlot → ⊥
  one_refused counts =
      ⊎_elim (λ (both, says, says-too, bytes). accepted≢refused (sym says-too)) (λ (n, is, says, says-too). accepted≢refused says)

  pub ten_and_twenty : SameAnswer (refused 10 0) slot (refused 20 0) otherSlot → ⊥
  ten_and_twenty =
      ⊎_elim (λ (both, says, says-too, bytes). accepted≢refused (sym says))
      (λ (n, is, says, says-too). omega (arith, (refused_number says).0, (refused_number says-too).0))

  pub both_refused_otherwise : SameAnswer (refused 9 0) slot (refused 9 0) otherSlot → ⊥
  both_refused_otherwise =
      ⊎_elim (λ (both, says, says-too, bytes). accepted≢refused (sym says))
      (λ (n, is, says, says-too).
      let nine = (refused_number says).0 in
      ⊎_elim (λ (e : n ≡ 10). omega arith) (λ (e : n ≡ 20). omega arith) is)

  -- an index, which 10 and 20 do not have
  pub with_an_index : SameAnswer (refused 10 1) slot (refused 10 1) otherSlot → ⊥
  with_an_index =
      ⊎_elim (λ (both, says, says-too, bytes). accepted≢refused (sym says)) (λ (n, is, says, says-too). omega (arith, (refused_number says).1))

-- other bytes, the last of the 768
pub bytes_differ : (counts : Counts)
    → SameAnswer (accepted counts) (replicate 768 0) (accepted counts) (replicate 767 0 ++ (1 ∷ [])) → ⊥
unfolding slot_length
bytes_differ counts =
    ⊎_elim (λ (both, says, says-too, bytes). omega (arith, ap (λ (l : List ℕ). get_or l 767 0) bytes)) (λ (n, is, says, says-too). accepted≢refused says)

-- ---- what the calls promise (anyOrder)

-- a tool that takes the records in one order alone: any query, one by a bound, one by a letter, and the segment call
abbrev by_rows_lem : RuledQuery
by_rows_lem = bounded_query (query 0 (Rows 3))

-- the query is accepted for the other order, or refused with 10
other_says : ruled_outcome by_rows_lem other 768 ≡ refused 9 1 → ⊥
unfolding bounded_query rule_of bound_in rule_question width_questions bound_known width_known ask_width ask kind_known slot_length most_rows
other_says e =
    ⊎_elim (λ (both, says, says-too, bytes). accepted≢refused (sym says-too ∙ e))
    (λ (n, is, says, says-too).
    let nine = (refused_number (sym says-too ∙ e)).0 in
    ⊎_elim (λ (ten : n ≡ 10). omega arith) (λ (twenty : n ≡ 20). omega arith) is)
    (any_order_lem.query by_rows_lem log other (replicate 768 0) (replicate 768 0) swapped refl refl (all_cons _ _ refl all_nil) (omega arith) (omega arith))

-- slots of other lengths, with other bytes in them, hold the same after the two queries
pub any_slots : SameAnswer (ruled_outcome by_rows_lem log 768) (ruled_slot by_rows_lem log (replicate 768 0))
    (ruled_outcome by_rows_lem other 770) (ruled_slot by_rows_lem other (replicate 770 9))
unfolding bounded_query rule_of bound_in rule_question width_questions bound_known width_known ask_width ask kind_known slot_length most_rows
any_slots = any_order_lem.query by_rows_lem log other (replicate 768 0) (replicate 770 9) swapped refl refl (all_cons _ _ refl all_nil) (omega arith) (omega arith)

-- it is the query by a bound, and by a letter
by_bound_lem : (ruled_outcome by_rows_lem other 768 ≡ query_outcome (query 0 (Rows 3)) other 768)
    × (ruled_slot by_rows_lem other (replicate 768 0) ≡ query_slot (query 0 (Rows 3)) other (replicate 768 0))
unfolding bounded_query rule_of
by_bound_lem = (
  bound_outcome by_rows_lem (Rows 3) (bound_back (Rows 3)) other 768,
  bound_slot by_rows_lem (Rows 3) (bound_back (Rows 3)) other (replicate 768 0),
)

module _ (after : List ℕ) where
  pub order_refused : RuledPromise by_rows_lem log (replicate 768 0) (refused 9 1) after → ⊥
  order_refused p = other_says (sym (p.any_order other swapped).0)

  pub order_refused_by_bound : QueryPromise (query 0 (Rows 3)) log (replicate 768 0) (refused 9 1) after → ⊥
  order_refused_by_bound p = other_says (by_bound_lem.0 ∙ sym (p.any_order other swapped).0)

  pub order_refused_by_letter : LetterPromise 0 0x52 3 1 log (replicate 768 0) (refused 9 1) after → ⊥
  unfolding letter_outcome bound_of
  order_refused_by_letter p = other_says (by_bound_lem.0 ∙ sym (p.any_order other swapped).0)

abbrev places : List Segment
places = replicate 255 (record { group = 9; first = 9; last = 9; value = 9 })

other_segments : log_segments 0 1 other ≡ span 0 0 1 100 ∷ span 0 2 3 300 ∷ span 0 4 5 200 ∷ []
unfolding log_segments records record_count record_length record_at record_bytes list_from number_at bytes_of horizon group_count frame_count meets adjacent meeting sum aggregate aggregated value join fuse place frames_from groups_from segments_of
other_segments = short_page 0 1 (b ∷ a ∷ []) refl

segments_asked : AllPass (segments_questions 0 1 other 255)
unfolding segments_questions ask_room ask_width ask kind_known width_known most_segments
segments_asked = all_cons _ _ refl (all_cons _ _ refl (all_cons _ _ refl swapped.other_passes))

pub segments_refused : (after : List Segment) → SegmentsPromise 0 1 log places (refused 9 1) after → ⊥
unfolding segments_outcome
segments_refused after p =
    accepted≢refused (sym ((p.any_order other swapped).0 ∙ all_outcome (segments_questions 0 1 other 255) _ segments_asked))

-- success over an untouched list
pub segments_untouched : (says : Outcome ℕ) → SegmentsPromise 0 1 log places says places → ⊥
unfolding filled_list segment_of
segments_untouched says p =
    let left = (p.any_order other swapped).1 ∙ all_lent (segments_questions 0 1 other 255) _ places segments_asked in
    omega (arith, ap (λ (l : List Segment). (get_or l 0 (record { group = 9; first = 9; last = 9; value = 9 })).value) (rw other_segments at left))

-- success over an untouched slot
enough : enough_rows (query 0 (Rows 3)) other ≡ true
unfolding enough_rows log_segments count_for chosen runs runs_to gap segment_at adjacent is_some
enough = rw other_segments

other_slot : get_or (ruled_slot by_rows_lem other (replicate 768 0)) 0 0 ≡ 0x50
unfolding ruled_slot ruled_questions ruled_order rows_question bounded_query rule_of rule_question width_questions bound_known width_known ask_width ask ask_room kind_known slot_length most_rows slot_bytes used_bytes bound_in
other_slot =
    ap (λ (l : List ℕ). get_or l 0 0)
    (all_lent (ruled_questions by_rows_lem other 768) _ (replicate 768 0)
    (all_cons _ _ refl (all_cons _ _ refl (all_cons _ _ refl (all_cons _ _ refl (all_append _ _ swapped.other_passes (all_cons _ _ enough all_nil)))))))

untouched : replicate 768 0 ≡ ruled_slot by_rows_lem other (replicate 768 0) → ⊥
untouched e = omega (arith, ap (λ (l : List ℕ). get_or l 0 0) e ∙ other_slot)

module _ (says : Outcome Counts) where
  pub order_untouched : RuledPromise by_rows_lem log (replicate 768 0) says (replicate 768 0) → ⊥
  order_untouched p = untouched (p.any_order other swapped).1

  pub order_untouched_by_bound : QueryPromise (query 0 (Rows 3)) log (replicate 768 0) says (replicate 768 0) → ⊥
  order_untouched_by_bound p = untouched ((p.any_order other swapped).1 ∙ sym by_bound_lem.1)

  pub order_untouched_by_letter : LetterPromise 0 0x52 3 1 log (replicate 768 0) says (replicate 768 0) → ⊥
  unfolding letter_slot bound_of
  order_untouched_by_letter p = untouched ((p.any_order other swapped).1 ∙ sym by_bound_lem.1)

-- ---- statements that are false

-- with 'of the same length' for 'hold the same records'
pub length_alone : ((l m : List ℕ) → AllPass (log_questions l) → AllPass (log_questions m) → length l ≡ length m
    → log_segments 0 1 l ≡ log_segments 0 1 m) → ⊥
unfolding due records record_count record_length record_at record_bytes list_from number_at bytes_of group_count frame_count meets meeting sum aggregate aggregated value
length_alone claim =
    let e = claim log apart passing.0 passing.1 refl in
    let covered = (demand2.segmentation 0 1 apart).exact 0 9 in
    let not_covered = (demand2.segmentation 0 1 log).exact 0 9 in
    omega (arith, sym not_covered ∙ ap (λ (l : List (Span ℕ)). hits l 0 9) e ∙ covered)

-- without 'that all pass': a record that is refused takes its index along
pub index_moves : ((q : RuledQuery) (l m : List ℕ) → SameRecords l m → ruled_outcome q l 768 ≡ ruled_outcome q m 768) → ⊥
unfolding list_from every number_at bytes_of record_length record_bytes record_at record_count records twins is_first ask ask_room outcome each marked kind_known bound_known group_known span_questions record_questions twin_questions most_records most_rows slot_length log_questions rule_of bounded_query bound_in rule_question width_questions ask_width width_known ruled_order ruled_questions ruled_outcome
index_moves claim =
    omega (arith, (refused_number (claim by_rows_lem (bytes (bad ∷ a ∷ [])) (bytes (a ∷ bad ∷ [])) (Permᴰ.swap refl refl))).1)
