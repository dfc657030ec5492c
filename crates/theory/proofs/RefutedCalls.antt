-- Wrong refusals that demand 1 rejects, and wrong slots that demand 2 does, each by the clause that its comment names.
-- Assumes nothing.
use Prim.Native.Nat.{ℕ}
use mathlib.Core.Bool.{true, false}
use mathlib.Core.List.{List, [], ◌∷◌, append-nil}
use mathlib.Core.Logic.{◌⊎◌, inl, inr}
use mathlib.Core.Option.{Option}
use mathlib.Core.Path.{◌≡◌, refl, sym, ap, ap₂, ◌∙◌, subst}
use native.Mathlib.Omega.{arith}
use lib.ListN.{length, get_or, set, take, replicate}
use Rattle.model.specs.Common.{list_from, number_at, bytes_of}
use Rattle.model.specs.Spans.{Span}
use Rattle.model.specs.Log.{record_length, record_bytes}
use Rattle.model.specs.Split.{most_rows}
use Rattle.model.specs.Slot.{slot_length, by_bound, by_windows, row_bytes, rows_bytes, used_bytes, slot_bytes, row_place, slot_mark, slot_kind, slot_count, slot_error, slot_row, slot_rows}
use Rattle.model.specs.Questions.{Question, Outcome, refused, accepted, ask, ask_room, outcome, each, marked, kind_known, group_known, span_questions, most_segments, follows, in_order, row_known, row_questions, error_known, header_marked}
use Rattle.model.specs.Questions.{write_questions, segments_questions, order_questions, log_questions, query_questions, rule_question, ruled_order, ruled_questions, slot_questions, lookup_questions}
use Rattle.model.specs.Calls.{Counts, Header, write_outcome, written_buffer, segments_outcome, filled_list, query_outcome, query_slot, ruled_outcome, ruled_slot, beat_query, bound_of, letter_questions, by_letter_questions, letter_outcome, letter_slot, read_outcome, read_rows, read_list_questions, read_list_outcome, read_list, step_outcome, step_next, lookup_outcome}
use Rattle.model.specs.Lookups.{ahead_of_groups, lookups_questions, lookups_outcome, lookups_values, lookups_covered}
use Rattle.model.specs.Demands.{FirstNo, Asks, Storable}
use Rattle.model.specs.declared.Bound.TheVariants.{Rows}
use Rattle.model.specs.declared.Segment.{Segment}
use Rattle.model.specs.declared.Row.{Row}
use Rattle.model.proofs.Tail.{walked, tail_walked}
use Rattle.model.proofs.Cases.{span, log_g, rows_g, bytes, query}
use Rattle.theory.proofs.Refusals.{accepted≢refused, all_outcome, all_lent, outcome_accepted, first_no_outcome}
use Rattle.theory.proofs.Demands.{demand1, demand2, storable}
use Rattle.theory.proofs.Refutations.{four_outcome, four_answer}
use Rattle.theory.proofs.RefutedReductions.{bytes_only, bytes_only_lem}

-- ---- the first question that is answered 'no'

-- equal refusals have the same number and the same index
pub refused_number : {A : Type 0} {n i n' i' : ℕ} → ◌≡◌ {A = Outcome A} (refused n i) (refused n' i') → (n ≡ n') × (i ≡ i')
refused_number e = (cc, cc)

-- none of the questions (parts), one that is passed (denied), one after another 'no' (passed), another number (numbered),
-- another index (indexed)
pub no_such_question : FirstNo [] 1 0 → ⊥
unfolding outcome
no_such_question f = accepted≢refused (first_no_outcome [] (tt {0}) 1 0 f)

pub question_passed : FirstNo (ask 1 0 true ∷ []) 1 0 → ⊥
unfolding outcome ask
question_passed f = accepted≢refused (first_no_outcome (ask 1 0 true ∷ []) (tt {0}) 1 0 f)

pub question_not_first : FirstNo (ask 7 0 false ∷ ask 8 0 false ∷ []) 8 0 → ⊥
unfolding outcome ask
question_not_first f = omega (arith, (refused_number (first_no_outcome (ask 7 0 false ∷ ask 8 0 false ∷ []) (tt {0}) 8 0 f)).0)

pub number_of_no_question : FirstNo (ask 7 0 false ∷ []) 8 0 → ⊥
unfolding outcome ask
number_of_no_question f = omega (arith, (refused_number (first_no_outcome (ask 7 0 false ∷ []) (tt {0}) 8 0 f)).0)

pub index_of_no_record : FirstNo (ask 6 2 false ∷ []) 6 0 → ⊥
unfolding outcome ask
index_of_no_record f = omega (arith, (refused_number (first_no_outcome (ask 6 2 false ∷ []) (tt {0}) 6 0 f)).1)

-- ---- a call with these questions

-- it is refused with its first 'no', and what was lent is as it was
module _ {A B : Type 0} (qs : List Question) (was is : B) (n i : ℕ) (first : outcome qs (tt {0}) ≡ refused n i) where
  asks_refused : (says : Outcome A) → Asks qs says was is → (says ≡ refused n i) × (is ≡ was)
  asks_refused (accepted a) asks =
      absurd (accepted≢refused (sym (all_outcome qs (tt {0}) (asks.acceptance a refl)) ∙ first))
  asks_refused (refused n' i') asks =
      let (no-at, kept) = asks.refusal n' i' refl in
      let (number, index) = refused_number (sym (first_no_outcome qs (tt {0}) n' i' no-at) ∙ first) in
      (cc, kept)

-- a record of group 8 that ends before it begins: question 7 says 'no' first, then 8
abbrev wrong_record : Span ℕ
wrong_record = span 8 4 3 100

abbrev nines : List ℕ
nines = replicate 9 9

abbrev zero_slot : List ℕ
zero_slot = replicate 768 0

abbrev nine_segments : List Segment
nine_segments = replicate 255 (record { group = 9; first = 9; last = 9; value = 9 })

abbrev nine_rows : List Row
nine_rows = replicate 64 (record { group = 9; first = 9; last = 9; value = 9 })

-- the first 'no' of each call's questions
first_noes : (outcome (write_questions wrong_record 9) (tt {0}) ≡ refused 7 0)
    × (outcome (segments_questions 5 1 [] 255) (tt {0}) ≡ refused 2 0)
    × (outcome (query_questions (query 5 (Rows 65)) [] 768) (tt {0}) ≡ refused 2 0)
    × (outcome (by_letter_questions 0 0x41 4 1 [] 768) (tt {0}) ≡ refused 3 0)
    × (outcome (slot_questions zero_slot) (tt {0}) ≡ refused 11 0)
    × (outcome (lookup_questions (slot_bytes by_bound 0 11280 rows_g) 8) (tt {0}) ≡ refused 7 0)
    × (outcome (read_list_questions zero_slot 64) (tt {0}) ≡ refused 11 0)
    × (outcome (slot_questions (slot_bytes 0x43 0 0 [])) (tt {0}) ≡ refused 11 0)
    × (outcome (slot_questions (slot_bytes by_windows 0 11280 rows_g)) (tt {0}) ≡ refused 17 0)
    × (outcome (ruled_questions (beat_query 0 0 1) [] 768) (tt {0}) ≡ refused 18 0)
    × (outcome (lookups_questions zero_slot (8 ∷ []) 1 9 9) (tt {0}) ≡ refused 11 0)
unfolding walked outcome ask ask_room write_questions span_questions group_known record_length segments_questions most_segments kind_known log_questions query_questions order_questions slot_length by_letter_questions bound_of letter_questions slot_questions lookup_questions read_list_questions marked slot_bytes used_bytes rows_bytes row_bytes bytes_of slot_mark slot_kind slot_count slot_error slot_row row_place number_at each row_questions row_known in_order follows header_marked error_known most_rows ruled_questions ruled_order rule_question beat_query ahead_of_groups lookups_questions
first_noes = (refl, refl, refl, refl, refl, rw tail_walked, refl, refl, rw tail_walked, refl, refl)

-- accepted in spite of a 'no' (acceptance), refused by a later 'no' (refusal), refused and written all the same (refusal)
pub accepted_in_spite : Asks (write_questions wrong_record 9) (accepted (tt {0})) nines nines → ⊥
accepted_in_spite a = accepted≢refused (asks_refused _ _ _ 7 0 first_noes.0 (accepted (tt {0})) a).0

pub refused_by_a_later_no : Asks {A = Unit {0}} (write_questions wrong_record 9) (refused 8 0) nines nines → ⊥
refused_by_a_later_no a = omega (arith, (refused_number (asks_refused _ _ _ 7 0 first_noes.0 (refused 8 0) a).0).0)

pub refused_and_written : Asks {A = Unit {0}} (write_questions wrong_record 9) (refused 7 0) nines (record_bytes wrong_record) → ⊥
unfolding record_bytes
refused_and_written a =
    omega (arith, ap (λ (l : List ℕ). get_or l 0 0) (asks_refused _ _ _ 7 0 first_noes.0 (refused 7 0) a).1)

-- ---- the calls: each accepted in spite of a 'no', or with what was lent changed

pub wrong_write : (write_outcome wrong_record 9 ≡ accepted tt → ⊥) × (written_buffer wrong_record nines ≡ record_bytes wrong_record → ⊥)
unfolding record_bytes
wrong_write =
    let (says, kept) = asks_refused _ _ _ 7 0 first_noes.0 _ (demand1.write wrong_record nines) in
    ((λ e. accepted≢refused (sym e ∙ says)), λ e. omega (arith, ap (λ (l : List ℕ). get_or l 0 0) (sym e ∙ kept)))

pub wrong_segments : ((n : ℕ) → segments_outcome 5 1 [] 255 ≡ accepted n → ⊥) × (filled_list 5 1 [] nine_segments ≡ [] → ⊥)
wrong_segments =
    let (says, kept) = asks_refused _ _ _ 2 0 first_noes.1 _ (demand1.segments 5 1 [] nine_segments) in
    ((λ n e. accepted≢refused (sym e ∙ says)), λ e. omega (arith, ap length (sym e ∙ kept)))

pub wrong_query : ((counts : Counts) → query_outcome (query 5 (Rows 65)) [] 768 ≡ accepted counts → ⊥)
    × (query_slot (query 5 (Rows 65)) [] zero_slot ≡ slot_bytes by_bound 5 0 [] → ⊥)
unfolding slot_bytes used_bytes
wrong_query =
    let (says, kept) = asks_refused _ _ _ 2 0 first_noes.2 _ (demand1.query (query 5 (Rows 65)) [] zero_slot) in
    ((λ counts e. accepted≢refused (sym e ∙ says)), λ e. omega (arith, ap (λ (l : List ℕ). get_or l 0 0) (sym e ∙ kept)))

pub wrong_beats : ((counts : Counts) → ruled_outcome (beat_query 0 0 1) [] 768 ≡ accepted counts → ⊥)
    × (ruled_slot (beat_query 0 0 1) [] zero_slot ≡ slot_bytes by_windows 0 0 [] → ⊥)
unfolding slot_bytes used_bytes
wrong_beats =
    let (says, kept) = asks_refused _ _ _ 18 0 first_noes.9 _ (demand1.ruled (beat_query 0 0 1) [] zero_slot) in
    ((λ counts e. accepted≢refused (sym e ∙ says)), λ e. omega (arith, ap (λ (l : List ℕ). get_or l 0 0) (sym e ∙ kept)))

pub wrong_letter : ((counts : Counts) → letter_outcome 0 0x41 4 1 [] 768 ≡ accepted counts → ⊥)
    × (letter_slot 0 0x41 4 1 [] zero_slot ≡ slot_bytes by_bound 0 0 [] → ⊥)
unfolding slot_bytes used_bytes
wrong_letter =
    let (says, kept) = asks_refused _ _ _ 3 0 first_noes.3 _ (demand1.letter 0 0x41 4 1 [] zero_slot) in
    ((λ counts e. accepted≢refused (sym e ∙ says)), λ e. omega (arith, ap (λ (l : List ℕ). get_or l 0 0) (sym e ∙ kept)))

pub wrong_read : (header : Header) → read_outcome zero_slot ≡ accepted header → ⊥
wrong_read header e =
    let (says, kept) = asks_refused _ _ _ 11 0 first_noes.4 _ (demand1.read zero_slot) in
    accepted≢refused (sym e ∙ says)

-- a header of neither mark
pub wrong_mark : (header : Header) → read_outcome (slot_bytes 0x43 0 0 []) ≡ accepted header → ⊥
wrong_mark header e =
    let (says, kept) = asks_refused _ _ _ 11 0 first_noes.7 _ (demand1.read (slot_bytes 0x43 0 0 [])) in
    accepted≢refused (sym e ∙ says)

-- rows by windows with an error, accepted, and refused with 11 as though their header were unknown
pub windows_with_an_error : ((header : Header) → read_outcome (slot_bytes by_windows 0 11280 rows_g) ≡ accepted header → ⊥)
    × ((index : ℕ) → read_outcome (slot_bytes by_windows 0 11280 rows_g) ≡ refused 11 index → ⊥)
windows_with_an_error =
    let (says, kept) = asks_refused _ _ _ 17 0 first_noes.8 _ (demand1.read (slot_bytes by_windows 0 11280 rows_g)) in
    ((λ header e. accepted≢refused (sym e ∙ says)), λ index e. omega (arith, (refused_number (sym e ∙ says)).0))

pub wrong_read_list : ((header : Header) → read_list_outcome zero_slot 64 ≡ accepted header → ⊥) × (read_list zero_slot nine_rows ≡ [] → ⊥)
wrong_read_list =
    let (says, kept) = asks_refused _ _ _ 11 0 first_noes.6 _ (demand1.read_list zero_slot nine_rows) in
    ((λ header e. accepted≢refused (sym e ∙ says)), λ e. omega (arith, ap length (sym e ∙ kept)))

pub wrong_step : ((row : Option (Span ℕ)) → step_outcome zero_slot 0 ≡ accepted row → ⊥) × (step_next zero_slot 0 ≡ 1 → ⊥)
wrong_step =
    let (says, kept) = asks_refused _ _ _ 11 0 first_noes.4 _ (demand1.step zero_slot 0) in
    ((λ row e. accepted≢refused (sym e ∙ says)), λ e. omega arith)

pub wrong_lookup : (value : Option ℕ) → lookup_outcome (slot_bytes by_bound 0 11280 rows_g) 8 0 ≡ accepted value → ⊥
wrong_lookup value e =
    let (says, kept) = asks_refused _ _ _ 7 0 first_noes.5 _ (demand1.lookup (slot_bytes by_bound 0 11280 rows_g) 8 0) in
    accepted≢refused (sym e ∙ says)

pub wrong_lookups : (lookups_outcome zero_slot (8 ∷ []) 1 9 9 ≡ accepted tt → ⊥)
    × (lookups_values zero_slot (8 ∷ []) (0 ∷ []) nines nines ≡ 0 ∷ [] → ⊥)
    × (lookups_covered zero_slot (8 ∷ []) (0 ∷ []) nines nines ≡ 0 ∷ [] → ⊥)
wrong_lookups =
    let (says, kept) = asks_refused _ _ _ 11 0 first_noes.10 _ (demand1.lookups zero_slot (8 ∷ []) (0 ∷ []) nines nines) in (
      λ e. accepted≢refused (sym e ∙ says),
      λ e. omega (arith, ap length (sym e ∙ ap (λ (l : List ℕ × List ℕ). l.0) kept)),
      λ e. omega (arith, ap length (sym e ∙ ap (λ (l : List ℕ × List ℕ). l.1) kept)),
    )

-- ---- slots

-- success over an untouched slot (written)
pub slot_not_written : query_slot (query 0 (Rows 4)) (bytes log_g) zero_slot ≡ zero_slot → ⊥
slot_not_written e =
    let reads = demand2.written (query 0 (Rows 4)) (bytes log_g) zero_slot _ four_outcome in
    wrong_read _ (ap read_outcome (sym e) ∙ reads.header)

-- rows written and refused by the reader (roundTrip)
pub written_not_read : (number index : ℕ) → read_outcome (slot_bytes by_bound 0 11280 rows_g) ≡ refused number index → ⊥
written_not_read number index e =
    let held : Storable by_bound 0 11280 rows_g =
    subst (λ a. Storable by_bound 0 a.error a.rows) four_answer
    (storable (query 0 (Rows 4)) (bytes log_g) zero_slot _ four_outcome) in
    let reads = demand2.round_trip by_bound 0 11280 rows_g [] held in
    accepted≢refused (sym reads.header ∙ ap read_outcome (append-nil _) ∙ e)

-- an error, stored with rows by windows (made)
pub stored_with_an_error : (kind : ℕ) (rows : List (Span ℕ)) → Storable by_windows kind 1 rows → ⊥
stored_with_an_error kind rows s = by s.made
  where
    by : (by_windows ≡ by_bound) ⊎ ((by_windows ≡ by_windows) × (◌≡◌ {A = ℕ} 1 0)) → ⊥
    by (inl is) = omega arith
    by (inr (is, none)) = omega arith

-- a byte after the last row changed, and the slot accepted (layout)
abbrev changed_slot : List ℕ
changed_slot = set (slot_bytes by_bound 0 11280 rows_g) 600 1

changed_bytes : (bytes_only changed_slot ≡ true) × (slot_mark changed_slot ≡ by_bound)
    × (slot_kind changed_slot ≡ 0) × (slot_error changed_slot ≡ 11280)
    × (slot_rows changed_slot ≡ rows_g) × (get_or (take slot_length changed_slot) 600 0 ≡ 1)
    × (get_or (slot_bytes by_bound 0 11280 rows_g) 600 0 ≡ 0)
unfolding bytes_only slot_bytes used_bytes rows_bytes row_bytes bytes_of slot_length slot_mark slot_kind slot_error slot_count slot_rows slot_row row_place number_at list_from
changed_bytes = (refl, refl, refl, refl, refl, refl, refl)

pub byte_changed : (header : Header) → read_outcome changed_slot ≡ accepted header → ⊥
unfolding read_outcome read_rows
byte_changed header e =
    let (bytes, mark, kind, error, rows, changed, zero-there) = changed_bytes in
    let (all, given) = outcome_accepted (slot_questions changed_slot) _ header e in
    let laid = demand2.layout changed_slot header (bytes_only_lem changed_slot bytes) e in
    let same : slot_bytes header.mark header.kind header.error (read_rows changed_slot)
    ≡ slot_bytes by_bound 0 11280 rows_g =
    ap₂ (λ (h : Header) r. slot_bytes h.mark h.kind h.error r) given (all_lent (slot_questions changed_slot) _ _ all)
    ∙ rw (mark, kind, error, rows) in
    omega (arith, ap (λ (l : List ℕ). get_or l 600 0) (laid ∙ same))
