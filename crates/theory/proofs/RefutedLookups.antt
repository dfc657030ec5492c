-- Wrong answers of many lookups that the promise rejects, each by the clause that its comment names. The slot is that of log G with four
-- rows, whose frame 0 has 100 in group 0, 7 in group 1 and nothing in group 2. Assumes nothing.
use Prim.Native.Nat.{ℕ}
use mathlib.Core.List.{List, [], ◌∷◌}
use mathlib.Core.Option.{Option, none, some}
use mathlib.Core.Path.{◌≡◌, refl, sym, ap, ◌∙◌}
use native.Mathlib.Omega.{arith}
use lib.ListN.{length, get_or, replicate}
use Rattle.model.specs.Common.{list_from, number_at, bytes_of}
use Rattle.model.specs.Spans.{meets, holds}
use Rattle.model.specs.Split.{most_rows}
use Rattle.model.specs.Slot.{slot_length, row_bytes, rows_bytes, used_bytes, slot_bytes, row_place, slot_mark, slot_kind, slot_count, slot_error, slot_row, slot_rows, value_in}
use Rattle.model.specs.Questions.{Outcome, refused, accepted, ask, ask_room, outcome, each, marked, kind_known, group_known, follows, in_order, row_known, row_questions, error_known, header_marked, slot_questions, lookup_questions}
use Rattle.model.specs.Calls.{read_outcome, lookup_outcome}
use Rattle.model.specs.Lookups.{value_shown, covered_shown}
use Rattle.model.specs.Demands.{AllPass, LookupsPromise}
use Rattle.model.proofs.Tail.{walked, tail_walked}
use Rattle.model.proofs.LookupCases.{slot_g}
use Rattle.theory.proofs.Tests.{true≢false}
use Rattle.theory.proofs.Refusals.{accepted≢refused, accepted_inj, all_head, all_tail, outcome_accepted}
use Rattle.theory.proofs.RefutedCalls.{refused_number}

-- what the single lookup says of frame 0
single : (lookup_outcome slot_g 0 0 ≡ accepted (some 100))
    × (lookup_outcome slot_g 2 0 ≡ accepted none)
    × (lookup_outcome slot_g 8 0 ≡ refused 7 0)
    × (outcome (slot_questions slot_g) (tt {0}) ≡ accepted tt)
unfolding walked list_from number_at bytes_of meets holds slot_length row_bytes rows_bytes used_bytes slot_bytes row_place slot_mark slot_kind slot_count slot_error slot_row slot_rows value_in ask outcome each marked ask_room kind_known group_known most_rows follows in_order row_known row_questions error_known header_marked slot_questions lookup_questions lookup_outcome
single = (rw tail_walked, rw tail_walked, rw tail_walked, rw tail_walked)

read : AllPass (slot_questions slot_g)
read = (outcome_accepted (slot_questions slot_g) tt tt single.3).0

-- a call with one pair of frame 0, and lists of two places that hold 9 before it
abbrev One : ℕ → Outcome (Unit {0}) → List ℕ → List ℕ → Type 0
One group says values covered = LookupsPromise slot_g (group ∷ []) (0 ∷ []) (9 ∷ 9 ∷ []) (9 ∷ 9 ∷ []) says values covered

-- and one with two
abbrev Two : ℕ → ℕ → Outcome (Unit {0}) → List ℕ → List ℕ → Type 0
Two first second says values covered =
    LookupsPromise slot_g (first ∷ second ∷ []) (0 ∷ 0 ∷ []) (9 ∷ 9 ∷ []) (9 ∷ 9 ∷ []) says values covered

abbrev nines : List ℕ
nines = 9 ∷ 9 ∷ []

-- ---- half set

-- a value written before a later 7, and a flag (untouched)
pub value_before_refusal : (n i : ℕ) (covered : List ℕ) → Two 0 8 (refused n i) (100 ∷ 9 ∷ []) covered → ⊥
value_before_refusal n i covered p = omega (arith, ap (λ l. get_or l 0 0) (p.into_values.untouched n i refl))

pub flag_before_refusal : (n i : ℕ) (values : List ℕ) → Two 0 8 (refused n i) values (1 ∷ 9 ∷ []) → ⊥
flag_before_refusal n i values p = omega (arith, ap (λ l. get_or l 0 0) (p.into_covered.untouched n i refl))

-- ---- not as the single lookup

-- another value, an uncovered frame that keeps the old value, a covered one that is not flagged, and an uncovered one that is (answered)
module _ (group : ℕ) (found : Option ℕ) (is : lookup_outcome slot_g group 0 ≡ accepted found) where
  value_is : (values covered : List ℕ) → One group (accepted tt) values covered → get_or values 0 0 ≡ value_shown found
  value_is values covered p =
      let (given, same, shown) = p.into_values.answered refl 0 (omega arith) in
      shown ∙ ap value_shown (accepted_inj (sym same ∙ is))

  covered_is : (values covered : List ℕ) → One group (accepted tt) values covered → get_or covered 0 0 ≡ covered_shown found
  covered_is values covered p =
      let (given, same, shown) = p.into_covered.answered refl 0 (omega arith) in
      shown ∙ ap covered_shown (accepted_inj (sym same ∙ is))

pub another_value : (covered : List ℕ) → One 0 (accepted tt) (101 ∷ 9 ∷ []) covered → ⊥
unfolding value_shown
another_value covered p = omega (arith, value_is 0 (some 100) single.0 (101 ∷ 9 ∷ []) covered p)

pub old_value_kept : (covered : List ℕ) → One 2 (accepted tt) nines covered → ⊥
unfolding value_shown
old_value_kept covered p = omega (arith, value_is 2 none single.1 nines covered p)

pub covered_unflagged : (values : List ℕ) → One 0 (accepted tt) values (0 ∷ 9 ∷ []) → ⊥
unfolding covered_shown
covered_unflagged values p = omega (arith, covered_is 0 (some 100) single.0 values (0 ∷ 9 ∷ []) p)

pub uncovered_flagged : (values : List ℕ) → One 2 (accepted tt) values (1 ∷ 9 ∷ []) → ⊥
unfolding covered_shown
uncovered_flagged values p = omega (arith, covered_is 2 none single.1 values (1 ∷ 9 ∷ []) p)

-- a later place cleared, of values and of flags, and a list cut off behind the pairs (later)
pub later_value_cleared : (covered : List ℕ) → One 0 (accepted tt) (100 ∷ 0 ∷ []) covered → ⊥
later_value_cleared covered p = omega (arith, ap (λ l. get_or l 0 0) (p.into_values.later refl).1)

pub later_flag_cleared : (values : List ℕ) → One 0 (accepted tt) values (1 ∷ 0 ∷ []) → ⊥
later_flag_cleared values p = omega (arith, ap (λ l. get_or l 0 0) (p.into_covered.later refl).1)

pub list_cut_off : (values covered : List ℕ) → length values ≡ 1 → One 0 (accepted tt) values covered → ⊥
list_cut_off values covered short p = omega (arith, short, (p.into_values.later refl).0)

-- ---- accepted or refused otherwise

-- a bad group accepted, and good ones refused (exactly)
pub bad_group_accepted : (values covered : List ℕ) → One 8 (accepted tt) values covered → ⊥
bad_group_accepted values covered p =
    let (found, same) = (p.exactly.0 refl).3 0 (omega arith) in accepted≢refused (sym same ∙ single.2)

pub good_group_refused : (n i : ℕ) (values covered : List ℕ) → One 0 (refused n i) values covered → ⊥
good_group_refused n i values covered p =
    accepted≢refused (sym (p.exactly.1 ((omega arith, omega arith, omega arith), read, omega arith, λ j lt. answered j (omega (arith, lt)))))
  where
    answered : (j : ℕ) → j ≡ 0 → (found : Option ℕ) × (lookup_outcome slot_g (get_or (0 ∷ []) j 0) (get_or (0 ∷ []) j 0) ≡ accepted found)
    answered j none_before = (some 100, ap (λ k. lookup_outcome slot_g (get_or (0 ∷ []) k 0) (get_or (0 ∷ []) k 0)) none_before ∙ single.0)

-- 65 pairs, a list that is too short, and a slot that is not read, though there is no pair (exactly)
pub too_many_accepted : (slot frames values covered after flags : List ℕ)
    → LookupsPromise slot (replicate 65 0) frames values covered (accepted tt) after flags → ⊥
too_many_accepted slot frames values covered after flags p = omega (arith, (p.exactly.0 refl).2)

pub short_list_accepted : (slot values covered after flags : List ℕ)
    → LookupsPromise slot (0 ∷ 0 ∷ []) (0 ∷ []) values covered (accepted tt) after flags → ⊥
short_list_accepted slot values covered after flags p = omega (arith, (p.exactly.0 refl).0.0)

pub unread_accepted : (values covered after flags : List ℕ)
    → LookupsPromise (replicate 768 0) [] [] values covered (accepted tt) after flags → ⊥
unfolding slot_questions header_marked marked ask
unread_accepted values covered after flags p =
    true≢false (sym (all_head _ _ (all_tail _ _ (p.exactly.0 refl).1)))

-- ---- refused in another order

-- a wrong slot ahead of a list that is too short (tooShort)
pub slot_before_lists : (values covered after flags : List ℕ)
    → LookupsPromise (replicate 768 0) (0 ∷ 0 ∷ []) (0 ∷ []) values covered (refused 11 0) after flags → ⊥
slot_before_lists values covered after flags p = omega (arith, (refused_number (p.too_short (λ long. omega (arith, long.0)))).0)

-- 26 ahead of the slot's (asRead)
pub count_before_slot : (after flags : List ℕ)
    → LookupsPromise (replicate 768 0) (replicate 65 0) (replicate 65 0) (replicate 65 9) (replicate 65 9) (refused 26 0) after flags → ⊥
unfolding read_outcome outcome slot_questions header_marked marked ask ask_room slot_length
count_before_slot after flags p =
    omega (arith, (refused_number (p.as_read (omega arith, omega arith, omega arith) 11 0 refl)).0)

-- 7 ahead of 26 (tooMany)
pub group_before_count : (after flags : List ℕ)
    → LookupsPromise slot_g (replicate 65 8) (replicate 65 0) (replicate 65 9) (replicate 65 9) (refused 7 0) after flags → ⊥
group_before_count after flags p =
    omega (arith, (refused_number (p.too_many (omega arith, omega arith, omega arith) read (omega arith))).0)

-- 7 with the index of a good pair, and of the last bad one (firstBad)
pub index_of_a_good_pair : (values covered : List ℕ) → Two 0 8 (refused 7 0) values covered → ⊥
index_of_a_good_pair values covered p =
    let (inside, refuses, before) = (p.first_bad (omega arith, omega arith, omega arith) read (omega arith) 0).0 refl in
    accepted≢refused (sym single.0 ∙ refuses)

pub index_of_the_last_bad_pair : (values covered : List ℕ) → Two 8 8 (refused 7 1) values covered → ⊥
index_of_the_last_bad_pair values covered p =
    let (inside, refuses, before) = (p.first_bad (omega arith, omega arith, omega arith) read (omega arith) 1).0 refl in
    let (found, same) = before 0 (omega arith) in accepted≢refused (sym same ∙ single.2)

pub index_behind_the_pairs : (values covered : List ℕ) → Two 0 8 (refused 7 2) values covered → ⊥
index_behind_the_pairs values covered p =
    let (inside, refuses, before) = (p.first_bad (omega arith, omega arith, omega arith) read (omega arith) 2).0 refl in
    omega (arith, inside)

-- another number (firstBad)
pub another_number : (values covered : List ℕ) → Two 0 8 (refused 9 1) values covered → ⊥
another_number values covered p =
    let due = (p.first_bad (omega arith, omega arith, omega arith) read (omega arith) 1).1 (omega arith, single.2, λ j lt. (some 100, first j (omega (arith, lt)))) in
    omega (arith, (refused_number due).0)
  where
    first : (j : ℕ) → j ≡ 0 → lookup_outcome slot_g (get_or (0 ∷ 8 ∷ []) j 0) (get_or (0 ∷ 0 ∷ []) j 0) ≡ accepted (some 100)
    first j none_before = ap (λ k. lookup_outcome slot_g (get_or (0 ∷ 8 ∷ []) k 0) (get_or (0 ∷ 0 ∷ []) k 0)) none_before ∙ single.0
