-- Many lookups, shown of the definitions: which places hold what afterwards, the ends of rows, and where 1, 26 and 7 stand. The slot is
-- that of log G with four rows, and others beside it. Assumes nothing.
use Prim.Native.Nat.{ℕ}
use mathlib.Core.List.{List, [], ◌∷◌, ◌++◌}
use mathlib.Core.Path.{◌≡◌, refl}
use lib.ListN.{length, replicate}
use Rattle.model.specs.Common.{list_from, number_at, bytes_of}
use Rattle.model.specs.Spans.{meets, holds}
use Rattle.model.specs.Split.{most_rows}
use Rattle.model.specs.Slot.{slot_length, by_bound, by_windows, row_bytes, rows_bytes, used_bytes, slot_bytes, row_place, slot_mark, slot_kind, slot_count, slot_error, slot_row, slot_rows, value_in}
use Rattle.model.specs.Questions.{Outcome, refused, accepted, ask, ask_room, outcome, lent, each, marked, kind_known, group_known, follows, in_order, row_known, row_questions, error_known, header_marked, slot_questions}
use Rattle.model.specs.Lookups.{pair_questions, ahead_of_groups, lookups_questions, lookups_outcome, pair_found, value_shown, covered_shown, pairs_shown, lookups_list, lookups_values, lookups_covered}
use Rattle.model.proofs.Tail.{walked, tail_walked}
use Rattle.model.proofs.Cases.{span, rows_g, All}

-- a slot, groups and frames, both lists before, what is said, and both lists afterwards
record LookupCase : Type 0 where
  slot : List ℕ
  groups : List ℕ
  frames : List ℕ
  values : List ℕ
  covered : List ℕ
  says : Outcome (Unit {0})
  values_after : List ℕ
  covered_after : List ℕ

-- accepted, and refused, where both lists stay
abbrev answers : List ℕ → List ℕ → List ℕ → List ℕ → List ℕ → List ℕ → List ℕ → LookupCase
answers slot groups frames values covered values_after covered_after =
    record { slot = slot; groups = groups; frames = frames; values = values; covered = covered; says = accepted tt; values_after = values_after; covered_after = covered_after }

abbrev refuses : List ℕ → List ℕ → List ℕ → List ℕ → List ℕ → ℕ → ℕ → LookupCase
refuses slot groups frames values covered number index =
    record { slot = slot; groups = groups; frames = frames; values = values; covered = covered; says = refused number index; values_after = values; covered_after = covered }

abbrev nines : ℕ → List ℕ
nines n = replicate n 9

abbrev eight : List ℕ
eight = 0 ∷ 1 ∷ 2 ∷ 3 ∷ 4 ∷ 5 ∷ 6 ∷ 7 ∷ []

-- G by a bound, and the same rows by windows; a slot of no rows, and one whose header is wrong
abbrev pub slot_g : List ℕ
slot_g = slot_bytes by_bound 0 11280 rows_g

abbrev pub empty_slot : List ℕ
empty_slot = slot_bytes by_bound 0 0 []

abbrev wrong_slot : List ℕ
wrong_slot = replicate 768 0

abbrev answered_cases : List LookupCase
answered_cases =
    -- eight groups for one frame; the two places behind them stay
    answers slot_g eight (replicate 8 0) (nines 10) (nines 10) (100 ∷ 7 ∷ 0 ∷ 0 ∷ 0 ∷ 0 ∷ 0 ∷ 0 ∷ 9 ∷ 9 ∷ []) (1 ∷ 1 ∷ 0 ∷ 0 ∷ 0 ∷ 0 ∷ 0 ∷ 0 ∷ 9 ∷ 9 ∷ [])
    ∷
    -- each end of each row, and the frames beside it
    answers slot_g (replicate 8 0 ++ (1 ∷ 1 ∷ [])) (1 ∷ 2 ∷ 6 ∷ 7 ∷ 8 ∷ 9 ∷ 10 ∷ 11 ∷ 0 ∷ 1 ∷ []) (nines 10) (nines 10)
    (100 ∷ 242 ∷ 242 ∷ 0 ∷ 0 ∷ 50 ∷ 50 ∷ 0 ∷ 7 ∷ 0 ∷ []) (1 ∷ 1 ∷ 1 ∷ 0 ∷ 0 ∷ 1 ∷ 1 ∷ 0 ∷ 1 ∷ 0 ∷ [])
    ∷
    -- rows by windows; a frame more than there are pairs, and the same pair twice; a covered frame of value 0
    answers (slot_bytes by_windows 0 0 (span 2 5 6 0 ∷ span 2 8 8 3 ∷ [])) (2 ∷ 2 ∷ 2 ∷ 2 ∷ []) (8 ∷ 5 ∷ 8 ∷ 7 ∷ 6 ∷ []) (nines 4) (nines 5)
    (3 ∷ 0 ∷ 3 ∷ 0 ∷ []) (1 ∷ 1 ∷ 1 ∷ 0 ∷ 9 ∷ [])
    ∷
    -- no pairs, and as many as there may be
    answers slot_g [] (3 ∷ []) (nines 2) [] (nines 2) []
    ∷ answers empty_slot (replicate 64 7) (replicate 64 1) (nines 64) (nines 65) (replicate 64 0) (replicate 64 0 ++ (9 ∷ []))
    ∷ []

abbrev refused_cases : List LookupCase
refused_cases =
    -- the slot's ahead of 26, with no pairs too
    refuses wrong_slot (replicate 65 8) (replicate 65 0) (nines 65) (nines 65) 11 0
    ∷ refuses wrong_slot [] [] (nines 2) (nines 2) 11 0
    ∷ refuses (0x50 ∷ []) [] [] (nines 2) (nines 2) 1 0
    -- 1 of each list ahead of the slot's: 65 pairs with 64 places
    ∷ refuses wrong_slot (replicate 65 8) (replicate 64 0) (nines 65) (nines 65) 1 0
    ∷ refuses wrong_slot (replicate 65 8) (replicate 65 0) (nines 64) (nines 65) 1 0
    ∷ refuses wrong_slot (replicate 65 8) (replicate 65 0) (nines 65) (nines 64) 1 0
    -- 26 ahead of 7
    ∷ refuses empty_slot (replicate 65 8) (replicate 65 0) (nines 65) (nines 65) 26 0
    -- 7 at the first bad group with its index: the fifth of eight, with another behind it
    ∷ refuses slot_g (0 ∷ 1 ∷ 2 ∷ 3 ∷ 8 ∷ 5 ∷ 255 ∷ 7 ∷ []) (replicate 8 0) (nines 10) (nines 10) 7 4
    ∷ []

abbrev Holds : LookupCase → Type 0
Holds c =
    (lookups_outcome c.slot c.groups (length c.frames) (length c.values) (length c.covered) ≡ c.says)
    × (lookups_values c.slot c.groups c.frames c.values c.covered ≡ c.values_after)
    × (lookups_covered c.slot c.groups c.frames c.values c.covered ≡ c.covered_after)

-- Every row of the two tables holds.
pub lookup_cases : All Holds answered_cases × All Holds refused_cases
unfolding walked list_from number_at bytes_of meets holds slot_length row_bytes rows_bytes used_bytes slot_bytes row_place slot_mark slot_kind slot_count slot_error slot_row slot_rows value_in ask outcome lent each marked ask_room kind_known group_known most_rows follows in_order row_known row_questions error_known header_marked slot_questions pair_questions ahead_of_groups lookups_questions lookups_outcome pair_found value_shown covered_shown pairs_shown lookups_list lookups_values lookups_covered
lookup_cases = (
  ((rw tail_walked refl, rw tail_walked refl, rw tail_walked refl), ((rw tail_walked refl, rw tail_walked refl, rw tail_walked refl), ((rw tail_walked refl, rw tail_walked refl, rw tail_walked refl), ((rw tail_walked refl, rw tail_walked refl, rw tail_walked refl), ((rw tail_walked refl, rw tail_walked refl, rw tail_walked refl), tt))))),
  ((refl, refl, refl), ((refl, refl, refl), ((refl, refl, refl), ((refl, refl, refl), ((refl, refl, refl), ((refl, refl, refl), ((rw tail_walked refl, rw tail_walked refl, rw tail_walked refl), ((rw tail_walked refl, rw tail_walked refl, rw tail_walked refl), tt)))))))),
)
