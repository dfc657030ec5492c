-- Many lookups as a set: pairs of group and frame, given as two lists, are answered into two lent lists, one of values and one of
-- covered or not. The questions of the call, what it answers, and what the two lists hold afterwards.
use Rattle.std.specs.Prelude.{ℕ, List, [], ◌∷◌, ◌++◌, leb, length, get_or, drop}
use Rattle.std.proofs.Math.Option.{Option, none, some}
use Rattle.model.specs.Common.{list_from}
use Rattle.model.specs.Slot.{slot_rows, value_in}
use Rattle.model.specs.Questions.{Question, ask, ask_room, each, group_known, slot_questions, Outcome, outcome, lent}

abbrev pub most_pairs : ℕ
most_pairs = 64

-- 7, of the pair with index i
unfoldable pub pair_questions : List ℕ → ℕ → List Question
pair_questions groups i = ask 7 i (group_known (get_or groups i 0)) ∷ []

-- those ahead of 7, of so many pairs: 1 of each list, which is at least as long; the slot's; 26
unfoldable pub ahead_of_groups : List ℕ → ℕ → ℕ → ℕ → ℕ → List Question
ahead_of_groups slot pairs frames values covered =
    ask_room pairs frames
    ∷ ask_room pairs values
    ∷ ask_room pairs covered
    ∷ (slot_questions slot ++ (ask 26 0 (leb pairs most_pairs) ∷ []))

-- and all, with 7 pair by pair; there are as many pairs as groups
unfoldable pub lookups_questions : List ℕ → List ℕ → ℕ → ℕ → ℕ → List Question
lookups_questions slot groups frames values covered =
    ahead_of_groups slot (length groups) frames values covered ++ each (pair_questions groups) 0 (length groups)

unfoldable pub lookups_outcome : List ℕ → List ℕ → ℕ → ℕ → ℕ → Outcome (Unit {0})
lookups_outcome slot groups frames values covered = outcome (lookups_questions slot groups frames values covered) tt

-- what the rows of the slot say of the pair with index i
unfoldable pub pair_found : List ℕ → List ℕ → List ℕ → ℕ → Option ℕ
pair_found slot groups frames i = value_in (slot_rows slot) (get_or groups i 0) (get_or frames i 0)

-- how it is written: its value, 0 where uncovered; and 1 for covered, 0 for not
unfoldable pub value_shown : Option ℕ → ℕ
value_shown none = 0
value_shown (some v) = v

unfoldable pub covered_shown : Option ℕ → ℕ
covered_shown none = 0
covered_shown (some v) = 1

-- a list whose first places hold what is shown of each pair, and the later ones what they held
unfoldable pub pairs_shown : (Option ℕ → ℕ) → List ℕ → List ℕ → List ℕ → List ℕ → List ℕ
pairs_shown shown slot groups frames list =
    list_from 0 (length groups) (λ i. shown (pair_found slot groups frames i)) ++ drop (length groups) list

-- what one of the two lists holds afterwards: this, or in a refusal what it held
unfoldable pub lookups_list : (Option ℕ → ℕ) → List ℕ → List ℕ → List ℕ → ℕ → ℕ → List ℕ → List ℕ
lookups_list shown slot groups frames values covered list =
    lent (lookups_questions slot groups (length frames) values covered) (pairs_shown shown slot groups frames list) list

unfoldable pub lookups_values : List ℕ → List ℕ → List ℕ → List ℕ → List ℕ → List ℕ
lookups_values slot groups frames values covered =
    lookups_list value_shown slot groups frames (length values) (length covered) values

unfoldable pub lookups_covered : List ℕ → List ℕ → List ℕ → List ℕ → List ℕ → List ℕ
lookups_covered slot groups frames values covered =
    lookups_list covered_shown slot groups frames (length values) (length covered) covered
