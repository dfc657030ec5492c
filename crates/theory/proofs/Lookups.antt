-- Many lookups as a set: each pair is answered as the single lookup would, or the first that it would refuse is named and the lists are
-- as they were. Assumes nothing.
use Prim.Native.Nat.{ℕ, zero, suc, ◌+◌, ◌≤◌, ◌<◌}
use mathlib.Core.Bool.{true, false}
use mathlib.Core.List.{List, [], ◌∷◌, ◌++◌}
use mathlib.Core.Logic.{◌↔◌}
use mathlib.Core.Option.{Option}
use mathlib.Core.Path.{◌≡◌, sym, ap, ◌∙◌, subst}
use native.Mathlib.Omega.{arith}
use borrow.Author.Tests.{le-leb, lt-leb, leb-true, leb-false, eqb-true, eqb-false}
use lib.Dec.{leb, eqb}
use lib.ListN.{length, get_or, drop, get_or-append}
use lib.Seq.{drop-append_seam}
use Rattle.model.specs.Common.{list_from}
use Rattle.model.specs.Questions.{Question, Outcome, refused, accepted, ask, ask_room, outcome, each, group_known, slot_questions, lookup_questions}
use Rattle.model.specs.Calls.{read_outcome, lookup_outcome}
use Rattle.model.specs.Lookups.{most_pairs, pair_questions, ahead_of_groups, lookups_questions, lookups_outcome, pair_found, value_shown, covered_shown, pairs_shown, lookups_list, lookups_values, lookups_covered}
use Rattle.model.specs.Demands.{AllPass, LongEnough, AnsweredTo, AnsweredInto, LookupsPromise, singly}
use Rattle.theory.proofs.Tests.{cases, true≢false}
use Rattle.theory.proofs.Refusals.{accepted≢refused, all_nil, all_cons, all_head, all_tail, all_append, all_left, all_right, all_each, all_at, outcome_accepted, all_outcome, outcome_behind, all_lent, refused_lent, refused_first, refused_same}
use Rattle.theory.proofs.SlotLaws.{length-list_from}
use Rattle.theory.proofs.Lists.{list_from_at}
use Rattle.theory.proofs.Copying.{copied, copied_length}
use Rattle.theory.proofs.Asking.{answer}

-- ---- the first bad group

module _ (groups : List ℕ) where
  -- whether the group of pair i is known
  abbrev Known : ℕ → Type 0
  Known i = group_known (get_or groups i 0) ≡ true

  -- of `count` pairs from k on, the one with index i is the first whose group is not known
  abbrev FirstBad : ℕ → ℕ → ℕ → Type 0
  FirstBad k count i =
      (k ≤ i) × (i < k + count) × (group_known (get_or groups i 0) ≡ false) × ((j : ℕ) → k ≤ j → j < i → Known j)

  -- that one is what 7 says
  first_bad_lem : (k count i : ℕ) → (answer (each (pair_questions groups) k count) ≡ refused 7 i) ↔ FirstBad k count i
  unfolding each outcome pair_questions ask
  first_bad_lem k zero i = (λ e. absurd (accepted≢refused e), λ (low, high, bad, before). absurd (omega (arith, low, high)))
  first_bad_lem k (suc count) i =
      let later = first_bad_lem (suc k) count i in
      cases (group_known (get_or groups k 0)) (λ t. rw t (λ e. further t (later.0 e), λ b. later.1 (nearer t b))) (λ f. rw f (λ e. here f cc, λ b. there f b))
    where
      further : Known k → FirstBad (suc k) count i → FirstBad k (suc count) i
      further t (low, high, bad, before) = (
        omega (arith, low),
        omega (arith, high),
        bad,
        λ j a b. cases (eqb k j) (λ s. subst Known (eqb-true k j s) t) (λ s. before j (omega (arith, a, eqb-false k j s)) b),
      )

      nearer : Known k → FirstBad k (suc count) i → FirstBad (suc k) count i
      nearer t (low, high, bad, before) =
          let other : (k ≡ i → ⊥) = λ s. true≢false (sym (subst Known s t) ∙ bad) in
          (omega (arith, low, other), omega (arith, high), bad, λ j a b. before j (omega (arith, a)) b)

      here : group_known (get_or groups k 0) ≡ false → k ≡ i → FirstBad k (suc count) i
      here f s = (
        omega (arith, s),
        omega (arith, s),
        subst (λ n. group_known (get_or groups n 0) ≡ false) s f,
        λ j a b. absurd (omega (arith, a, b, s)),
      )

      there : group_known (get_or groups k 0) ≡ false → FirstBad k (suc count) i → ◌≡◌ {A = Outcome (Unit {0})} (refused 7 k) (refused 7 i)
      there f (low, high, bad, before) =
          cases (leb i k) (λ t. let same : k ≡ i = omega (arith, low, leb-true i k t) in ap (refused 7) same)
          (λ t. absurd (true≢false (sym (before k (omega arith) (leb-false i k t)) ∙ f)))

-- ---- the questions in parts

-- those ahead of 7, of so many pairs
module _ (slot : List ℕ) (pairs frames values covered : ℕ) where
  -- 1 of each list
  abbrev rooms : List Question
  rooms = ask_room pairs frames ∷ ask_room pairs values ∷ ask_room pairs covered ∷ []

  abbrev counted : List Question
  counted = ask 26 0 (leb pairs most_pairs) ∷ []

  abbrev Long : Type 0
  Long = LongEnough pairs frames values covered

  abbrev ahead : List Question
  ahead = ahead_of_groups slot pairs frames values covered

  rooms_passed : Long → AllPass rooms
  unfolding ask_room ask
  rooms_passed (a, b, c) = all_cons _ _ (le-leb _ _ a) (all_cons _ _ (le-leb _ _ b) (all_cons _ _ (le-leb _ _ c) all_nil))

  pub too_short_lem : (Long → ⊥) → answer ahead ≡ refused 1 0
  unfolding ahead_of_groups outcome ask_room ask
  too_short_lem short =
      cases (leb pairs frames)
      (λ a.
      rw a
      (cases (leb pairs values)
      (λ b.
      rw b
      (cases (leb pairs covered)
      (λ c. absurd (short (leb-true _ _ a, leb-true _ _ b, leb-true _ _ c)))
      (λ c. rw c)))
      (λ b. rw b)))
      (λ a. rw a)

  -- behind them come the slot's, and 26
  pub behind_rooms : Long → answer ahead ≡ answer (slot_questions slot ++ counted)
  unfolding ahead_of_groups
  behind_rooms long = outcome_behind rooms _ tt (rooms_passed long)

  pub as_read_lem : Long → (n i : ℕ) → answer (slot_questions slot) ≡ refused n i → answer ahead ≡ refused n i
  as_read_lem long n i e = behind_rooms long ∙ refused_first (slot_questions slot) _ tt tt n i e

  pub too_many_lem : Long → AllPass (slot_questions slot) → most_pairs < pairs → answer ahead ≡ refused 26 0
  unfolding outcome ask
  too_many_lem long read many =
      behind_rooms long ∙ outcome_behind (slot_questions slot) _ tt read ∙ rw (lt-leb pairs most_pairs many)

  -- all of them are passed exactly if no list is too short, the slot passes and there are at most 64
  pub ahead_passed : Long → AllPass (slot_questions slot) → pairs ≤ most_pairs → AllPass ahead
  unfolding ahead_of_groups ask
  ahead_passed long read few =
      all_append rooms _ (rooms_passed long) (all_append (slot_questions slot) counted read (all_cons _ _ (le-leb pairs most_pairs few) all_nil))

  pub passed_ahead : AllPass ahead → Long × AllPass (slot_questions slot) × (pairs ≤ most_pairs)
  unfolding ahead_of_groups ask_room ask
  passed_ahead all =
      let room = all_left rooms _ all in
      let rest = all_right rooms _ all in (
        (leb-true _ _ (all_head _ _ room), leb-true _ _ (all_head _ _ (all_tail _ _ room)), leb-true _ _ (all_head _ _ (all_tail _ _ (all_tail _ _ room)))),
        all_left (slot_questions slot) counted rest,
        leb-true _ _ (all_head _ _ (all_right (slot_questions slot) counted rest)),
      )

module _ (slot groups : List ℕ) (frames values covered : ℕ) where
  -- those ahead of 7, and 7 pair by pair
  abbrev before : List Question
  before = ahead_of_groups slot (length groups) frames values covered

  abbrev each_pair : List Question
  each_pair = each (pair_questions groups) 0 (length groups)

  abbrev says : Outcome (Unit {0})
  says = lookups_outcome slot groups frames values covered

  -- a refusal of those ahead is the call's
  refused_before : (n i : ℕ) → answer before ≡ refused n i → says ≡ refused n i
  unfolding lookups_outcome lookups_questions
  refused_before n i e = refused_first before each_pair tt tt n i e

  -- and where they are passed, 7 decides
  behind_before : AllPass before → says ≡ answer each_pair
  unfolding lookups_outcome lookups_questions
  behind_before all = outcome_behind before each_pair tt all

  pub passed : says ≡ accepted tt
      → LongEnough (length groups) frames values covered × AllPass (slot_questions slot) × (length groups ≤ most_pairs)
      × ((i : ℕ) → i < length groups → Known groups i)
  unfolding lookups_outcome lookups_questions ask pair_questions
  passed e =
      let all = (outcome_accepted (lookups_questions slot groups frames values covered) tt tt e).0 in
      let (long, read, few) = passed_ahead slot (length groups) frames values covered (all_left before each_pair all) in (
        long,
        read,
        few,
        λ i lt. all_head _ _ (all_at (pair_questions groups) 0 (length groups) (all_right before each_pair all) i (omega arith) (omega arith)),
      )

module _ (slot groups frames : List ℕ) where
  -- ---- a single lookup, and a list

  -- once the slot has passed, the group decides
  pub single_known : AllPass (slot_questions slot) → (i : ℕ) → group_known (get_or groups i 0) ≡ true
      → singly slot groups frames i ≡ accepted (pair_found slot groups frames i)
  unfolding lookup_outcome lookup_questions pair_found ask
  single_known read i known =
      all_outcome (lookup_questions slot (get_or groups i 0)) _ (all_append (slot_questions slot) _ read (all_cons _ _ known all_nil))

  single_unknown : AllPass (slot_questions slot) → (i : ℕ) → group_known (get_or groups i 0) ≡ false
      → singly slot groups frames i ≡ refused 7 0
  unfolding lookup_outcome lookup_questions outcome ask
  single_unknown read i unknown = outcome_behind (slot_questions slot) _ _ read ∙ rw unknown

  answered_known : (i : ℕ) (found : Option ℕ) → singly slot groups frames i ≡ accepted found → group_known (get_or groups i 0) ≡ true
  unfolding lookup_outcome lookup_questions ask
  answered_known i found e =
      all_head _ _ (all_right (slot_questions slot) _ (outcome_accepted (lookup_questions slot (get_or groups i 0)) _ found e).0)

  module _ (values covered : ℕ) where
    abbrev said : Outcome (Unit {0})
    said = lookups_outcome slot groups (length frames) values covered

    abbrev LongOf : Type 0
    LongOf = LongEnough (length groups) (length frames) values covered

    pub exactly : (said ≡ accepted tt)
        ↔ (LongOf × AllPass (slot_questions slot) × (length groups ≤ most_pairs) × AnsweredTo (length groups) slot groups frames)
    unfolding pair_questions ask
    exactly = (
      λ e. let (long, read, few, known) = passed slot groups (length frames) values covered e in
          (long, read, few, λ i lt. (pair_found slot groups frames i, single_known read i (known i lt))),
      λ (long, read, few, answered).
          behind_before slot groups (length frames) values covered (ahead_passed slot (length groups) (length frames) values covered long read few)
          ∙ all_outcome (each_pair slot groups (length frames) values covered) tt
          (all_each (pair_questions groups) 0 (length groups) (λ i low high.
          all_cons _ _ (answered_known i _ (answered i (omega arith)).1) all_nil)),
    )

    pub first_refused : LongOf → AllPass (slot_questions slot) → length groups ≤ most_pairs → (i : ℕ) → (said ≡ refused 7 i)
        ↔ ((i < length groups) × (singly slot groups frames i ≡ refused 7 0) × AnsweredTo i slot groups frames)
    first_refused long read few i =
        let same = behind_before slot groups (length frames) values covered (ahead_passed slot (length groups) (length frames) values covered long read few) in (
          λ e.
              let (low, high, bad, before) = (first_bad_lem groups 0 (length groups) i).0 (sym same ∙ e) in
              (omega arith, single_unknown read i bad, λ j lt. (pair_found slot groups frames j, single_known read j (before j (omega arith) lt))),
          λ (lt, refuses, answered).
              same
              ∙ (first_bad_lem groups 0 (length groups) i).1 (
                omega arith,
                omega arith,
                cases (group_known (get_or groups i 0)) (λ t. absurd (accepted≢refused (sym (single_known read i t) ∙ refuses))) (λ f. f),
                λ j low less. answered_known j _ (answered j less).1,
              ),
        )

    -- ---- a list

    -- which is as long as the pairs are many
    module _ (shown : Option ℕ → ℕ) (list : List ℕ) (fits : LongOf → length groups ≤ length list) where
      abbrev after : List ℕ
      after = lookups_list shown slot groups frames values covered list

      -- what is shown of each pair
      abbrev given : ℕ → ℕ
      given i = shown (pair_found slot groups frames i)

      many : length (list_from 0 (length groups) given) ≡ length groups
      many = length-list_from 0 (length groups) given

      left : said ≡ accepted tt → after ≡ copied given list (length groups)
      unfolding lookups_outcome lookups_list pairs_shown copied
      left e = all_lent _ _ _ (outcome_accepted (lookups_questions slot groups (length frames) values covered) tt tt e).0

      pub answered_into : AnsweredInto shown slot groups frames list said after
      unfolding lookups_outcome lookups_list copied
      answered_into =
          record {
            answered = λ e i lt. let (long, read, few, known) = passed slot groups (length frames) values covered e in (
              pair_found slot groups frames i,
              single_known read i (known i lt),
              rw (left e)
                  (get_or-append (list_from 0 (length groups) given) (drop (length groups) list) 0 i (omega (arith, many, lt))
                  ∙ list_from_at given 0 0 (length groups) i lt ∙ ap given (omega arith)),
            );
            later = λ e. let (long, read, few, known) = passed slot groups (length frames) values covered e in (
              rw (left e) (copied_length given list (length groups) (fits long)),
              rw (left e)
                  (ap (λ k. drop k (copied given list (length groups))) (sym many)
                  ∙ drop-append_seam (list_from 0 (length groups) given) (drop (length groups) list)),
            );
            untouched = λ n i e. refused_lent (lookups_questions slot groups (length frames) values covered) tt n i _ _ e;
          }

-- the call keeps its promise
pub lookups_promise : (slot groups frames values covered : List ℕ)
    → LookupsPromise slot groups frames values covered (lookups_outcome slot groups (length frames) (length values) (length covered))
    (lookups_values slot groups frames values covered) (lookups_covered slot groups frames values covered)
unfolding read_outcome lookups_values lookups_covered
lookups_promise slot groups frames values covered =
    let n = length groups in
    let v = length values in
    let c = length covered in
    record {
      into_values = answered_into slot groups frames v c value_shown values (λ long. long.1);
      into_covered = answered_into slot groups frames v c covered_shown covered (λ long. long.2);
      exactly = exactly slot groups frames v c;
      too_short = λ short. refused_before slot groups (length frames) v c 1 0 (too_short_lem slot n (length frames) v c short);
      as_read = λ long number index e.
          refused_before slot groups (length frames) v c number index
          (as_read_lem slot n (length frames) v c long number index (refused_same (slot_questions slot) _ tt number index e));
      too_many = λ long read many. refused_before slot groups (length frames) v c 26 0 (too_many_lem slot n (length frames) v c long read many);
      first_bad = first_refused slot groups frames v c;
    }
