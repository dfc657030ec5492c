-- Twin records: a log that passes its questions holds no record twice. What is written of a log on file holds each record once, in the
-- order of first appearance, and nothing else does; it passes every question of a log, and a log without twins comes out as it was.
-- Assumes nothing.
use Prim.Native.Nat.{ℕ, zero, suc, ◌+◌, ◌*◌, ◌%◌, ◌≤◌, ◌<◌}
use mathlib.Core.Bool.{true, false, not, cond}
use mathlib.Core.List.Memᴰ
use mathlib.Core.List.{List, [], ◌∷◌, ◌++◌, Memᴰ}
use mathlib.Core.Logic.{◌↔◌, ⊎_elim}
use mathlib.Core.Path.{◌≡◌, refl, sym, ap, ◌∙◌, subst}
use native.Mathlib.Nat.{zero-add, add-zero, add-suc, le_refl}
use native.Mathlib.Numerals.{add-one}
use native.Mathlib.Omega.{arith}
use lib.Dec.{ltb, eqb}
use lib.ListN.{length, get_or, take, drop, length-append, length-drop}
use lib.Seq.{length-take-le, take_all, take_at, drop-append-add, get_or-take, get_or-drop}
use borrow.Author.Tests.{eqb-true, eq-eqb, ltb-true, ltb-false, le-leb, leb-true}
use Rattle.model.specs.Common.{list_from, every, joined, number_at}
use Rattle.model.specs.Log.{record_length, record_at, record_count, record_part, twins, is_first, firsts_of, without_twins}
use Rattle.model.specs.Questions.{ask, marked, span_questions, record_questions, most_records, twin_questions, file_questions, log_questions}
use Rattle.model.specs.Questions.{accepted, without_twins_questions}
use Rattle.model.specs.Calls.{without_twins_outcome, without_twins_buffer}
use Rattle.model.specs.Demands.{AllPass, Bytes, Distinct, FirstAt, EachOnce, TwinRecords, FilePromise}
use Rattle.theory.proofs.Tests.{true≢false, cases, and-true, true_and}
use Rattle.theory.proofs.Refusals.{all_nil, all_cons, all_head, all_tail, all_each, all_at, outcome_accepted, all_lent}
use Rattle.theory.proofs.Asking.{file_passed, woven_others, all_woven}
use Rattle.theory.proofs.SlotLaws.{member_at, list_from-of, take_more}
use Rattle.theory.proofs.Frames.{Heads, Chain, heads_map, chain_member, chain_later}
use Rattle.theory.proofs.Converse.{list_from_member, member_list_from}
use Rattle.theory.proofs.Every.{every_at, every_of, every_not}
use Rattle.theory.proofs.Windows.{list_from_chain, same_members, joined_member}

-- ---- members by number, and lists by their elements

-- a member has its number
member_number : {A : Type 0} (d a : A) (l : List A) → Memᴰ a l → (k : ℕ) × (k < length l) × (get_or l k d ≡ a)
member_number d a [] m = absurd (Memᴰ.not-nil m)
member_number d a (b ∷ l) m =
    ⊎_elim (λ (e : a ≡ b). (0, omega arith, sym e))
    (λ n. let (k, lt, is) = member_number d a l n in (suc k, omega arith, is)) (Memᴰ.cases_cons m)

-- lists with the same elements are equal
same_elements : (l m : List ℕ) → length l ≡ length m → ((k : ℕ) → k < length l → get_or l k 0 ≡ get_or m k 0) → l ≡ m
same_elements l m e same =
    sym (list_from-of 0 0 (λ k. get_or m k 0) l (λ k lt. rw (zero-add k) (sym (same k lt))))
    ∙ ap (λ (n : ℕ). list_from 0 n (λ k. get_or m k 0)) e
    ∙ list_from-of 0 0 (λ k. get_or m k 0) m (λ k lt. rw (zero-add k))

-- ---- the nine bytes of a record

module _ (log : List ℕ) where
  -- the bytes of a record are there
  record_fits : (i : ℕ) → i < record_count log → 9 * i + 9 ≤ length log
  unfolding record_count record_length
  record_fits i lt = omega arith

  pub length_part : (i : ℕ) → 9 * i + 9 ≤ length log → length (record_part log i) ≡ 9
  unfolding record_part record_length
  length_part i within = length-take-le 9 (drop (9 * i) log) (omega (arith, length-drop (9 * i) log))

  part_byte : (i k : ℕ) → k < 9 → get_or (record_part log i) k 0 ≡ get_or log (9 * i + k) 0
  unfolding record_part record_length
  part_byte i k lt = get_or-take 9 (drop (9 * i) log) k 0 lt ∙ get_or-drop (9 * i) log k 0

  -- twins are records with the same nine bytes
  twins_same : (i j : ℕ) → i < record_count log → j < record_count log → twins log i j ≡ true → record_part log i ≡ record_part log j
  unfolding twins record_length
  twins_same i j a b e =
      same_elements (record_part log i) (record_part log j) (length_part i (record_fits i a) ∙ sym (length_part j (record_fits j b)))
      (λ k lt.
      let nine : k < 9 = omega (arith, length_part i (record_fits i a)) in
      part_byte i k nine ∙ eqb-true _ _ (every_at _ 0 9 e k (omega arith) (omega arith)) ∙ sym (part_byte j k nine))

  same_twins : (i j : ℕ) → record_part log i ≡ record_part log j → twins log i j ≡ true
  unfolding twins record_length
  same_twins i j e =
      every_of _ 0 9
      (λ k low high.
      let nine : k < 9 = omega arith in
      eq-eqb _ _ (sym (part_byte i k nine) ∙ ap (λ (l : List ℕ). get_or l k 0) e ∙ part_byte j k nine))

  -- a first record equals none before it
  first_differs : (i : ℕ) → is_first log i ≡ true → (j : ℕ) → j < i → record_part log j ≡ record_part log i → ⊥
  unfolding is_first
  first_differs i first j lt e =
      let differ : not (twins log j i) ≡ true = every_at _ 0 i first j (omega arith) (omega arith) in
      true≢false (sym differ ∙ ap not (same_twins j i e))

  differs_first : (i : ℕ) → i < record_count log → ((j : ℕ) → j < i → record_part log j ≡ record_part log i → ⊥) → is_first log i ≡ true
  unfolding is_first
  differs_first i lt differ =
      every_of _ 0 i
      (λ j low high.
      cases (twins log j i) (λ t. absurd (differ j (omega arith) (twins_same j i (omega arith) lt t))) (λ t. ap not t))

  -- one that is not equals one before it
  not_first : (i : ℕ) → i < record_count log → is_first log i ≡ false → (j : ℕ) × (j < i) × (record_part log j ≡ record_part log i)
  unfolding is_first
  not_first i lt other =
      let (j, low, high, is) = every_not _ 0 i other in
      cases (twins log j i) (λ t. (j, omega arith, twins_same j i (omega arith) lt t)) (λ t. absurd (true≢false (sym (ap not t) ∙ is)))

  -- so that every record has a first one like it
  first_of : (m i : ℕ) → i < m → i < record_count log
      → (f : ℕ) × (f < record_count log) × (is_first log f ≡ true) × (record_part log f ≡ record_part log i)
  first_of zero i below lt = absurd (omega arith)
  first_of (suc m) i below lt =
      cases (is_first log i) (λ t. (i, lt, t, refl))
      (λ t.
      let (j, less, same) = not_first i lt t in
      let (f, inside, first, is) = first_of m j (omega arith) (omega arith) in (f, inside, first, is ∙ same))

  -- no two records are equal exactly where each is a first one
  distinct_firsts : Distinct log → (i : ℕ) → i < record_count log → is_first log i ≡ true
  distinct_firsts apart i lt = differs_first i lt (λ j less. apart j i less lt)

  firsts_distinct : ((i : ℕ) → i < record_count log → is_first log i ≡ true) → Distinct log
  firsts_distinct firsts i j less lt = first_differs j (firsts j lt) i less

  -- the nine bytes appear first in one place
  one_first : (part : List ℕ) (i j : ℕ) → FirstAt log part i → FirstAt log part j → i ≡ j
  one_first part i j f g =
      cases (ltb i j) (λ t. absurd (g.not_before i (ltb-true i j t) f.same))
      (λ t.
      cases (ltb j i) (λ u. absurd (f.not_before j (ltb-true j i u) g.same))
      (λ u. omega (arith, ltb-false i j t, ltb-false j i u)))

-- ---- what is left

module _ (log : List ℕ) where
  abbrev Kept : ℕ → Type 0
  Kept i = (i < record_count log) × (is_first log i ≡ true)

  -- the indices of first records among `count`, from one on
  abbrev kept_from : ℕ → ℕ → List ℕ
  kept_from from count = joined (λ i. cond (is_first log i) (i ∷ []) []) (list_from from count (λ i. i))

  -- they rise, and each is that of a first record
  kept_from_lem : (from count : ℕ) → from + count ≡ record_count log
      → Chain Kept ◌<◌ (kept_from from count) × Heads (λ i. from ≤ i) (kept_from from count)
  unfolding joined list_from
  kept_from_lem from zero e = (tt, tt)
  kept_from_lem from (suc count) e =
      let (rest, later) = kept_from_lem (suc from) count (omega arith) in
      cases (is_first log from) (λ t. rw t (((omega arith, t), later, rest), le_refl from))
      (λ t. rw t (rest, heads_map {P = λ i. suc from ≤ i} {Q = λ i. from ≤ i} (kept_from (suc from) count) (λ i le. omega arith) later))

  abbrev kept : List ℕ
  kept = firsts_of log (record_count log)

  kept_chain : Chain Kept ◌<◌ kept
  unfolding firsts_of
  kept_chain = (kept_from_lem 0 (record_count log) (zero-add _)).0

  is_kept : (i : ℕ) → i < record_count log → is_first log i ≡ true → Memᴰ i kept
  unfolding firsts_of
  is_kept i lt first =
      joined_member _ (list_from 0 (record_count log) (λ i. i)) i i (list_from_member (λ i. i) 0 (record_count log) i (omega arith) (omega arith))
      (rw first (Memᴰ.head refl))

  -- the place of an index, and so of its record
  abbrev at : ℕ → ℕ
  at k = get_or kept k 0

  kept_at : (k : ℕ) → k < length kept → Kept (at k)
  kept_at k lt = chain_member Kept ◌<◌ kept kept_chain (at k) (member_at 0 kept k lt)

  kept_rise : (l : List ℕ) → Chain Kept ◌<◌ l → (i j : ℕ) → i < j → j < length l → get_or l i 0 < get_or l j 0
  kept_rise [] c i j less lt = absurd (omega arith)
  kept_rise (a ∷ l) c i zero less lt = absurd (omega arith)
  kept_rise (a ∷ l) c zero (suc j) less lt =
      chain_later Kept ◌<◌ (λ x y z k p q. omega arith) a l c.1 c.2 (get_or l j 0) (member_at 0 l j (omega arith))
  kept_rise (a ∷ l) c (suc i) (suc j) less lt = kept_rise l c.2 i j (omega arith) (omega arith)

  -- no more records are kept than there are
  kept_few : (from count : ℕ) → length (kept_from from count) ≤ count
  unfolding joined list_from
  kept_few from zero = omega arith
  kept_few from (suc count) =
      let rest = kept_few (suc from) count in
      cases (is_first log from) (λ t. rw t (omega arith)) (λ t. rw t (omega arith))

  -- records that are joined, by their number
  length_joined : (ks : List ℕ) → ((k : ℕ) → Memᴰ k ks → k < record_count log) → length (joined (record_part log) ks) ≡ 9 * length ks
  unfolding joined
  length_joined [] inside = refl
  length_joined (k ∷ ks) inside =
      let here = length_part log k (record_fits log k (inside k (Memᴰ.head refl))) in
      let rest = length_joined ks (λ j m. inside j (Memᴰ.tail m)) in
      omega (arith, length-append (record_part log k) (joined (record_part log) ks))

  pub joined_part : (ks : List ℕ) → ((k : ℕ) → Memᴰ k ks → k < record_count log) → (k : ℕ) → k < length ks
      → record_part (joined (record_part log) ks) k ≡ record_part log (get_or ks k 0)
  unfolding joined record_part record_length
  joined_part [] inside k lt = absurd (omega arith)
  joined_part (i ∷ ks) inside zero lt =
      take_at (record_part log i) (joined (record_part log) ks) 9 (length_part log i (record_fits log i (inside i (Memᴰ.head refl))))
  joined_part (i ∷ ks) inside (suc k) lt =
      let here = length_part log i (record_fits log i (inside i (Memᴰ.head refl))) in
      let next : 9 * suc k ≡ length (record_part log i) + 9 * k = omega arith in
      ap (take 9)
      (ap (λ (n : ℕ). drop n (record_part log i ++ joined (record_part log) ks)) next
      ∙ drop-append-add (record_part log i) (joined (record_part log) ks) (9 * k))
      ∙ joined_part ks (λ j m. inside j (Memᴰ.tail m)) k (omega arith)

  pub joined_count : (ks : List ℕ) → ((k : ℕ) → Memᴰ k ks → k < record_count log) → record_count (joined (record_part log) ks) ≡ length ks
  unfolding record_count record_length
  joined_count ks inside = omega (arith, length_joined ks inside)

  abbrev out : List ℕ
  out = without_twins log

  kept_inside : (k : ℕ) → Memᴰ k kept → k < record_count log
  kept_inside k m = (chain_member Kept ◌<◌ kept kept_chain k m).0

  out_length : length out ≡ 9 * length kept
  unfolding without_twins
  out_length = length_joined kept kept_inside

  out_count : record_count out ≡ length kept
  unfolding without_twins
  out_count = joined_count kept kept_inside

  out_part : (k : ℕ) → k < record_count out → record_part out k ≡ record_part log (at k)
  unfolding without_twins
  out_part k lt = joined_part kept kept_inside k (rw out_count at lt)

  out_first : (k : ℕ) → k < record_count out → FirstAt log (record_part out k) (at k)
  out_first k lt =
      let (inside, first) = kept_at k (rw out_count at lt) in
      let same = out_part k lt in
      record {
        inside = inside;
        same = sym same;
        not_before = λ j less e. first_differs log (at k) first j less (e ∙ same);
      }

  out_rise : (k l : ℕ) → k < l → l < record_count out → at k < at l
  out_rise k l less lt = kept_rise kept kept_chain k l less (rw out_count at lt)

  -- each record once, in the order of first appearance
  pub each_once_lem : EachOnce log out
  unfolding record_length
  each_once_lem =
      record {
        whole = out_length ∙ ap (λ (n : ℕ). 9 * n) (sym out_count);
        once = λ k l less lt e.
            let here = out_first k (omega arith) in
            let there = out_first l lt in
            there.not_before (at k) (out_rise k l less lt) (here.same ∙ e);
        all = λ i lt.
            let (f, inside, first, same) = first_of log (suc i) i (omega arith) lt in
            let (k, few, is) = member_number 0 f kept (is_kept f inside first) in
            let there : k < record_count out = rw out_count few in
            (k, there, out_part k there ∙ ap (record_part log) is ∙ same);
        only = λ k lt. (at k, out_first k lt);
        in_order = λ k l i j less lt f g.
            let low = one_first log (record_part out k) i (at k) f (out_first k (omega arith)) in
            let high = one_first log (record_part out l) j (at l) g (out_first l lt) in
            let rise = out_rise k l less lt in
            omega arith;
      }

  -- ---- and nothing else does

  abbrev First : List ℕ → Type 0
  First part = (i : ℕ) × FirstAt log part i

  abbrev Sooner : List ℕ → List ℕ → Type 0
  Sooner part other = (i j : ℕ) → FirstAt log part i → FirstAt log other j → i < j

  abbrev parts : List ℕ → List (List ℕ)
  parts records = list_from 0 (record_count records) (record_part records)

  parts_chain : (records : List ℕ) → EachOnce log records → Chain First Sooner (parts records)
  parts_chain records once =
      list_from_chain First Sooner (record_part records) 0 (record_count records) (λ k low high. once.only k (omega arith))
      (λ k low high i j. once.in_order k (suc k) i j (omega arith) (omega arith))

  parts_within : (records others : List ℕ) → EachOnce log records → EachOnce log others → (part : List ℕ)
      → Memᴰ part (parts records) → Memᴰ part (parts others)
  parts_within records others once again part m =
      let (k, low, high, is) = member_list_from (record_part records) 0 (record_count records) part m in
      let (i, first) = once.only k (omega arith) in
      let (l, lt, same) = again.all i first.inside in
      subst (λ (p : List ℕ). Memᴰ p (parts others)) (same ∙ first.same ∙ sym is)
      (list_from_member (record_part others) 0 (record_count others) l (omega arith) (omega arith))

-- whole records are their parts, one after the other
parts_joined : (log : List ℕ) (from count : ℕ)
    → joined (λ p. p) (list_from from count (record_part log)) ≡ take (9 * count) (drop (9 * from) log)
unfolding joined list_from record_part record_length
parts_joined log from zero = refl
parts_joined log from (suc count) =
    let more : 9 * suc count ≡ 9 + 9 * count = omega arith in
    let next : 9 * suc from ≡ 9 * from + 9 = omega arith in
    ap (λ (l : List ℕ). take 9 (drop (9 * from) log) ++ l) (parts_joined log (suc from) count ∙ rw next)
    ∙ sym (take_more 9 (9 * count) (9 * from) log) ∙ rw more

whole_joined : (log : List ℕ) → length log ≡ record_length * record_count log → joined (λ p. p) (parts log log) ≡ log
unfolding record_length
whole_joined log whole = parts_joined log 0 (record_count log) ∙ take_all (9 * record_count log) log (omega arith)

-- only one list of whole records has each record once
pub only_once : (log records others : List ℕ) → EachOnce log records → EachOnce log others → records ≡ others
only_once log records others once again =
    sym (whole_joined records once.whole)
    ∙ ap (joined (λ p. p))
    (same_members (First log) (Sooner log)
    (λ p q r second below above i k f h. let (j, g) = second in let a = below i j f g in let b = above j k g h in omega arith)
    (λ p q one two below above. let (i, f) = one in let (j, g) = two in let a = below i j f g in let b = above j i g f in omega arith)
    (parts log records) (parts log others) (parts_chain log records once) (parts_chain log others again)
    (parts_within log records others once again) (parts_within log others records again once))
    ∙ whole_joined others again.whole

-- whole records without twins hold each of their records once
own_once : (log : List ℕ) → length log ≡ record_length * record_count log → Distinct log → EachOnce log log
own_once log whole apart =
    record {
      whole = whole;
      once = apart;
      all = λ i lt. (i, lt, refl);
      only = λ k lt. (k, own k lt);
      in_order = λ k l i j less lt f g.
          let low = one_first log (record_part log k) i k f (own k (omega arith)) in
          let high = one_first log (record_part log l) j l g (own l lt) in
          omega arith;
    }
  where
    own : (k : ℕ) → k < record_count log → FirstAt log (record_part log k) k
    own k lt = record { inside = lt; same = refl; not_before = λ j less. apart j k less lt }

pub unchanged : (log : List ℕ) → length log ≡ record_length * record_count log → Distinct log → without_twins log ≡ log
unchanged log whole apart = only_once log (without_twins log) log (each_once_lem log) (own_once log whole apart)

-- twice is once
pub twice : (log : List ℕ) → without_twins (without_twins log) ≡ without_twins log
twice log = let once = each_once_lem log in unchanged (without_twins log) once.whole once.once

-- ---- the questions of a log

-- records with the same nine bytes pass the same questions
module _ (log other : List ℕ) (i j : ℕ) (same : record_part log i ≡ record_part other j) where
  same_byte : (d : ℕ) → d < 9 → get_or log (9 * i + d) 0 ≡ get_or other (9 * j + d) 0
  same_byte d lt = sym (part_byte log i d lt) ∙ ap (λ (l : List ℕ). get_or l d 0) same ∙ part_byte other j d lt

  same_number : (d : ℕ) → suc d < 9 → number_at 2 log (9 * i + d) ≡ number_at 2 other (9 * j + d)
  unfolding number_at
  same_number d lt =
      let low = same_byte d (omega arith) in
      let high = rw (add-suc (9 * i) d, add-suc (9 * j) d) at (same_byte (suc d) lt) in
      omega arith

  pub same_record : record_at log (9 * i) ≡ record_at other (9 * j)
  unfolding record_at
  same_record = λ k.
      record {
        group = same_byte 2 (omega arith) k;
        first = same_number 3 (omega arith) k;
        last = same_number 5 (omega arith) k;
        value = same_number 7 (omega arith) k;
      }

  same_mark : marked log (9 * i) 0x4C 0x44 ≡ marked other (9 * j) 0x4C 0x44
  unfolding marked
  same_mark =
      let first = rw (add-zero (9 * i), add-zero (9 * j)) at (same_byte 0 (omega arith)) in
      let second = rw (add-one (9 * i), add-one (9 * j)) at (same_byte 1 (omega arith)) in
      rw (first, second)

  same_passed : AllPass (record_questions log i) → AllPass (record_questions other j)
  unfolding record_questions span_questions ask record_length
  same_passed all =
      let span = all_tail _ _ all in
      all_cons _ _ (sym same_mark ∙ all_head _ _ all)
      (rw (← same_record)
      (all_cons _ _ (all_head _ _ span)
      (all_cons _ _ (all_head _ _ (all_tail _ _ span)) (all_cons _ _ (all_head _ _ (all_tail _ _ (all_tail _ _ span))) all_nil))))

-- a log passes its questions exactly where it passes those of a log on file and holds no record twice
pub exactly : (log : List ℕ) → AllPass (log_questions log) ↔ (AllPass (file_questions log) × Distinct log)
unfolding log_questions file_questions twin_questions ask
exactly log = (
  λ all.
      let twin = woven_others (record_questions log) (twin_questions log) 0 (record_count log) (all_tail _ _ (all_tail _ _ all)) in (
        file_passed log all,
        firsts_distinct log
            (λ i lt. all_head _ _ (all_at (twin_questions log) 0 (record_count log) twin i (omega arith) (omega arith))),
      ),
  λ (file, apart).
      let rest = all_tail _ _ file in
      all_cons _ _ (all_head _ _ file)
      (all_cons _ _ (all_head _ _ rest)
      (all_woven (record_questions log) (twin_questions log) 0 (record_count log) (all_tail _ _ rest)
      (all_each (twin_questions log) 0 (record_count log)
      (λ j a b. all_cons _ _ (distinct_firsts log apart j (omega arith)) all_nil)))),
)

-- no more records of a log than it has, joined by their indices, pass what the log passes
pub joined_passes : (log ks : List ℕ) → ((k : ℕ) → Memᴰ k ks → k < record_count log) → length ks ≤ record_count log
    → AllPass (file_questions log) → AllPass (file_questions (joined (record_part log) ks))
unfolding file_questions ask record_length
joined_passes log ks inside no_more file =
    let rest = all_tail _ _ file in
    let few = leb-true (record_count log) most_records (all_head _ _ rest) in
    let out : List ℕ = joined (record_part log) ks in
    let count = joined_count log ks inside in
    all_cons _ _ (eq-eqb (length out % 9) 0 (omega (arith, length_joined log ks inside)))
    (all_cons _ _ (le-leb (record_count out) most_records (omega arith))
    (all_each (record_questions out) 0 (record_count out)
    (λ k a b.
    let lt : k < length ks = omega arith in
    let there = inside (get_or ks k 0) (member_at 0 ks k lt) in
    same_passed log out (get_or ks k 0) k (sym (joined_part log ks inside k lt))
    (all_at (record_questions log) 0 (record_count log) (all_tail _ _ rest) (get_or ks k 0) (omega arith) (omega arith)))))

-- what is written of a log on file passes every question of a log
pub passes : (log : List ℕ) → AllPass (file_questions log) → AllPass (log_questions (without_twins log))
unfolding without_twins firsts_of
passes log file =
    (exactly (without_twins log)).1
    (joined_passes log (kept log) (kept_inside log) (kept_few log 0 (record_count log)) file, (each_once_lem log).once)

-- numbers in two bytes are equal where the bytes are
two_same : (log : List ℕ) (p q : ℕ) → Bytes log → number_at 2 log p ≡ number_at 2 log q
    → (get_or log p 0 ≡ get_or log q 0) × (get_or log (suc p) 0 ≡ get_or log (suc q) 0)
unfolding number_at
two_same log p q small e = (
  omega (arith, small p, small q, small (suc p), small (suc q)),
  omega (arith, small p, small q, small (suc p), small (suc q)),
)

-- records of equal fields have the same nine bytes, where both begin with the mark
fields_same : (log : List ℕ) (i j : ℕ) → Bytes log → i < record_count log → j < record_count log → AllPass (record_questions log i)
    → AllPass (record_questions log j) → record_at log (record_length * i) ≡ record_at log (record_length * j)
    → record_part log i ≡ record_part log j
unfolding record_questions ask marked record_at record_length twins every
fields_same log i j small a b one two e =
    let (mark, second) = and-true _ _ (all_head _ _ one) in
    let (its-mark, its-second) = and-true _ _ (all_head _ _ two) in
    let (first, first-high) = two_same log (9 * i + 3) (9 * j + 3) small (ap (λ r. r.first) e) in
    let (last, last-high) = two_same log (9 * i + 5) (9 * j + 5) small (ap (λ r. r.last) e) in
    let (load, load-high) = two_same log (9 * i + 7) (9 * j + 7) small (ap (λ r. r.value) e) in
    let byte : (k p q : ℕ) → p ≡ 9 * i + k → q ≡ 9 * j + k → get_or log p 0 ≡ get_or log q 0
    → eqb (get_or log (9 * i + k) 0) (get_or log (9 * j + k) 0) ≡ true =
    λ k p q x y is. eq-eqb _ _ (sym (ap (λ (n : ℕ). get_or log n 0) x) ∙ is ∙ ap (λ (n : ℕ). get_or log n 0) y) in
    twins_same log i j a b
    (true_and _ _ (byte 0 (9 * i) (9 * j) (omega arith) (omega arith) (eqb-true _ _ mark ∙ sym (eqb-true _ _ its-mark)))
    (true_and _ _ (byte 1 (suc (9 * i)) (suc (9 * j)) (omega arith) (omega arith) (eqb-true _ _ second ∙ sym (eqb-true _ _ its-second)))
    (true_and _ _ (byte 2 (9 * i + 2) (9 * j + 2) refl refl (ap (λ r. r.group) e))
    (true_and _ _ (byte 3 (9 * i + 3) (9 * j + 3) refl refl first)
    (true_and _ _ (byte 4 (suc (9 * i + 3)) (suc (9 * j + 3)) (omega arith) (omega arith) first-high)
    (true_and _ _ (byte 5 (9 * i + 5) (9 * j + 5) refl refl last)
    (true_and _ _ (byte 6 (suc (9 * i + 5)) (suc (9 * j + 5)) (omega arith) (omega arith) last-high)
    (true_and _ _ (byte 7 (9 * i + 7) (9 * j + 7) refl refl load)
    (true_and _ _ (byte 8 (suc (9 * i + 7)) (suc (9 * j + 7)) (omega arith) (omega arith) load-high) refl)))))))))

-- so no record of a log that passes its questions counts twice
pub none_twice_lem : (log : List ℕ) → Bytes log → AllPass (log_questions log) → (i j : ℕ) → i < j → j < record_count log
    → record_at log (record_length * i) ≡ record_at log (record_length * j) → ⊥
unfolding file_questions
none_twice_lem log small all i j less lt e =
    let (file, apart) = (exactly log).0 all in
    let asked = all_at (record_questions log) 0 (record_count log) (all_tail _ _ (all_tail _ _ file)) in
    apart i j less lt
    (fields_same log i j small (omega arith) lt (asked i (omega arith) (omega arith)) (asked j (omega arith) (omega arith)) e)

pub twin_records : TwinRecords
twin_records =
    record {
      exactly = exactly;
      none_twice = none_twice_lem;
      each_once = λ log out.
          (λ once. only_once log out (without_twins log) once (each_once_lem log), λ e. subst (EachOnce log) (sym e) (each_once_lem log));
      passes = passes;
      unchanged = unchanged;
      twice = twice;
    }

-- the call for logs on file keeps its promise
pub file_kept : (log buffer : List ℕ) → FilePromise log (without_twins_outcome log (length buffer)) (without_twins_buffer log buffer)
unfolding without_twins_outcome without_twins_buffer without_twins_questions
file_kept log buffer = record { each_once = λ n e. (by n e).0; passes = λ n e. (by n e).1 }
  where
    by : (n : ℕ) → without_twins_outcome log (length buffer) ≡ accepted n
        → EachOnce log (take n (without_twins_buffer log buffer)) × AllPass (log_questions (take n (without_twins_buffer log buffer)))
    by n e =
        let (all, is) = outcome_accepted (without_twins_questions log (length buffer)) (length (without_twins log)) n e in
        rw (
          all_lent (without_twins_questions log (length buffer)) (without_twins log ++ drop (length (without_twins log)) buffer) buffer all,
          take_at (without_twins log) (drop (length (without_twins log)) buffer) n (sym is),
        )
        (each_once_lem log, passes log (all_tail _ _ all))
