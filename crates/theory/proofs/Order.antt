-- Any order of the log: the aggregate over the records that meet a stretch of frames does not see their order, whatever the kind. A
-- log that has passed its questions is asked for nothing else, so that no call sees the order. Assumes nothing.
use Prim.Native.Nat.{ℕ, zero, suc, ◌+◌, ◌-◌, ◌*◌, ◌/◌, ◌≤◌, ◌<◌, min, max}
use mathlib.Core.Bool.{true, ◌&&◌, cond}
use mathlib.Core.List.{List, [], ◌∷◌, ◌++◌, append-nil, map, Memᴰ, append_assoc}
use mathlib.Core.List.Permᴰ
use mathlib.Core.List.{Permᴰ}
use mathlib.Core.Logic.{inl, inr}
use mathlib.Core.Option.{Option, none, some}
use mathlib.Core.Path.{◌≡◌, refl, sym, ap, ap₂, ◌∙◌, subst}
use native.Mathlib.Nat.{zero-add}
use native.Mathlib.Omega.{arith}
use lib.Dec.{ltb, eqb}
use borrow.Author.Tests.{ltb-true, ltb-false}
use lib.ListN.{length, get_or, take, drop}
use lib.Seq.{take-append-le}
use Rattle.model.specs.Common.{list_from, joined}
use Rattle.model.specs.Spans.{Span, group_count, frame_count, meets}
use Rattle.model.specs.Log.{record_length, record_at, record_count, records, record_part, meeting, sum, aggregate, aggregated, value}
use Rattle.model.specs.Segments.{segments_of, segments}
use Rattle.model.specs.Windows.{bound_in, Window, windows, window_row, group_rows, span_rows}
use Rattle.model.specs.Slot.{slot_length, slot_bytes}
use Rattle.model.specs.Questions.{Question, Outcome, refused, accepted, ask, ask_room, outcome, lent, kind_known, log_questions, most_segments, segments_questions, enough_rows, ask_width, width_questions}
use Rattle.model.specs.Questions.{with_bound, window_rows, rule_question, rows_question, ruled_order, ruled_questions}
use Rattle.model.specs.Calls.{segment_of, log_segments, segments_outcome, filled_list, Counts, answer_of, counts_of, query_outcome, query_slot}
use Rattle.model.specs.Calls.{bounded_query, ruled_answer, ruled_mark, ruled_outcome, ruled_slot}
use Rattle.model.specs.Demands.{AllPass, Bytes, Distinct, Shuffled, SameAnswer, AnyOrder, ForAnyOrder, SegmentsPromise}
use Rattle.model.specs.declared.Bound.{Bound}
use Rattle.model.specs.declared.Query.{Query}
use Rattle.model.specs.declared.RuledQuery.{RuledQuery}
use Rattle.model.specs.declared.Segment.{Segment}
use Rattle.theory.proofs.Tests.{cases}
use Rattle.theory.proofs.Refusals.{all_cons, outcome_accepted, outcome_behind, all_lent, lent_behind, all_append}
use Rattle.theory.proofs.Converse.{member_list_from}
use Rattle.theory.proofs.SlotLaws.{member_at, length-list_from, list_from-of, long_slot_bytes}
use Rattle.theory.proofs.Lists.{list_from_cong, map-list_from}
use Rattle.theory.proofs.Permuted.{length_order, fold_order, fold_turned, member_order, Once, once_order, each_in_the_other, once_at, once-list_from}
use Rattle.theory.proofs.Ruled.{bound_back, bound_outcome, bound_slot, rows_decide, rows_number}
use Rattle.theory.proofs.Twins.{joined_part, joined_count, same_record, exactly, joined_passes, none_twice_lem}

-- ---- the aggregate

add_turned : (a b c : ℕ) → a + (b + c) ≡ b + (a + c)
add_turned a b c = omega arith

min_turned : (a b c : ℕ) → min a (min b c) ≡ min b (min a c)
min_turned a b c = omega arith

max_turned : (a b c : ℕ) → max a (max b c) ≡ max b (max a c)
max_turned a b c = omega arith

-- the loads behind the first one, in another order
aggregate_behind : (kind x : ℕ) {xs ys : List ℕ} → Permᴰ xs ys → aggregate kind x xs ≡ aggregate kind x ys
unfolding aggregate sum
aggregate_behind zero x p = ap (λ n. x + n) (fold_order ◌+◌ add_turned 0 p)
aggregate_behind (suc zero) x p = ap suc (length_order p)
aggregate_behind (suc (suc zero)) x p = fold_order min min_turned x p
aggregate_behind (suc (suc (suc zero))) x p = fold_order max max_turned x p
aggregate_behind (suc (suc (suc (suc zero)))) x p =
    ap₂ (λ s n. 100 * (x + s) / suc n) (fold_order ◌+◌ add_turned 0 p) (length_order p)
aggregate_behind (suc (suc (suc (suc (suc k))))) x p = refl

-- the first two loads, in the other order
aggregate_turned : (kind x y : ℕ) (l : List ℕ) → aggregate kind x (y ∷ l) ≡ aggregate kind y (x ∷ l)
unfolding aggregate sum
aggregate_turned zero x y l = add_turned x y (sum l)
aggregate_turned (suc zero) x y l = refl
aggregate_turned (suc (suc zero)) x y l = fold_turned min min_turned (λ a b. omega arith) x y l
aggregate_turned (suc (suc (suc zero))) x y l = fold_turned max max_turned (λ a b. omega arith) x y l
aggregate_turned (suc (suc (suc (suc zero)))) x y l = ap (λ s. 100 * s / suc (suc (length l))) (add_turned x y (sum l))
aggregate_turned (suc (suc (suc (suc (suc k))))) x y l = refl

aggregated_order : (kind : ℕ) {xs ys : List ℕ} → Permᴰ xs ys → aggregated kind xs ≡ aggregated kind ys
unfolding aggregated
aggregated_order kind Permᴰ.nil = refl
aggregated_order kind (Permᴰ.cons {a} {b} {l₁} {l₂} e p) = ap some (ap (λ x. aggregate kind x l₁) e ∙ aggregate_behind kind b p)
aggregated_order kind (Permᴰ.swap {a} {b} {a'} {b'} {l} e f) =
    ap some (aggregate_turned kind a b l ∙ ap₂ (λ x y. aggregate kind x (y ∷ l)) f e)
aggregated_order kind (Permᴰ.trans p q) = aggregated_order kind p ∙ aggregated_order kind q

-- ---- the records that meet a stretch

module _ (g from to : ℕ) where
  -- the loads of those that do, of a record and those behind it
  abbrev with : Span ℕ → List ℕ → List ℕ
  with r l = cond (meets r g from to) (r.value ∷ l) l

  with_order : (r : Span ℕ) {xs ys : List ℕ} → Permᴰ xs ys → Permᴰ (with r xs) (with r ys)
  with_order r p = cases (meets r g from to) (λ t. rw t (Permᴰ.cons refl p)) (λ t. rw t p)

  with_turned : (r s : Span ℕ) (l : List ℕ) → Permᴰ (with r (with s l)) (with s (with r l))
  with_turned r s l =
      cases (meets r g from to)
      (λ t. cases (meets s g from to) (λ u. rw (t, u) (Permᴰ.swap refl refl)) (λ u. rw (t, u) (Permᴰ.refl _)))
      (λ t. rw t (Permᴰ.refl _))

  meeting_order : {rs ss : List (Span ℕ)} → Permᴰ rs ss → Permᴰ (meeting rs g from to) (meeting ss g from to)
  unfolding meeting
  meeting_order Permᴰ.nil = Permᴰ.nil
  meeting_order (Permᴰ.cons {a} {b} {l₁} {l₂} e p) =
      subst (λ (r : Span ℕ). Permᴰ (with a (meeting l₁ g from to)) (with r (meeting l₂ g from to))) e (with_order a (meeting_order p))
  meeting_order (Permᴰ.swap {a} {b} {a'} {b'} {l} e f) =
      let loads : List ℕ = meeting l g from to in
      subst (λ (r : Span ℕ). Permᴰ (with a (with b loads)) (with r (with b' loads))) f
      (subst (λ (r : Span ℕ). Permᴰ (with a (with b loads)) (with b (with r loads))) e (with_turned a b loads))
  meeting_order (Permᴰ.trans p q) = Permᴰ.trans (meeting_order p) (meeting_order q)

-- ---- segments and rows by windows

module _ (kind : ℕ) {rs ss : List (Span ℕ)} (same : Permᴰ rs ss) where
  -- the value of a stretch of frames, and so that of a frame
  stretch_order : (g a b : ℕ) → aggregated kind (meeting rs g a b) ≡ aggregated kind (meeting ss g a b)
  stretch_order g a b = aggregated_order kind (meeting_order g a b same)

  pub value_order : (width : ℕ) → value kind width rs ≡ value kind width ss
  unfolding value
  value_order width i g f = cond (ltb g group_count && ltb f frame_count) (stretch_order g (f - (width - 1)) f i) none

  pub segments_order : (width : ℕ) → segments kind width rs ≡ segments kind width ss
  unfolding segments
  segments_order width = ap (λ val. segments_of eqb val group_count frame_count) (value_order width)

  window_order : (g : ℕ) (w : Window) → window_row kind rs g w ≡ window_row kind ss g w
  unfolding window_row
  window_order g w = rw (stretch_order g w.first w.last, window_row)

  pub rows_order : (ws : List Window) → span_rows kind rs ws ≡ span_rows kind ss ws
  unfolding span_rows group_rows
  rows_order ws i = joined (λ g. joined (λ w. window_order g w i) ws) (list_from 0 group_count (λ g. g))

-- ---- the calls

module _ {log other : List ℕ} (both : Shuffled log other) where
  pub log_segments_order : (kind width : ℕ) → log_segments kind width log ≡ log_segments kind width other
  unfolding log_segments
  log_segments_order kind width = segments_order kind both.same_records width

  answer_order : (q : Query) → answer_of q log ≡ answer_of q other
  unfolding answer_of
  answer_order q = rw (log_segments_order q.kind q.width)

  enough_order : (q : Query) → enough_rows q log ≡ enough_rows q other
  unfolding enough_rows
  enough_order q = rw (segments_order q.kind both.same_records q.width)

  window_rows_order : (q : RuledQuery) → window_rows q log ≡ window_rows q other
  unfolding window_rows
  window_rows_order q = rows_order q.kind both.same_records (windows q)

  -- what a query would write, and 10 or 20
  ruled_order_lem : (q : RuledQuery) → (ruled_answer q log ≡ ruled_answer q other) × (rows_question q log ≡ rows_question q other)
  unfolding ruled_answer rows_question
  ruled_order_lem q = by (bound_in q.rule) refl
    where
      by : (o : Option Bound) → bound_in q.rule ≡ o
          → (ruled_answer q log ≡ ruled_answer q other) × (rows_question q log ≡ rows_question q other)
      by none e = (rw (e, ruled_answer, window_rows_order q), rw (e, rows_question, window_rows_order q))
      by (some bound) e =
          (rw (e, ruled_answer, answer_order (with_bound q bound)), rw (e, rows_question, enough_order (with_bound q bound)))

  -- the questions of the two logs may be left out
  outcome_order : {A : Type 0} (before rest : List Question) (a : A)
      → outcome (before ++ (log_questions log ++ rest)) a ≡ outcome (before ++ (log_questions other ++ rest)) a
  unfolding outcome
  outcome_order [] rest a =
      outcome_behind (log_questions log) rest a both.passes ∙ sym (outcome_behind (log_questions other) rest a both.other_passes)
  outcome_order (p ∷ before) rest a = ap (λ o. cond p.passed o (refused p.number p.index)) (outcome_order before rest a)

  lent_order : {A : Type 0} (before rest : List Question) (given kept : A)
      → lent (before ++ (log_questions log ++ rest)) given kept ≡ lent (before ++ (log_questions other ++ rest)) given kept
  unfolding lent
  lent_order [] rest given kept =
      lent_behind (log_questions log) rest given kept both.passes
      ∙ sym (lent_behind (log_questions other) rest given kept both.other_passes)
  lent_order (p ∷ before) rest given kept = ap (λ o. cond p.passed o kept) (lent_order before rest given kept)

  -- the segment call
  segments_outcome_order : (kind width room : ℕ) → segments_outcome kind width log room ≡ segments_outcome kind width other room
  unfolding segments_outcome segments_questions
  segments_outcome_order kind width room =
      rw (log_segments_order kind width)
      (rw (append-nil (log_questions log), append-nil (log_questions other)) at
      (outcome_order (ask_room most_segments room ∷ ask 2 0 (kind_known kind) ∷ ask_width width ∷ []) [] (length (log_segments kind width other))))

  list_order : (kind width : ℕ) (list : List Segment) → filled_list kind width log list ≡ filled_list kind width other list
  unfolding filled_list segments_questions
  list_order kind width list =
      rw (log_segments_order kind width)
      (rw (append-nil (log_questions log), append-nil (log_questions other)) at
      (lent_order (ask_room most_segments (length list) ∷ ask 2 0 (kind_known kind) ∷ ask_width width ∷ []) []
      (map segment_of (log_segments kind width other) ++ drop (length (log_segments kind width other)) list) list))

  -- a query by a rule
  abbrev ahead : RuledQuery → ℕ → List Question
  ahead q room = ask_room slot_length room ∷ ask 2 0 (kind_known q.kind) ∷ rule_question q ∷ width_questions q

  ruled_outcome_order : (q : RuledQuery) (room : ℕ) → ruled_outcome q log room ≡ ruled_outcome q other room
  unfolding ruled_outcome ruled_questions ruled_order
  ruled_outcome_order q room =
      let (answer, decides) = ruled_order_lem q in
      rw (answer, decides, append_assoc (width_questions q) (log_questions log), append_assoc (width_questions q) (log_questions other))
      (outcome_order (ahead q room) (rows_question q other ∷ []) (counts_of (ruled_answer q other)))

  ruled_slot_order : (q : RuledQuery) (slot : List ℕ) → ruled_slot q log slot ≡ ruled_slot q other slot
  unfolding ruled_slot ruled_questions ruled_order
  ruled_slot_order q slot =
      let (answer, decides) = ruled_order_lem q in
      rw (answer, decides, append_assoc (width_questions q) (log_questions log), append_assoc (width_questions q) (log_questions other))
      (lent_order (ahead q (length slot)) (rows_question q other ∷ []) _ slot)

  -- by a bound
  query_outcome_order : (q : Query) (room : ℕ) → query_outcome q log room ≡ query_outcome q other room
  unfolding bounded_query
  query_outcome_order q room =
      sym (bound_outcome (bounded_query q) q.bound (bound_back q.bound) log room) ∙ ruled_outcome_order (bounded_query q) room
      ∙ bound_outcome (bounded_query q) q.bound (bound_back q.bound) other room

  query_slot_order : (q : Query) (slot : List ℕ) → query_slot q log slot ≡ query_slot q other slot
  unfolding bounded_query
  query_slot_order q slot =
      sym (bound_slot (bounded_query q) q.bound (bound_back q.bound) log slot) ∙ ruled_slot_order (bounded_query q) slot
      ∙ bound_slot (bounded_query q) q.bound (bound_back q.bound) other slot

-- ---- two queries

-- the first 768 bytes of the slot of a query that is accepted
first_bytes : (q : RuledQuery) (log slot : List ℕ) (counts : Counts) → ruled_outcome q log (length slot) ≡ accepted counts
    → take slot_length (ruled_slot q log slot)
    ≡ take slot_length (slot_bytes (ruled_mark q) q.kind (ruled_answer q log).error (ruled_answer q log).rows)
unfolding ruled_outcome ruled_slot
first_bytes q log slot counts ok =
    let (all, is) = outcome_accepted (ruled_questions q log (length slot)) (counts_of (ruled_answer q log)) counts ok in
    ap (take slot_length) (all_lent (ruled_questions q log (length slot)) _ slot all)
    ∙ take-append-le slot_length _ (drop slot_length slot) (long_slot_bytes (ruled_mark q) q.kind _ _)

same_answer : (q : RuledQuery) (log other slot otherSlot : List ℕ) → Shuffled log other
    → kind_known q.kind ≡ true → (rule_question q).passed ≡ true → AllPass (width_questions q)
    → slot_length ≤ length slot → slot_length ≤ length otherSlot
    → SameAnswer (ruled_outcome q log (length slot)) (ruled_slot q log slot)
    (ruled_outcome q other (length otherSlot)) (ruled_slot q other otherSlot)
unfolding ruled_order ask outcome
same_answer q log other slot otherSlot both known in_order_lem wide long long-too =
    let (answer, decides) = ruled_order_lem both q in
    let counts : Counts = counts_of (ruled_answer q log) in
    let here = rows_decide q log (length slot) long (all_cons _ _ known (all_cons _ _ in_order_lem (all_append (width_questions q) _ wide both.passes))) in
    let there : ruled_outcome q other (length otherSlot) ≡ outcome (rows_question q log ∷ []) counts
    = rows_decide q other (length otherSlot) long-too (all_cons _ _ known (all_cons _ _ in_order_lem (all_append (width_questions q) _ wide both.other_passes))) ∙ rw (answer, decides) in
    let (number, index) = rows_number q log in
    cases (rows_question q log).passed
    (λ t.
    let says = here ∙ rw t in
    let says-too = there ∙ rw t in
    inl (counts, says, says-too, first_bytes q log slot counts says ∙ rw answer (sym (first_bytes q other otherSlot counts says-too))))
    (λ t. inr ((rows_question q log).number, number, here ∙ rw (t, index), there ∙ rw (t, index)))

-- ---- what the calls promise

pub segments_any_order : (kind width : ℕ) (log : List ℕ) (list : List Segment) (says : Outcome ℕ) (after : List Segment)
    → says ≡ segments_outcome kind width log (length list) → after ≡ filled_list kind width log list
    → SegmentsPromise kind width log list says after
segments_any_order kind width log list says after answers holds =
    record {
      any_order = λ other both.
          (answers ∙ segments_outcome_order both kind width (length list), holds ∙ list_order both kind width list);
    }

pub query_any_order : (q : Query) (log slot : List ℕ) (says : Outcome Counts) (after : List ℕ)
    → says ≡ query_outcome q log (length slot) → after ≡ query_slot q log slot
    → ForAnyOrder log (λ other. query_outcome q other (length slot)) (λ other. query_slot q other slot) says after
query_any_order q log slot says after answers holds other both =
    (answers ∙ query_outcome_order both q (length slot), holds ∙ query_slot_order both q slot)

pub ruled_any_order : (q : RuledQuery) (log slot : List ℕ) (says : Outcome Counts) (after : List ℕ)
    → says ≡ ruled_outcome q log (length slot) → after ≡ ruled_slot q log slot
    → ForAnyOrder log (λ other. ruled_outcome q other (length slot)) (λ other. ruled_slot q other slot) says after
ruled_any_order q log slot says after answers holds other both =
    (answers ∙ ruled_outcome_order both q (length slot), holds ∙ ruled_slot_order both q slot)

-- ---- the same records

-- the records of a log that passes its questions
records_once : (log : List ℕ) → Bytes log → AllPass (log_questions log) → Once (records log)
unfolding records
records_once log small all =
    once-list_from (λ i. record_at log (record_length * i)) 0 (record_count log) (λ i j less lt. none_twice_lem log small all i j less (omega arith))

-- the records of a log in another order of their indices
module _ (log is : List ℕ) (all : AllPass (log_questions log)) (order : Permᴰ (list_from 0 (record_count log) (λ i. i)) is) where
  abbrev shuffle : List ℕ
  shuffle = joined (record_part log) is

  is_inside : (i : ℕ) → Memᴰ i is → i < record_count log
  is_inside i m =
      let (j, low, high, e) = member_list_from (λ i. i) 0 (record_count log) i (member_order (Permᴰ.symm order) m) in omega arith

  as_many : length is ≡ record_count log
  as_many = sym (length_order order) ∙ length-list_from 0 (record_count log) (λ i. i)

  is_once : Once is
  is_once = once_order order (once-list_from (λ i. i) 0 (record_count log) (λ i j less lt e. omega arith))

  shuffle_distinct : Distinct log → Distinct shuffle
  shuffle_distinct apart i j less lt same =
      let count = joined_count log is is_inside in
      let here : i < length is = omega arith in
      let there : j < length is = omega arith in
      let x : ℕ = get_or is i 0 in
      let y : ℕ = get_or is j 0 in
      let equal : record_part log x ≡ record_part log y
      = sym (joined_part log is is_inside i here) ∙ same ∙ joined_part log is is_inside j there in
      cases (ltb x y) (λ t. apart x y (ltb-true x y t) (is_inside y (member_at 0 is j there)) equal)
      (λ t.
      cases (ltb y x) (λ u. apart y x (ltb-true y x u) (is_inside x (member_at 0 is i here)) (sym equal))
      (λ u. once_at 0 is is_once i j less there (omega (arith, ltb-false x y t, ltb-false y x u))))

  abbrev record_of : ℕ → Span ℕ
  record_of i = record_at log (9 * i)

  shuffle_records : map record_of is ≡ records shuffle
  unfolding records record_length
  shuffle_records =
      ap (map record_of) (sym (list_from-of 0 0 (λ k. get_or is k 0) is (λ k lt. rw (zero-add k))))
      ∙ map-list_from record_of (λ k. get_or is k 0) 0 (length is)
      ∙ list_from_cong (λ k. record_of (get_or is k 0)) (λ k. record_at shuffle (9 * k)) 0 (length is)
      (λ k low high. sym (same_record shuffle log k (get_or is k 0) (joined_part log is is_inside k (omega arith))))
      ∙ ap (λ (n : ℕ). list_from 0 n (λ k. record_at shuffle (9 * k))) (sym (joined_count log is is_inside))

  any_shuffle_lem : Shuffled log shuffle
  unfolding records record_length
  any_shuffle_lem =
      let (file, apart) = (exactly log).0 all in
      record {
        passes = all;
        other_passes = (exactly shuffle).1 (joined_passes log is is_inside (omega (arith, as_many)) file, shuffle_distinct apart);
        same_records =
            subst (λ (l : List (Span ℕ)). Permᴰ l (records shuffle)) (map-list_from record_of (λ i. i) 0 (record_count log))
            (subst (Permᴰ _) shuffle_records (Permᴰ.map record_of order));
      }

pub any_order_lem : AnyOrder
any_order_lem =
    record {
      same_records = λ log other small small-too all all-too. (
        λ p r. (member_order p, member_order (Permᴰ.symm p)),
        λ same. each_in_the_other (records log) (records other) (records_once log small all) (records_once other small-too all-too) same,
      );
      any_shuffle = any_shuffle_lem;
      segments = λ kind width log other both. log_segments_order both kind width;
      query = same_answer;
    }
