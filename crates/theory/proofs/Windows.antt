-- Span aggregation: the windows of a rule are in order, the rows by windows are the span aggregation of a log and the only one, they
-- can be stored, and windows of one frame give the frames' own values. Assumes nothing.
use Prim.Native.Nat.{ℕ, zero, suc, ◌+◌, ◌-◌, ◌*◌, ◌/◌, ◌^◌, ◌≤◌, ◌<◌, zero-le}
use mathlib.Core.Bool.{true, ◌&&◌}
use mathlib.Core.List.Memᴰ
use mathlib.Core.List.{List, [], ◌∷◌, ◌++◌, Memᴰ}
use mathlib.Core.Logic.{◌⊎◌, inl, inr, ⊎_elim, ◌↔◌}
use mathlib.Core.Option.{Option, none, some}
use mathlib.Core.Path.{◌≡◌, refl, sym, ap, ◌∙◌, subst}
use native.Mathlib.Nat.{zero-add, le_refl, le_trans, le-div_iff_mul-le}
use native.Mathlib.Omega.{arith}
use lib.Dec.{leb, ltb, eqb}
use lib.ListN.{length, get_or}
use borrow.Author.Tests.{leb-true, ltb-true, lt-ltb, eqb-true, eqb-false}
use Rattle.model.specs.Common.{list_from, joined}
use Rattle.model.specs.Spans.{Span, group_count, frame_count, meets, nowhere}
use Rattle.model.specs.Log.{records, meeting, aggregated, value}
use Rattle.model.specs.NoMemory.{plain_value}
use Rattle.model.specs.Blocks.{segment_at}
use Rattle.model.specs.Windows.{bound_in, Window, beat, beat_count, scene, window_count, window_at, windows, window_row, group_rows, span_rows}
use Rattle.model.specs.Slot.{value_in}
use Rattle.model.specs.Questions.{ask, scene_follows, scene_known, most_scenes, scenes_known, rule_question, window_rows, file_questions, row_known, follows}
use Rattle.model.specs.Calls.{beat_query}
use Rattle.model.specs.Demands.{AllPass, IsWindow, SpanAggregation}
use Rattle.model.specs.declared.Rule.{Rule}
use Rattle.model.specs.declared.Rule.TheVariants.{Rows, Share, Every, Scenes}
use Rattle.model.specs.declared.RuledQuery.{RuledQuery}
use Rattle.theory.proofs.Tests.{true≢false, none≢some, some_inj, cases, and-true, holds_true, true_holds}
use Rattle.theory.proofs.Every.{every_at}
use Rattle.theory.proofs.Frames.{Heads, Chain, heads_map, chain_heads, chain_member, chain_neighbours, chain_later, From, Earlier}
use Rattle.theory.proofs.Converse.{member_list_from, value_in_member}
use Rattle.theory.proofs.Bounds.{sound_records, stretch_le}
use Rattle.theory.proofs.Stored.{held_known, earlier_follows}
use Rattle.theory.proofs.Labels.{labelled_frame, member_hits}
use Rattle.theory.proofs.Memory.{value_one}

-- ---- chains by number, and chains with the same members

module _ {A : Type 0} (P : A → Type 0) (R : A → A → Type 0) where
  -- a list whose elements are given by number
  pub list_from_chain : (h : ℕ → A) (from count : ℕ) → ((i : ℕ) → from ≤ i → i < from + count → P (h i))
      → ((i : ℕ) → from ≤ i → suc i < from + count → R (h i) (h (suc i))) → Chain P R (list_from from count h)
  unfolding list_from
  list_from_chain h from zero each next = tt
  list_from_chain h from (suc zero) each next = (each from (omega arith) (omega arith), tt, tt)
  list_from_chain h from (suc (suc count)) each next = (
    each from (omega arith) (omega arith),
    next from (omega arith) (omega arith),
    list_from_chain h (suc from) (suc count) (λ i a b. each i (omega arith) (omega arith)) (λ i a b. next i (omega arith) (omega arith)),
  )

  -- a list whose members have the property and whose neighbours are related
  chain_of : (d : A) (l : List A) → ((a : A) → Memᴰ a l → P a)
      → ((i : ℕ) → suc i < length l → R (get_or l i d) (get_or l (suc i) d)) → Chain P R l
  chain_of d [] each next = tt
  chain_of d (a ∷ []) each next = (each a (Memᴰ.head refl), tt, tt)
  chain_of d (a ∷ b ∷ l) each next = (
    each a (Memᴰ.head refl),
    next 0 (omega arith),
    chain_of d (b ∷ l) (λ x m. each x (Memᴰ.tail m)) (λ i lt. next (suc i) (omega arith)),
  )

  -- an order without circles puts the same members in one list only
  module _ (trans : (a b c : A) → P b → R a b → R b c → R a c) (apart : (a b : A) → P a → P b → R a b → R b a → ⊥) where
    pub same_members : (l m : List A) → Chain P R l → Chain P R m → ((a : A) → Memᴰ a l → Memᴰ a m)
        → ((a : A) → Memᴰ a m → Memᴰ a l) → l ≡ m
    same_members [] [] c d to from = refl
    same_members [] (b ∷ m) c d to from = absurd (Memᴰ.not-nil (from b (Memᴰ.head refl)))
    same_members (a ∷ l) [] c d to from = absurd (Memᴰ.not-nil (to a (Memᴰ.head refl)))
    same_members (a ∷ l) (b ∷ m) c d to from =
        by (Memᴰ.cases_cons (to a (Memᴰ.head refl))) (Memᴰ.cases_cons (from b (Memᴰ.head refl)))
        (same_members l m c.2 d.2)
      where
        later : (a : A) (l : List A) → Chain P R (a ∷ l) → (x : A) → Memᴰ x l → R a x
        later a l c x m = chain_later P R trans a l c.1 c.2 x m

        -- a member of a list is not one of the others
        others : (a b : A) (l m : List A) → a ≡ b → Chain P R (a ∷ l)
            → ((x : A) → Memᴰ x (a ∷ l) → Memᴰ x (b ∷ m)) → (x : A) → Memᴰ x l → Memᴰ x m
        others a b l m e c to x n =
            ⊎_elim
            (λ (f : x ≡ b).
            let r : R a a = subst (R a) (f ∙ sym e) (later a l c x n) in absurd (apart a a c.0 c.0 r r))
            (λ k. k) (Memᴰ.cases_cons (to x (Memᴰ.tail n)))

        by : (a ≡ b) ⊎ Memᴰ a m → (b ≡ a) ⊎ Memᴰ b l
            → (((x : A) → Memᴰ x l → Memᴰ x m) → ((x : A) → Memᴰ x m → Memᴰ x l) → l ≡ m) → a ∷ l ≡ b ∷ m
        by (inl e) k ih =
            let tails = ih (others a b l m e c to) (others b a m l (sym e) d from) in
            rw e (ap (λ (t : List A). b ∷ t) tails)
        by (inr n) (inl e) ih =
            let tails = ih (others a b l m (sym e) c to) (others b a m l e d from) in
            rw e (ap (λ (t : List A). a ∷ t) tails)
        by (inr n) (inr k) ih = absurd (apart a b c.0 d.0 (later a l c b k) (later b m d a n))

-- ---- the windows of a rule

-- each element of a list that is given by number is a member
list_from_member : {A : Type 0} (h : ℕ → A) (from count i : ℕ) → from ≤ i → i < from + count → Memᴰ (h i) (list_from from count h)
unfolding list_from
list_from_member h from zero i a b = absurd (omega arith)
list_from_member h from (suc count) i a b =
    cases (eqb from i) (λ e. Memᴰ.head (ap h (sym (eqb-true from i e))))
    (λ e. Memᴰ.tail (list_from_member h (suc from) count i (omega (arith, eqb-false from i e)) (omega arith)))

-- a window has a frame, and ends at one
abbrev Proper : Window → Type 0
Proper w = (w.first ≤ w.last) × (w.last < frame_count)

-- one window ends before another begins
abbrev Ahead : Window → Window → Type 0
Ahead v w = v.last < w.first

-- how many windows begin at a frame
pub beat_begins : (frames start i : ℕ) → 0 < frames → (i < beat_count frames start) ↔ (start + frames * i < frame_count)
unfolding beat_count frame_count
beat_begins frames start i some_frames =
    let divides : (suc i ≤ (65536 - start + (frames - 1)) / frames) ↔ (suc i * frames ≤ 65536 - start + (frames - 1)) =
    le-div_iff_mul-le {x = suc i} some_frames in
    (λ lt. let whole = divides.0 lt in omega arith, λ lt. divides.1 (omega arith))

-- windows every so many frames
beats_chain : (frames start : ℕ) → 0 < frames → Chain Proper Ahead (list_from 0 (beat_count frames start) (beat frames start))
unfolding beat
beats_chain frames start some_frames =
    list_from_chain Proper Ahead (beat frames start) 0 (beat_count frames start)
    (λ i a b. let begins = (beat_begins frames start i some_frames).0 (omega arith) in (omega arith, omega arith))
    (λ i a b. omega arith)

-- scenes
scenes_chain : (firsts lasts : List ℕ) (count : ℕ) → scenes_known firsts lasts count ≡ true
    → Chain Proper Ahead (list_from 0 count (scene firsts lasts))
unfolding scene scenes_known scene_known scene_follows
scenes_chain firsts lasts count known =
    list_from_chain Proper Ahead (scene firsts lasts) 0 count (λ i a b. (each i b).0)
    (λ i a b. (each (suc i) b).1 i refl)
  where
    each : (i : ℕ) → i < 0 + count
        → Proper (scene firsts lasts i) × ((j : ℕ) → i ≡ suc j → Ahead (scene firsts lasts j) (scene firsts lasts i))
    each i lt =
        let all = every_at (scene_known firsts lasts) 0 count (and-true (leb 1 count && leb count most_scenes) _ known).1 i (omega arith) lt in
        let p = and-true (leb (get_or firsts i 0) (get_or lasts i 0) && ltb (get_or lasts i 0) frame_count) (scene_follows firsts lasts i) all in
        let q = and-true (leb (get_or firsts i 0) (get_or lasts i 0)) (ltb (get_or lasts i 0) frame_count) p.0 in
        ((leb-true _ _ q.0, ltb-true _ _ q.1), λ j e. rw e (ltb-true _ _ (rw e at p.1)))

-- the windows of a rule that passes 18 or 19
windows_chain : (q : RuledQuery) → bound_in q.rule ≡ none → (rule_question q).passed ≡ true
    → Chain Proper Ahead (windows q)
unfolding windows window_count window_at bound_in rule_question ask
windows_chain q windowed passes = by q.rule refl
  where
    by : (r : Rule) → q.rule ≡ r → Chain Proper Ahead (list_from 0 (window_count q.rule) (window_at q))
    by (Rows c) e = absurd (none≢some windowed (ap bound_in e))
    by (Share p) e = absurd (none≢some windowed (ap bound_in e))
    by (Every frames start) e = rw e (beats_chain frames start (ltb-true _ _ (rw e at passes)))
    by (Scenes count) e = rw e (scenes_chain q.firsts q.lasts count (rw e at passes))

-- are those of the rule, and no others
is_window : (q : RuledQuery) → bound_in q.rule ≡ none → (rule_question q).passed ≡ true
    → (w : Window) → Memᴰ w (windows q) ↔ IsWindow q w.first w.last
unfolding windows window_count window_at bound_in rule_question ask beat scene
is_window q windowed passes w = by q.rule refl
  where
    by : (r : Rule) → q.rule ≡ r
        → Memᴰ w (list_from 0 (window_count q.rule) (window_at q)) ↔ IsWindow q w.first w.last
    by (Rows c) e = absurd (none≢some windowed (ap bound_in e))
    by (Share p) e = absurd (none≢some windowed (ap bound_in e))
    by (Every frames start) e =
        let some_frames = ltb-true 0 frames (rw e at passes) in
        rw e (
          (λ m.
              let (i, a, b, is) = member_list_from (beat frames start) 0 (beat_count frames start) w m in
              let begins = (beat_begins frames start i some_frames).0 (omega arith) in
              (i, ap (λ (x : Window). x.first) is, rw is begins, rw is (omega arith))),
          λ (i, first, begins, last).
              let ends : (beat frames start i).last ≡ w.last = omega arith in
              subst (λ (x : Window). Memᴰ x (list_from 0 (beat_count frames start) (beat frames start)))
              (λ t. record { first = sym first t; last = ends t })
              (list_from_member (beat frames start) 0 (beat_count frames start) i (omega arith)
              (rw zero-add ((beat_begins frames start i some_frames).1 (omega arith)))),
        )
    by (Scenes count) e =
        rw e (
          (λ m.
              let (i, a, b, is) = member_list_from (scene q.firsts q.lasts) 0 count w m in
              (i, omega arith, ap (λ (x : Window). x.first) is, ap (λ (x : Window). x.last) is)),
          λ (i, lt, first, last).
              subst (λ (x : Window). Memᴰ x (list_from 0 count (scene q.firsts q.lasts)))
              (λ t. record { first = sym first t; last = sym last t })
              (list_from_member (scene q.firsts q.lasts) 0 count i (omega arith) (omega arith)),
        )

-- ---- the rows of windows

-- some record meets a stretch of frames
pub meeting_some : (kind : ℕ) (rs : List (Span ℕ)) (g a b : ℕ) (m : Span ℕ) → Memᴰ m rs → meets m g a b ≡ true
    → (v : ℕ) × (aggregated kind (meeting rs g a b) ≡ some v)
unfolding meeting aggregated
meeting_some kind [] g a b m n e = absurd (Memᴰ.not-nil n)
meeting_some kind (r ∷ rs) g a b m n e =
    cases (meets r g a b) (λ t. rw t (_, refl))
    (λ t. ⊎_elim (λ (same : m ≡ r). absurd (true≢false (sym e ∙ rw same t)))
    (λ k. let (v, is) = meeting_some kind rs g a b m k e in (v, rw t is)) (Memᴰ.cases_cons n))

-- where there is a value, some record meets
pub meeting_from : (kind : ℕ) (rs : List (Span ℕ)) (g a b v : ℕ) → aggregated kind (meeting rs g a b) ≡ some v
    → (m : Span ℕ) × Memᴰ m rs × (meets m g a b ≡ true)
unfolding meeting aggregated
meeting_from kind [] g a b v e = absurd (none≢some refl e)
meeting_from kind (r ∷ rs) g a b v e =
    cases (meets r g a b) (λ t. (r, Memᴰ.head refl, t))
    (λ t. let (m, n, is) = meeting_from kind rs g a b v (rw t at e) in (m, Memᴰ.tail n, is))

-- a member of one of the lists that are joined
pub joined_member : {A B : Type 0} (h : A → List B) (l : List A) (a : A) (b : B) → Memᴰ a l → Memᴰ b (h a)
    → Memᴰ b (joined h l)
unfolding joined
joined_member h [] a b m n = absurd (Memᴰ.not-nil m)
joined_member h (x ∷ l) a b m n =
    ⊎_elim (λ (e : a ≡ x). Memᴰ.append_left _ (subst (λ y. Memᴰ b (h y)) e n))
    (λ k. Memᴰ.append_right (h x) (joined_member h l a b k n)) (Memᴰ.cases_cons m)

module _ (kind : ℕ) (rs : List (Span ℕ)) (ws : List Window) where
  -- a row that is due: of a group and a window, with the aggregate over the records that meet it
  abbrev Due : Span ℕ → Type 0
  Due r =
      (r.group < group_count) × Memᴰ (record { first = r.first; last = r.last }) ws
      × (aggregated kind (meeting rs r.group r.first r.last) ≡ some r.value)

  -- the rows of a group, before those of later groups
  group_chain : (g f : ℕ) (vs : List Window) (rest : List (Span ℕ)) → g < group_count
      → ((w : Window) → Memᴰ w vs → Memᴰ w ws) → Chain Proper Ahead vs → Heads (λ w. f ≤ w.first) vs
      → Chain Due Earlier rest → Heads (From (suc g) 0) rest
      → Chain Due Earlier (joined (window_row kind rs g) vs ++ rest) × Heads (From g f) (joined (window_row kind rs g) vs ++ rest)
  unfolding joined window_row
  group_chain g f [] rest below among order begins c h = (c, heads_map rest (λ t later. by t later) h)
    where
      by : (t : Span ℕ) → From (suc g) 0 t → From g f t
      by t (inl lt) = inl (omega arith)
      by t (inr (same, z)) = inl (omega arith)
  group_chain g f (w ∷ vs) rest below among order begins c h =
      by (aggregated kind (meeting rs g w.first w.last)) refl
      (λ f' le.
      group_chain g f' vs rest below (λ v m. among v (Memᴰ.tail m)) order.2
      (heads_map vs (λ v lt. le_trans le lt) order.1) c h)
    where
      by : (o : Option ℕ) → aggregated kind (meeting rs g w.first w.last) ≡ o
          → ((f' : ℕ) → f' ≤ suc w.last
          → Chain Due Earlier (joined (window_row kind rs g) vs ++ rest) × Heads (From g f') (joined (window_row kind rs g) vs ++ rest))
          → Chain Due Earlier (joined (window_row kind rs g) (w ∷ vs) ++ rest)
          × Heads (From g f) (joined (window_row kind rs g) (w ∷ vs) ++ rest)
      by none e next = let ends = order.0.0 in rw (e, window_row) (next f (omega arith))
      by (some v) e next =
          let later = next (suc w.last) (le_refl _) in
          rw (e, window_row) (((below, among w (Memᴰ.head refl), e), later.1, later.0), inr (refl, begins))

  module _ (order : Chain Proper Ahead ws) where
    groups_chain : (g count : ℕ) → g + count ≡ group_count
        → Chain Due Earlier (joined (group_rows kind rs ws) (list_from g count (λ x. x)))
        × Heads (From g 0) (joined (group_rows kind rs ws) (list_from g count (λ x. x)))
    unfolding joined group_rows list_from
    groups_chain g zero e = (tt, tt)
    groups_chain g (suc count) e =
        let later = groups_chain (suc g) count (omega arith) in
        group_chain g 0 ws _ (omega arith) (λ w m. m) order (heads_map ws (λ w p. zero-le) (chain_heads Proper Ahead ws order))
        later.0 later.1

    -- all rows, by group and then by window
    pub rows_chain : Chain Due Earlier (span_rows kind rs ws)
    unfolding span_rows group_count
    rows_chain = (groups_chain 0 group_count refl).0

  -- and every row that is due is among them
  due_there : (r : Span ℕ) → Due r → Memᴰ r (span_rows kind rs ws)
  unfolding span_rows group_rows window_row
  due_there r (below, among, is) =
      joined_member (group_rows kind rs ws) (list_from 0 group_count (λ x. x)) r.group r
      (list_from_member (λ x. x) 0 group_count r.group (omega arith) (omega arith))
      (joined_member (window_row kind rs r.group) ws (record { first = r.first; last = r.last }) r among
      (rw (is, window_row) (Memᴰ.head refl)))

-- ---- the span aggregation of a log

-- spans with frames, one before another and that before a third
earlier_trans : (s t u : Span ℕ) → t.first ≤ t.last → Earlier s t → Earlier t u → Earlier s u
earlier_trans s t u p (inl h) (inl k) = inl (omega arith)
earlier_trans s t u p (inl h) (inr k) = inl (omega arith)
earlier_trans s t u p (inr h) (inl k) = inl (omega arith)
earlier_trans s t u p (inr h) (inr k) = inr (omega arith, omega arith)

earlier_apart : (s t : Span ℕ) → s.first ≤ s.last → t.first ≤ t.last → Earlier s t → Earlier t s → ⊥
earlier_apart s t p q (inl h) (inl k) = omega arith
earlier_apart s t p q (inl h) (inr k) = omega arith
earlier_apart s t p q (inr h) (inl k) = omega arith
earlier_apart s t p q (inr h) (inr k) = omega arith

module _ (q : RuledQuery) (log : List ℕ) (windowed : bound_in q.rule ≡ none) (passes : (rule_question q).passed ≡ true) where
  abbrev DueOf : Span ℕ → Type 0
  DueOf = Due q.kind (records log) (windows q)

  due_proper : (r : Span ℕ) → DueOf r → (r.first ≤ r.last) × (r.last < frame_count)
  due_proper r d = chain_member Proper Ahead (windows q) (windows_chain q windowed passes) _ d.1

  -- the rows are a chain of rows that are due
  chained : Chain DueOf Earlier (window_rows q log)
  unfolding window_rows
  chained = rows_chain q.kind (records log) (windows q) (windows_chain q windowed passes)

  -- the rows by windows are the span aggregation
  pub aggregation : SpanAggregation q log (window_rows q log)
  unfolding window_rows segment_at
  aggregation =
      record {
        is_due = λ r m.
            let d = chain_member DueOf Earlier (window_rows q log) chained r m in
            (d.0, (is_window q windowed passes _).0 d.1, d.2);
        is_there = λ g a b below window m n e.
            let (v, is) = meeting_some q.kind (records log) g a b m n e in (
              v,
              due_there q.kind (records log) (windows q) (record { group = g; first = a; last = b; value = v })
                  (below, (is_window q windowed passes (record { first = a; last = b })).1 window, is),
            );
        sorted = chain_neighbours DueOf Earlier (window_rows q log) chained nowhere;
      }

  -- and there is no other
  pub only : (rows : List (Span ℕ)) → SpanAggregation q log rows → rows ≡ window_rows q log
  unfolding window_rows segment_at
  only rows a =
      same_members DueOf Earlier (λ s t u d. earlier_trans s t u (due_proper t d).0)
      (λ s t d e. earlier_apart s t (due_proper s d).0 (due_proper t e).0) rows (window_rows q log)
      (chain_of DueOf Earlier nowhere rows due a.sorted) chained
      (λ r m. due_there q.kind (records log) (windows q) r (due r m))
      (λ r m. there r (chain_member DueOf Earlier (window_rows q log) chained r m))
    where
      due : (r : Span ℕ) → Memᴰ r rows → DueOf r
      due r m = let d = a.is_due r m in (d.0, (is_window q windowed passes _).1 d.1, d.2)

      there : (r : Span ℕ) → DueOf r → Memᴰ r rows
      there r (below, among, is) =
          let (m, n, e) = meeting_from q.kind (records log) r.group r.first r.last r.value is in
          let (v, k) = a.is_there r.group r.first r.last below ((is_window q windowed passes _).0 among) m n e in
          let same : v ≡ r.value = some_inj (a.is_due _ k).2 is in
          subst (λ (x : ℕ). Memᴰ (record { group = r.group; first = r.first; last = r.last; value = x }) rows) same k

  -- such rows can be stored, where the log passes its questions
  pub window_rows_known : AllPass (file_questions log) → (r : Span ℕ) → Memᴰ r (window_rows q log)
      → (row_known r ≡ true) × (r.last < 2 ^ 16)
  window_rows_known logged r m =
      let (few, sound) = sound_records log logged in
      let due = chain_member DueOf Earlier (window_rows q log) chained r m in
      let proper = due_proper r due in
      held_known r (
        due.0,
        proper.0,
        proper.1,
        stretch_le q.kind (records log) few (λ x n. (sound x n).2) r.group r.first r.last r.value due.2,
      )

  pub window_rows_sorted : (i : ℕ) → suc i < length (window_rows q log)
      → follows (segment_at (window_rows q log) (suc i)) (segment_at (window_rows q log) i) ≡ true
  unfolding segment_at
  window_rows_sorted i lt = earlier_follows _ _ (chain_neighbours DueOf Earlier (window_rows q log) chained nowhere i lt)

-- ---- windows of one frame

module _ (kind start : ℕ) (log : List ℕ) (g f : ℕ) (from : start ≤ f) where
  abbrev single : RuledQuery
  single = beat_query kind 1 start

  -- a value that the rows have at a frame is the frame's own
  own_value_lem : (v : ℕ) → value_in (window_rows single log) g f ≡ some v → value kind 1 (records log) g f ≡ some v
  unfolding plain_value beat_query bound_in rule_question ask
  own_value_lem v e =
      let (r, m, h, is) = value_in_member g f (window_rows single log) v e in
      let (group, low, high) = holds_true r g f h in
      let (below, (i, first, begins, last), has) = (aggregation single log refl refl).is_due r m in
      let at : r.first ≡ f = omega arith in
      let to : r.last ≡ f = omega arith in
      value_one kind (records log) g f
      ∙ rw (lt-ltb g group_count (omega arith), lt-ltb f frame_count (omega arith)) (rw (group, at, to, is) at has)

  -- windows of one frame give the frames' own values
  pub frame_by_frame_lem : value_in (window_rows single log) g f ≡ value kind 1 (records log) g f
  unfolding plain_value beat_query bound_in rule_question ask
  frame_by_frame_lem = by (value_in (window_rows single log) g f) refl (value kind 1 (records log) g f) refl
    where
      by : (o : Option ℕ) → value_in (window_rows single log) g f ≡ o → (p : Option ℕ) → value kind 1 (records log) g f ≡ p → o ≡ p
      by (some v) e p d = sym (own_value_lem v e) ∙ d
      by none e none d = refl
      by none e (some v) d =
          let own = sym (value_one kind (records log) g f) ∙ d in
          cases (ltb g group_count && ltb f frame_count)
          (λ t.
          let inside = and-true (ltb g group_count) (ltb f frame_count) t in
          let below = ltb-true g group_count inside.0 in
          let frame = ltb-true f frame_count inside.1 in
          let (m, n, met) = meeting_from kind (records log) g f f v (rw t at own) in
          let (x, k) = (aggregation single log refl refl).is_there g f f below (f - start, omega arith, frame, omega arith) m n met in
          let row : Span ℕ = record { group = g; first = f; last = f; value = x } in
          let (y, is) = labelled_frame g f (window_rows single log)
          (member_hits g f row (window_rows single log) k (true_holds row g f refl (le_refl f) (le_refl f))) in
          absurd (none≢some e is))
          (λ t. absurd (none≢some refl (rw t at own)))
