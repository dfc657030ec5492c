-- How many segments there are: none, or fewer than two for each record, so at most 255. A record has two events, its first
-- frame and the frame after its last. The value changes from one frame to the next only at an event, and a covered frame
-- has one ahead of it; so the segments from a frame on are counted against the events ahead of it. Assumes nothing.
use Prim.Native.Nat.{ℕ, zero, suc, ◌+◌, ◌*◌, ◌≤◌, ◌<◌, zero-le}
use mathlib.Core.Bool.{Bool, true, false, ◌&&◌, cond}
use mathlib.Core.List.{List, [], ◌∷◌, foldr, map}
use mathlib.Core.Logic.{◌⊎◌, inl, inr, ⊎_elim, ⊎_map}
use mathlib.Core.Option.{Option, none, some}
use mathlib.Core.Path.{◌≡◌, refl, sym, ap, ap₂, ◌∙◌}
use native.Mathlib.Omega.{arith}
use lib.Dec.{leb, ltb, eqb}
use lib.ListN.{length, length-map}
use borrow.Author.Tests.{leb-true, leb-false, ltb-false, le-leb, lt-leb, lt-ltb, le-ltb, eq-eqb, ne_eqb}
use Rattle.model.specs.Common.{sum_of}
use Rattle.model.specs.Spans.{Span, group_count, frame_count, holds, adjacent}
use Rattle.model.specs.Log.{record_count, records, meeting, aggregated, value}
use Rattle.model.specs.NoMemory.{plain_value}
use Rattle.model.specs.Segments.{join, fuse, place, frames_from, groups_from, segments_of, segments}
use Rattle.model.specs.Questions.{ask, most_records, most_segments, file_questions}
use Rattle.model.specs.Calls.{log_segments}
use Rattle.model.specs.Demands.{AllPass}
use Rattle.theory.proofs.Tests.{cases, and-true, true_and, true≢false, holds_true, true_holds, true_adjacent, none≢some}
use Rattle.theory.proofs.Sums.{sum_of-le}
use Rattle.theory.proofs.Refusals.{all_head, all_tail}
use Rattle.theory.proofs.SlotLaws.{length-list_from}
use Rattle.theory.proofs.Memory.{segments_longer, longer, value_one}

-- ---- fused frames, counted

-- nothing, or less than p
abbrev Few : ℕ → ℕ → Type 0
Few n p = (n ≡ 0) ⊎ (n < p)

-- n segments from a frame with this value on, where p events are ahead of it
abbrev Within : {A : Type 0} → Option A → ℕ → ℕ → Type 0
Within none n p = Few n p
Within (some v) n p = n ≤ p

-- no value is not a value
-- a higher bound
few_le : (n q p : ℕ) → q ≤ p → Few n q → Few n p
few_le n q p le few = ⊎_map (λ e. e) (λ (lt : n < q). omega arith) few

-- before a place where nothing is: an uncovered frame, or a group's beginning
uncovered_step : {A : Type 0} (o : Option A) (n q p : ℕ) → q ≤ p → (none ≡ o) ⊎ (q < p) → Within o n q → Few n p
uncovered_step none n q p le change few = few_le n q p le few
uncovered_step (some v) n q p le (inl e) few = absurd (none≢some refl e)
uncovered_step (some v) n q p le (inr lt) few = inr (omega arith)

-- the span of one frame
abbrev only : {A : Type 0} → ℕ → ℕ → A → Span A
only g f v = record { group = g; first = f; last = f; value = v }

module _ {A : Type 0} (same : A → A → Bool) where
  -- spans fused from the right
  abbrev fused : List (Span A) → List (Span A)
  fused l = foldr (fuse same) [] l

  -- one more span makes at most one more
  fuse_le : (s : Span A) (l : List (Span A)) → length (fuse same s l) ≤ suc (length l)
  unfolding fuse
  fuse_le s [] = omega arith
  fuse_le s (t ∷ l) =
      cases (adjacent s t && same s.value t.value) (λ e. rw e (omega arith)) (λ e. rw e (omega arith))

  -- and none where its right neighbour is adjacent and equal
  fuse_again : (s t : Span A) (l : List (Span A)) → adjacent s t && same s.value t.value ≡ true
      → length (fuse same s (fuse same t l)) ≡ length (fuse same t l)
  unfolding fuse join adjacent
  fuse_again s t [] e = rw e
  fuse_again s t (u ∷ l) e =
      cases (adjacent t u && same t.value u.value) (λ c. rw c (rw e)) (λ c. rw c (rw e))

  -- a frame right behind which nothing is
  last_step : (g f p : ℕ) (rest : List (Span A)) (o : Option A) → (none ≡ o) ⊎ (0 < p)
      → Few (length (fused rest)) p → Within o (length (fused (place o g f rest))) p
  unfolding place
  last_step g f p rest none end few = few
  last_step g f p rest (some v) (inl e) few = absurd (none≢some refl e)
  last_step g f p rest (some v) (inr pos) few =
      let more = fuse_le (only g f v) (fused rest) in
      ⊎_elim (λ (e : length (fused rest) ≡ 0). omega arith) (λ (lt : length (fused rest) < p). omega arith) few

  -- a frame before another
  frame_step : ((v : A) → same v v ≡ true) → (g f q p : ℕ) (rest : List (Span A)) (o o' : Option A) → q ≤ p
      → (o ≡ o') ⊎ (q < p) → (none ≡ o) ⊎ (0 < p) → Within o' (length (fused (place o' g (suc f) rest))) q
      → Within o (length (fused (place o g f (place o' g (suc f) rest)))) p
  unfolding place
  frame_step equal g f q p rest o none le change end few = last_step g f p rest o end (few_le _ q p le few)
  frame_step equal g f q p rest none (some w) le change end few = uncovered_step (some w) _ q p le change few
  frame_step equal g f q p rest (some v) (some w) le (inr lt) end few =
      omega (arith, fuse_le (only g f v) (fused (place (some w) g (suc f) rest)))
  frame_step equal g f q p rest (some v) (some w) le (inl e) end few =
      let v≡w : v ≡ w = cc in
      let joined : adjacent (only g f v) (only g (suc f) w) && same v w ≡ true =
      true_and _ _ (true_adjacent (only g f v) (only g (suc f) w) refl refl) (rw v≡w (equal w)) in
      omega (arith, fuse_again (only g f v) (only g (suc f) w) (fused rest) joined)

-- Values of frames, and a number `pot` for each frame that falls from frame to frame and from group to group. It has fallen
-- wherever a group's first frame is covered or the value changes, and is not 0 behind a covered frame.
module _ {A : Type 0} (same : A → A → Bool) (equal : (v : A) → same v v ≡ true) (val : ℕ → ℕ → Option A)
    (pot : ℕ → ℕ → ℕ) (mono : (g f : ℕ) → pot g (suc f) ≤ pot g f) (next : (g f : ℕ) → pot (suc g) 0 ≤ pot g f)
    (begins : (g : ℕ) → (none ≡ val g 0) ⊎ (pot g 1 < pot g 0))
    (changes : (g f : ℕ) → (val g f ≡ val g (suc f)) ⊎ (pot g (suc (suc f)) < pot g (suc f)))
    (ends : (g f : ℕ) → (none ≡ val g f) ⊎ (0 < pot g (suc f))) where
  -- the segments from a frame of a group on
  frames_count : (g f count : ℕ) (rest : List (Span A)) → Few (length (fused same rest)) (pot (suc g) 0)
      → Within (val g f) (length (fused same (frames_from val g f (suc count) rest))) (pot g (suc f))
  unfolding frames_from
  frames_count g f zero rest few =
      last_step same g f (pot g (suc f)) rest (val g f) (ends g f) (few_le _ _ _ (next g (suc f)) few)
  frames_count g f (suc count) rest few =
      frame_step same equal g f (pot g (suc (suc f))) (pot g (suc f)) (frames_from val g (suc (suc f)) count rest)
      (val g f) (val g (suc f)) (mono g (suc f)) (changes g f) (ends g f) (frames_count g (suc f) count rest few)

  -- the segments from a group on
  groups_count : (frames g count : ℕ) → Few (length (fused same (groups_from val frames g count))) (pot g 0)
  unfolding groups_from frames_from
  groups_count frames g zero = inl refl
  groups_count zero g (suc count) = few_le _ _ _ (next g 0) (groups_count zero (suc g) count)
  groups_count (suc frames) g (suc count) =
      uncovered_step (val g 0) _ (pot g 1) (pot g 0) (mono g 0) (begins g)
      (frames_count g 0 frames (groups_from val (suc frames) (suc g) count) (groups_count (suc frames) (suc g) count))

-- ---- the events of records

-- 1 where an event of group h at frame x is at frame f of group g or behind it, else 0
unfoldable ahead : ℕ → ℕ → ℕ → ℕ → ℕ
ahead g f h x = cond (ltb g h) 1 (cond (eqb g h && leb f x) 1 0)

module _ (g h x : ℕ) where
  -- one event counts once
  ahead_le : (f : ℕ) → ahead g f h x ≤ 1
  unfolding ahead
  ahead_le f =
      cases (ltb g h) (λ e. rw e (omega arith))
      (λ e. rw e (cases (eqb g h && leb f x) (λ c. rw c (omega arith)) (λ c. rw c (omega arith))))

  -- it falls from frame to frame
  ahead_mono : (f : ℕ) → ahead g (suc f) h x ≤ ahead g f h x
  unfolding ahead
  ahead_mono f =
      cases (ltb g h) (λ e. rw e (omega arith))
      (λ e. rw e (cases (eqb g h && leb (suc f) x) (λ c. rw (c, still c) (omega arith)) (λ c. rw c zero-le)))
    where
      still : eqb g h && leb (suc f) x ≡ true → eqb g h && leb f x ≡ true
      still c =
          let p = and-true (eqb g h) (leb (suc f) x) c in
          true_and _ _ p.0 (le-leb f x (omega (arith, leb-true (suc f) x p.1)))

  -- an event that is not yet passed counts
  ahead_here : (f : ℕ) → h ≡ g → f ≤ x → ahead g f h x ≡ 1
  unfolding ahead
  ahead_here f e le = rw (le-ltb g h (omega arith), eq-eqb g h (sym e), le-leb f x le)

  -- it has fallen behind the event
  ahead_falls : (f : ℕ) → h ≡ g → x ≡ f → ahead g (suc f) h x < ahead g f h x
  unfolding ahead
  ahead_falls f e c =
      rw (le-ltb g h (omega arith), eq-eqb g h (sym e), lt-leb (suc f) x (omega arith), le-leb f x (omega arith))
      (omega arith)

-- and it falls from group to group
ahead_next : (g f h x : ℕ) → ahead (suc g) 0 h x ≤ ahead g f h x
unfolding ahead
ahead_next g f h x =
    cases (ltb g h) (λ e. rw e (ahead_le (suc g) h x 0))
    (λ e. let le = ltb-false g h e in
    rw (le-ltb (suc g) h (omega arith), ne_eqb (suc g) h (λ (c : suc g ≡ h). omega arith)) zero-le)

-- how many of a record's two events are at frame f of group g or behind it
unfoldable events : ℕ → ℕ → Span ℕ → ℕ
events g f r = ahead g f r.group r.first + ahead g f r.group (suc r.last)

module _ (g f : ℕ) (r : Span ℕ) where
  -- events fall from frame to frame
  events_mono : events g (suc f) r ≤ events g f r
  unfolding events
  events_mono = omega (arith, ahead_mono g r.group r.first f, ahead_mono g r.group (suc r.last) f)

  -- and from group to group
  events_next : events (suc g) 0 r ≤ events g f r
  unfolding events
  events_next = omega (arith, ahead_next g f r.group r.first, ahead_next g f r.group (suc r.last))

  -- a record has two
  events_le : events g f r ≤ 2
  unfolding events
  events_le = omega (arith, ahead_le g r.group r.first f, ahead_le g r.group (suc r.last) f)

  -- they have fallen behind its first frame
  first_falls : r.group ≡ g → r.first ≡ f → events g (suc f) r < events g f r
  unfolding events
  first_falls e c =
      omega (arith, ahead_falls g r.group r.first f e c, ahead_mono g r.group (suc r.last) f)

  -- and behind the frame after its last
  last_falls : r.group ≡ g → suc r.last ≡ f → events g (suc f) r < events g f r
  unfolding events
  last_falls e c =
      omega (arith, ahead_falls g r.group (suc r.last) f e c, ahead_mono g r.group r.first f)

  -- a record that holds a frame ends behind it
  record_ends : (false ≡ holds r g f) ⊎ (0 < events g (suc f) r)
  unfolding events
  record_ends =
      cases (holds r g f)
      (λ e. let h = holds_true r g f e in
      inr (omega (arith, ahead_here g r.group (suc r.last) (suc f) h.0 (omega arith))))
      (λ e. inl (sym e))

-- one that holds a group's first frame begins there
record_begins : (g : ℕ) (r : Span ℕ) → (false ≡ holds r g 0) ⊎ (events g 1 r < events g 0 r)
record_begins g r =
    cases (holds r g 0) (λ e. let h = holds_true r g 0 e in inr (first_falls g 0 r h.0 (omega arith)))
    (λ e. inl (sym e))

-- one that holds just one of two neighbours begins or ends between them
record_changes : (g f : ℕ) (r : Span ℕ)
    → (holds r g f ≡ holds r g (suc f)) ⊎ (events g (suc (suc f)) r < events g (suc f) r)
record_changes g f r =
    cases (holds r g f)
    (λ e. cases (holds r g (suc f)) (λ c. inl (e ∙ sym c)) (λ c. inr (ended (holds_true r g f e) c)))
    (λ e. cases (holds r g (suc f)) (λ c. inr (begun (holds_true r g (suc f) c) e)) (λ c. inl (e ∙ sym c)))
  where
    ended : (r.group ≡ g) × (r.first ≤ f) × (f ≤ r.last) → holds r g (suc f) ≡ false
        → events g (suc (suc f)) r < events g (suc f) r
    ended h c =
        cases (leb (suc f) r.last)
        (λ k. absurd (true≢false (sym (true_holds r g (suc f) h.0 (omega arith) (leb-true _ _ k)) ∙ c)))
        (λ k. last_falls g (suc f) r h.0 (omega (arith, leb-false (suc f) r.last k)))

    begun : (r.group ≡ g) × (r.first ≤ suc f) × (suc f ≤ r.last) → holds r g f ≡ false
        → events g (suc (suc f)) r < events g (suc f) r
    begun h c =
        cases (leb r.first f)
        (λ k. absurd (true≢false (sym (true_holds r g f h.0 (leb-true _ _ k) (omega arith)) ∙ c)))
        (λ k. first_falls g (suc f) r h.0 (omega (arith, leb-false r.first f k)))

-- ---- the values of frames

-- the loads of the records that pass a test
unfoldable picked : (Span ℕ → Bool) → List (Span ℕ) → List ℕ
picked test [] = []
picked test (r ∷ rs) = cond (test r) (r.value ∷ picked test rs) (picked test rs)

-- the loads that meet a frame are those of the records that hold it
meeting_picked : (rs : List (Span ℕ)) (g f : ℕ) → meeting rs g f f ≡ picked (λ r. holds r g f) rs
unfolding meeting picked holds
meeting_picked [] g f = refl
meeting_picked (r ∷ rs) g f = rw (meeting_picked rs g f)

-- a test that fails picks nothing
picked_none : (rs : List (Span ℕ)) → picked (λ r. false) rs ≡ []
unfolding picked
picked_none [] = refl
picked_none (r ∷ rs) = picked_none rs

-- two tests pick the same loads, or a sum that falls wherever they differ has fallen
same_or_less : (s t : Span ℕ → Bool) (p q : Span ℕ → ℕ) → ((r : Span ℕ) → p r ≤ q r)
    → ((r : Span ℕ) → (s r ≡ t r) ⊎ (p r < q r)) → (rs : List (Span ℕ))
    → (picked s rs ≡ picked t rs) ⊎ (sum_of p rs < sum_of q rs)
unfolding picked sum_of
same_or_less s t p q le here [] = inl refl
same_or_less s t p q le here (r ∷ rs) = by (here r) (same_or_less s t p q le here rs)
  where
    by : (s r ≡ t r) ⊎ (p r < q r) → (picked s rs ≡ picked t rs) ⊎ (sum_of p rs < sum_of q rs)
        → (picked s (r ∷ rs) ≡ picked t (r ∷ rs)) ⊎ (sum_of p (r ∷ rs) < sum_of q (r ∷ rs))
    by (inl e) (inl c) = inl (rw (e, c))
    by (inl e) (inr c) = inr (omega (arith, le r))
    by (inr e) c = inr (omega (arith, sum_of-le p q rs (λ a m. le a)))

-- a sum of summands that are at most c
sum_of-bounded : {A : Type 0} (h : A → ℕ) (c : ℕ) (l : List A) → ((a : A) → h a ≤ c) → sum_of h l ≤ c * length l
unfolding sum_of
sum_of-bounded h c [] le = zero-le
sum_of-bounded h c (a ∷ l) le = omega (arith, le a, sum_of-bounded h c l le)

-- the value of a frame from the records that hold it, for every group and frame
unfoldable value_of : ℕ → List (Span ℕ) → ℕ → ℕ → Option ℕ
value_of kind rs g f = aggregated kind (picked (λ r. holds r g f) rs)

module _ (kind : ℕ) (rs : List (Span ℕ)) where
  -- this is a frame's value wherever there is such a group and frame
  value_within : (g f : ℕ) → g < group_count → f < frame_count → value kind 1 rs g f ≡ value_of kind rs g f
  unfolding plain_value value_of
  value_within g f in_groups in_frames =
      value_one kind rs g f
      ∙ rw (true_and _ _ (lt-ltb g group_count in_groups) (lt-ltb f frame_count in_frames))
      (ap (aggregated kind) (meeting_picked rs g f))

  -- no record, no value
  none_picked : none ≡ aggregated kind (picked (λ r. false) rs)
  unfolding aggregated
  none_picked = rw (picked_none rs)

  -- a group's first frame is not covered, or an event is there
  value_begins : (g : ℕ) → (none ≡ value_of kind rs g 0) ⊎ (sum_of (events g 1) rs < sum_of (events g 0) rs)
  unfolding value_of
  value_begins g =
      ⊎_map (λ e. none_picked ∙ ap (aggregated kind) e) (λ lt. lt)
      (same_or_less _ _ (events g 1) (events g 0) (events_mono g 0) (record_begins g) rs)

  -- two neighbours have the same value, or an event is at the second
  value_changes : (g f : ℕ) → (value_of kind rs g f ≡ value_of kind rs g (suc f))
      ⊎ (sum_of (events g (suc (suc f))) rs < sum_of (events g (suc f)) rs)
  unfolding value_of
  value_changes g f =
      ⊎_map (ap (aggregated kind)) (λ lt. lt)
      (same_or_less _ _ (events g (suc (suc f))) (events g (suc f)) (events_mono g (suc f)) (record_changes g f) rs)

  -- a frame is not covered, or an event is behind it
  value_ends : (g f : ℕ) → (none ≡ value_of kind rs g f) ⊎ (0 < sum_of (events g (suc f)) rs)
  unfolding value_of
  value_ends g f =
      ⊎_map (λ e. none_picked ∙ ap (aggregated kind) e)
      (λ (lt : sum_of (λ r. 0) rs < sum_of (events g (suc f)) rs). omega arith)
      (same_or_less _ _ (λ r. 0) (events g (suc f)) (λ r. zero-le) (record_ends g f) rs)

  -- in any number of groups and frames there are no segments, or fewer than two for each record
  few_within : (groups frames : ℕ) → Few (length (segments_of eqb (value_of kind rs) groups frames)) (2 * length rs)
  unfolding segments_of
  few_within groups frames =
      few_le _ (sum_of (events 0 0) rs) (2 * length rs) (sum_of-bounded (events 0 0) 2 rs (events_le 0 0))
      (groups_count eqb (λ v. eq-eqb v v refl) (value_of kind rs) (λ g f. sum_of (events g f) rs)
      (λ g f. sum_of-le _ _ rs (λ r m. events_mono g f r)) (λ g f. sum_of-le _ _ rs (λ r m. events_next g f r))
      value_begins value_changes value_ends frames 0 groups)

-- ---- the segments of a log

-- the frames of groups, where the values within them agree
frames_from_cong : {A : Type 0} (val val' : ℕ → ℕ → Option A) (g f count : ℕ) (rest : List (Span A))
    → ((e : ℕ) → e < f + count → val g e ≡ val' g e) → frames_from val g f count rest ≡ frames_from val' g f count rest
unfolding frames_from
frames_from_cong val val' g f zero rest same = refl
frames_from_cong val val' g f (suc count) rest same =
    ap₂ (λ o l. place o g f l) (same f (omega arith))
    (frames_from_cong val val' g (suc f) count rest (λ e lt. same e (omega arith)))

-- and of many groups
groups_from_cong : {A : Type 0} (val val' : ℕ → ℕ → Option A) (frames g count : ℕ)
    → ((h e : ℕ) → h < g + count → e < frames → val h e ≡ val' h e)
    → groups_from val frames g count ≡ groups_from val' frames g count
unfolding groups_from
groups_from_cong val val' frames g zero same = refl
groups_from_cong val val' frames g (suc count) same =
    frames_from_cong val val' g 0 frames _ (λ e lt. same g e (omega arith) (omega arith))
    ∙ ap (λ l. frames_from val' g 0 frames l)
    (groups_from_cong val val' frames (suc g) count (λ h e lt. same h e (omega arith)))

-- no segments, or fewer than two for each record: at width 1, and so at every width
few_at_one : (kind : ℕ) (rs : List (Span ℕ)) → Few (length (segments kind 1 rs)) (2 * length rs)
unfolding segments segments_of
few_at_one kind rs =
    rw (groups_from_cong (value kind 1 rs) (value_of kind rs) frame_count 0 group_count
    (λ g f a b. value_within kind rs g f (omega arith) b))
    (few_within kind rs group_count frame_count)

pub few_segments : (kind width : ℕ) (rs : List (Span ℕ)) → Few (length (segments kind width rs)) (2 * length rs)
few_segments kind width rs =
    rw (segments_longer kind width rs) (rw (length-map rs (longer width)) at (few_at_one kind (map (longer width) rs)))

-- as many records as are counted
pub length_records : (log : List ℕ) → length (records log) ≡ record_count log
unfolding records
length_records log = length-list_from 0 (record_count log) _

-- an accepted log has at most 255 segments
pub segment_count : (kind width : ℕ) (log : List ℕ) → AllPass (file_questions log)
    → length (log_segments kind width log) ≤ most_segments
unfolding log_segments file_questions ask most_records most_segments
segment_count kind width log all =
    let few = leb-true (record_count log) 128 (all_head _ _ (all_tail _ _ all)) in
    let count = length_records log in
    ⊎_elim (λ (e : length (segments kind width (records log)) ≡ 0). omega arith)
    (λ (lt : length (segments kind width (records log)) < 2 * length (records log)). omega arith)
    (few_segments kind width (records log))
