-- From rows in any order to labels of frames. Whatever list of rows fits, the labels of the rows that contain them label the
-- covered frames, with at most as many parts as there are rows, since each row ends once, and with the rows' cost. By the
-- exchange the segments can be labelled so too. Assumes nothing.
use Prim.Native.Nat.{ℕ, zero, suc, ◌+◌, ◌*◌, ◌-◌, ◌≤◌, ◌<◌}
use mathlib.Core.Bool.{true, false, cond}
use mathlib.Core.List.Memᴰ
use mathlib.Core.List.{List, [], ◌∷◌, foldr, Memᴰ}
use mathlib.Core.Logic.{◌⊎◌, inl, inr}
use mathlib.Core.Option.{Option, none, some, some-injective}
use mathlib.Core.Path.{◌≡◌, refl, sym, ap, subst, ◌∙◌}
use native.Mathlib.Omega.{arith}
use native.Mathlib.Nat.{zero-add, one-mul}
use lib.Dec.{leb}
use borrow.Author.Tests.{leb-true, leb-false}
use lib.ListN.{length}
use Rattle.model.specs.Common.{sum_from, sum_of}
use Rattle.model.specs.Spans.{Span, span_length, holds, adjacent}
use Rattle.model.specs.Segments.{fuse, place, frames_from, groups_from, segments_of}
use Rattle.model.specs.Slot.{value_in}
use Rattle.model.specs.Fitting.{hits, due, Fits, frame_cost, over_frames}
use Rattle.theory.proofs.Tests.{cases, true≢false, holds_true, true_holds, true_adjacent}
use Rattle.theory.proofs.Sums.{sum_of_cong, over_frames-sum_of, over_frames-holds}
use Rattle.theory.proofs.Cost.{Cost, Allowed, error_under}
use Rattle.theory.proofs.Frames.{one_frame}
use Rattle.theory.proofs.Exchange.{Labelling, one, stay, turn, afford, exchange}

-- ---- where rows end

-- a span's last frame, as a span
tip : {A : Type 0} → Span A → Span A
tip r = record { group = r.group; first = r.last; last = r.last; value = r.value }

-- how many rows end with frame f of group g
ends : {A : Type 0} → List (Span A) → ℕ → ℕ → ℕ
ends rows g f = sum_of (λ r. cond (holds (tip r) g f) 1 0) rows

module _ {A : Type 0} (g f : ℕ) where
  -- a span that contains a frame and does not end there contains the next one
  goes_on : (r : Span A) → holds (tip r) g f ≡ false → holds r g f ≡ true → holds r g (suc f) ≡ true
  unfolding tip
  goes_on r e h =
      let p = holds_true r g f h in
      cases (leb (suc f) r.last)
      (λ d. let q : suc f ≤ r.last = leb-true _ _ d in true_holds r g (suc f) p.0 (omega arith) q)
      (λ d. let q : r.last < suc f = leb-false _ _ d in
      absurd (true≢false (sym (true_holds (tip r) g f p.0 (omega arith) p.2) ∙ e)))

  -- where no row ends, no fewer rows contain the next frame
  hits_go_on : (rows : List (Span A)) → ends rows g f ≡ 0 → hits rows g f ≤ hits rows g (suc f)
  unfolding ends sum_of hits
  hits_go_on [] e = omega arith
  hits_go_on (r ∷ rows) e =
      cases (holds (tip r) g f) (λ t. absurd (omega (arith, rw t at e)))
      (λ t. let ih = hits_go_on rows (omega (arith, rw t at e)) in
      cases (holds r g f) (λ h. rw (h, goes_on r t h) (omega arith))
      (λ h. cases (holds r g (suc f)) (λ k. rw (h, k) (omega arith)) (λ k. rw (h, k) ih)))

  -- and its label is the same, if each of the two is contained in one row
  label_goes_on : (rows : List (Span A)) → ends rows g f ≡ 0 → hits rows g f ≡ 1 → hits rows g (suc f) ≤ 1
      → value_in rows g (suc f) ≡ value_in rows g f
  unfolding ends sum_of hits value_in
  label_goes_on [] e h k = refl
  label_goes_on (r ∷ rows) e h k =
      cases (holds (tip r) g f) (λ t. absurd (omega (arith, rw t at e)))
      (λ t. let none-ends : ends rows g f ≡ 0 = omega (arith, rw t at e) in
      cases (holds r g f) (λ a. rw (goes_on r t a, a))
      (λ a. let once : hits rows g f ≡ 1 = rw a at h in
      cases (holds r g (suc f)) (λ b. absurd (omega (arith, hits_go_on rows none-ends, rw b at k)))
      (λ b. rw (b, a) (label_goes_on rows none-ends once (rw b at k)))))

  -- a frame that some row contains has a label
  pub labelled_frame : (rows : List (Span A)) → 1 ≤ hits rows g f → (z : A) × (value_in rows g f ≡ some z)
  unfolding hits value_in
  labelled_frame [] h = absurd (omega arith)
  labelled_frame (r ∷ rows) h =
      cases (holds r g f) (λ t. (r.value, rw t)) (λ t. let q = labelled_frame rows (rw t at h) in (q.0, rw t q.1))

-- a sum of ones is a length
sum_of_ones : {A : Type 0} (l : List A) → sum_of (λ a. 1) l ≡ length l
unfolding sum_of
sum_of_ones [] = refl
sum_of_ones (a ∷ l) = omega (arith, sum_of_ones l)

-- a member that contains a frame is counted
pub member_hits : {A : Type 0} (g f : ℕ) (r : Span A) (rows : List (Span A)) → Memᴰ r rows → holds r g f ≡ true
    → 1 ≤ hits rows g f
unfolding hits
member_hits g f r [] m h = elim m [ ]
member_hits g f r (s ∷ rows) (Memᴰ.head e) h = rw (← ap (λ (t : Span _). holds t g f) e, h) (omega arith)
member_hits g f r (s ∷ rows) (Memᴰ.tail m) h =
    let ih = member_hits g f r rows m h in
    cases (holds s g f) (λ t. rw t (omega arith)) (λ t. rw t ih)

-- a frame that is due is covered
due_some : {A : Type 0} (o : Option A) → 1 ≤ due o → (v : A) × (o ≡ some v)
unfolding due
due_some none h = absurd (omega arith)
due_some (some v) h = (v, refl)

-- ---- the covered frames, each a piece

-- spans whose first frame is at most their last
abbrev Ordered : {A : Type 0} → List (Span A) → Type 0
Ordered {A} l = (s : Span A) → Memᴰ s l → s.first ≤ s.last

-- each piece is a proper span
module _ {A : Type 0} (val : ℕ → ℕ → Option A) where
  frames_ordered : (g f count : ℕ) (rest : List (Span A)) → Ordered rest → Ordered (frames_from val g f count rest)
  unfolding frames_from place
  frames_ordered g f zero rest o = o
  frames_ordered g f (suc count) rest o =
      placed (val g f) (frames_from val g (suc f) count rest) (frames_ordered g (suc f) count rest o)
    where
      placed : (v : Option A) (l : List (Span A)) → Ordered l → Ordered (place v g f l)
      placed none l o = o
      placed (some v) l o = λ s m. elim (Memᴰ.cases_cons m) [ inl e ↦ rw e (omega arith) | inr n ↦ o s n ]

  groups_ordered : (frames g count : ℕ) → Ordered (groups_from val frames g count)
  unfolding groups_from
  groups_ordered frames g zero = λ s m. absurd (Memᴰ.not-nil m)
  groups_ordered frames g (suc count) = frames_ordered g 0 frames _ (groups_ordered frames (suc g) count)

-- ---- labelled

-- what a frame costs under its row's label
label_cost : {V' L : Type 0} → Cost V' L → (ℕ → ℕ → Option V') → List (Span L) → ℕ → ℕ → ℕ
label_cost C val rows g f = frame_cost C.cost (val g f) (value_in rows g f)

-- pieces that the rows label: there are none, or their labels begin with that of the first piece's row, with at most e parts
-- and cost c
data Labelled {V' L : Type 0} (C : Cost V' L) (rows : List (Span L)) : List (Span V') → ℕ → ℕ → Type 0 where
  nothing : {e c : ℕ} → Labelled C rows [] e c
  begun : {p : Span V'} {ps : List (Span V')} {z : L} {k e c : ℕ} → Labelling C (p ∷ ps) z k c
      → value_in rows p.group p.first ≡ some z → k ≤ e → Labelled C rows (p ∷ ps) e c

module _ {V' L : Type 0} (C : Cost V' L) (rows : List (Span L)) where
  -- more parts and more cost
  weaken : {l : List (Span V')} {e c : ℕ} (E D : ℕ) → e ≤ E → c ≤ D → Labelled C rows l e c → Labelled C rows l E D
  weaken E D more dearer nothing = nothing
  weaken E D more dearer (begun l label le) = begun {e = E} (afford C l dearer) label (omega arith)

  -- a frame before pieces that are labelled
  module _ (g f : ℕ) (v : V') (z : L) (e c E D : ℕ) (ok : C.ok v z) (label : value_in rows g f ≡ some z)
      (dearer : C.cost v z + c ≤ D) where
    -- its cost, as a piece's
    weighs : span_length (one_frame g f v) * C.cost v z + c ≤ D
    unfolding one_frame span_length
    weighs =
        let single : suc f - f ≡ 1 = omega arith in
        rw (single, one-mul) dearer

    -- where its row ends
    turned : {l : List (Span V')} → suc e ≤ E → Labelled C rows l e c → Labelled C rows (one_frame g f v ∷ l) E D
    unfolding one_frame
    turned more nothing = begun {e = E} (one {p = one_frame g f v} {c = D} ok (omega (arith, weighs))) label (omega arith)
    turned more (begun l first le) = begun {e = E} (turn {p = one_frame g f v} ok l weighs) label (omega arith)

    -- where its row contains the next piece too
    stayed : {p : Span V'} {ps : List (Span V')} → e ≤ E → adjacent (one_frame g f v) p ≡ true
        → value_in rows p.group p.first ≡ some z → Labelled C rows (p ∷ ps) e c
        → Labelled C rows (one_frame g f v ∷ p ∷ ps) E D
    unfolding one_frame
    stayed more adj next (begun {p = p} {ps = ps} {z = y} {k = k} l first le) =
        let same : y ≡ z = some-injective y z (sym first ∙ next) in
        begun {e = E}
        (stay {p = one_frame g f v} ok adj (subst (λ (x : L). Labelling C (p ∷ ps) x k c) same l) weighs) label (omega arith)

-- the frames after a frame begin with the next one, where it is covered
next_frame : {A : Type 0} (val : ℕ → ℕ → Option A) (g f count : ℕ) (rest : List (Span A)) (v : A) → val g f ≡ some v
    → 1 ≤ count → (l : List (Span A)) × (frames_from val g f count rest ≡ one_frame g f v ∷ l)
unfolding frames_from place one_frame
next_frame val g f zero rest v e h = absurd (omega arith)
next_frame val g f (suc count) rest v e h = (frames_from val g (suc f) count rest, rw e)

module _ {V' L : Type 0} (C : Cost V' L) (val : ℕ → ℕ → Option V') (groups frames : ℕ)
    (inside : (g f : ℕ) (v : V') → val g f ≡ some v → (g < groups) × (f < frames))
    (rows : List (Span L)) (fits : Fits val rows) (allowed : Allowed C val rows) where
  -- a frame that a row contains is covered
  covered : (g f : ℕ) → 1 ≤ hits rows g f → (v : V') × (val g f ≡ some v)
  covered g f h = due_some (val g f) (omega (arith, fits.exact g f))

  -- each row ends inside
  row_inside : (r : Span L) → Memᴰ r rows → (r.group < groups) × (r.last < frames)
  row_inside r m =
      let held = true_holds r r.group r.last refl (fits.ordered r m) (omega arith) in
      let v = covered r.group r.last (member_hits _ _ r rows m held) in
      inside r.group r.last v.0 v.1

  -- each row ends once
  ends_once : over_frames groups frames (ends rows) ≡ length rows
  unfolding ends tip span_length
  ends_once =
      over_frames-sum_of groups frames (λ g f r. cond (holds (tip r) g f) 1 0) rows
      ∙ sum_of_cong _ (λ r. 1) rows
      (λ r m. over_frames-holds groups frames 1 (tip r) (row_inside r m).0 (row_inside r m).1 ∙ omega arith)
      ∙ sum_of_ones rows

  -- a frame before frames that are labelled: where it is covered, its part ends with it if a row does
  module _ (g f count : ℕ) (count-frames : f + suc count ≡ frames) (rest : List (Span V')) (e c E D : ℕ)
      (more : ends rows g f + e ≤ E) (dearer : label_cost C val rows g f + c ≤ D) where
    added : (v : Option V') → val g f ≡ v → Labelled C rows (frames_from val g (suc f) count rest) e c
        → Labelled C rows (place v g f (frames_from val g (suc f) count rest)) E D
    unfolding place one_frame label_cost frame_cost due
    added none eq l = weaken C rows E D (omega arith) (omega arith) l
    added (some v) eq l = by_ends (ends rows g f) refl
      where
        once : hits rows g f ≡ 1
        once = fits.exact g f ∙ ap due eq

        by_ends : (n : ℕ) → ends rows g f ≡ n
            → Labelled C rows (one_frame g f v ∷ frames_from val g (suc f) count rest) E D
        by_ends zero none-ends =
            let q = labelled_frame g f rows (omega (arith, once)) in
            let on = hits_go_on g f rows none-ends in
            let w = covered g (suc f) (omega (arith, once)) in
            let n = next_frame val g (suc f) count rest w.0 w.1 (omega (arith, (inside g (suc f) w.0 w.1).1)) in
            let next-once : hits rows g (suc f) ≡ 1 = fits.exact g (suc f) ∙ ap due w.1 in
            rw n.1
            (stayed C rows g f v q.0 e c E D (allowed g f v q.0 eq q.1) q.1 (rw (eq, q.1) at dearer)
            (omega arith) (true_adjacent (one_frame g f v) (one_frame g (suc f) w.0) refl refl)
            (label_goes_on g f rows none-ends once (omega arith) ∙ q.1) (rw n.1 at l))
        by_ends (suc n) some_end =
            let q = labelled_frame g f rows (omega (arith, once)) in
            turned C rows g f v q.0 e c E D (allowed g f v q.0 eq q.1) q.1
            (rw (eq, q.1) at dearer) (omega arith) l

  -- the frames of a group from f on, before pieces that are labelled
  frames_labelled : (g f count : ℕ) → f + count ≡ frames → (rest : List (Span V')) (e c : ℕ) → Labelled C rows rest e c
      → Labelled C rows (frames_from val g f count rest) (sum_from f count (ends rows g) + e)
      (sum_from f count (label_cost C val rows g) + c)
  unfolding frames_from sum_from
  frames_labelled g f zero t rest e c l = simp zero-add l
  frames_labelled g f (suc count) t rest e c l =
      added g f count t rest _ _ _ _ (omega arith) (omega arith) (val g f) refl
      (frames_labelled g (suc f) count (omega arith) rest e c l)

  -- the frames of the groups from g on
  groups_labelled : (g count : ℕ)
      → Labelled C rows (groups_from val frames g count) (sum_from g count (λ i. sum_from 0 frames (ends rows i)))
      (sum_from g count (λ i. sum_from 0 frames (label_cost C val rows i)))
  unfolding groups_from sum_from
  groups_labelled g zero = nothing
  groups_labelled g (suc count) = frames_labelled g 0 frames (zero-add frames) _ _ _ (groups_labelled (suc g) count)

  -- the frames are labelled by their rows
  labelled : Labelled C rows (groups_from val frames 0 groups) (length rows) (error_under C val groups frames rows)
  unfolding error_under over_frames label_cost
  labelled = rw ends_once at (groups_labelled 0 groups)

  -- a fitting list of rows, and labels of the segments with no more parts than rows and no more cost
  pub fitting_labels_segments : (segments_of C.same val groups frames ≡ [])
      ⊎ ((z : L) × (k : ℕ) × (c : ℕ) × Labelling C (segments_of C.same val groups frames) z k c
      × (k ≤ length rows) × (c ≤ error_under C val groups frames rows))
  unfolding segments_of
  fitting_labels_segments = segmented labelled (groups_ordered val frames 0 groups)
    where
      segmented : {pieces : List (Span V')} {e d : ℕ} → Labelled C rows pieces e d → Ordered pieces
          → (foldr (fuse C.same) [] pieces ≡ [])
          ⊎ ((z : L) × (k : ℕ) × (c : ℕ) × Labelling C (foldr (fuse C.same) [] pieces) z k c × (k ≤ e) × (c ≤ d))
      segmented nothing o = inl refl
      segmented (begun {e = e} {c = c} l s le) o =
          let r = exchange C o l in
          inr (r.0, r.1, c, r.2, omega arith, omega arith)
