-- The segments are exactly the longest stretches of covered frames of one group with equal value, in order; and a weight
-- that adds up where spans are joined has the same sum over the segments as over the covered frames. Assumes nothing.
use Prim.Native.Nat.{ℕ, zero, suc, ◌+◌, ◌*◌, ◌-◌, ◌≤◌, ◌<◌}
use mathlib.Core.Bool.{Bool, true, false, ◌&&◌, cond}
use mathlib.Core.List.Memᴰ
use mathlib.Core.List.{List, [], ◌∷◌, foldr, Memᴰ}
use mathlib.Core.Logic.{◌⊎◌, inl, inr, ⊎_elim}
use mathlib.Core.Option.{Option, none, some}
use mathlib.Core.Path.{◌≡◌, refl, sym, ap, ◌∙◌, subst}
use native.Mathlib.Omega.{arith}
use native.Mathlib.Nat.{le_refl, le_antisymm, not-suc-le-zero}
use lib.Dec.{leb, ltb, eqb}
use lib.ListN.{length, get_or}
use borrow.Author.Tests.{leb-true, leb-false, eqb-true, eqb-false, ltb-true}
use Rattle.model.specs.Common.{sum_from, sum_of}
use Rattle.model.specs.Spans.{Span, group_count, frame_count, span_length, holds, adjacent, nowhere}
use Rattle.model.specs.Log.{value}
use Rattle.model.specs.Segments.{join, fuse, place, frames_from, groups_from, segments_of, segments}
use Rattle.model.specs.Blocks.{segment_at}
use Rattle.model.specs.Fitting.{hits, due, over_frames}
use Rattle.model.specs.Demands.{Segmentation}
use Rattle.theory.proofs.Tests.{true≢false, cases, and-true, is_false, holds_true, true_holds, false_holds, adjacent_true, true_adjacent}
use Rattle.theory.proofs.Sums.{over_frames_cong, over_frames-sum_of, over_frames-holds}

-- ---- chains: a property of each element of a list, and a relation between neighbours

module _ {A : Type 0} where
  -- the first element, if there is one
  abbrev pub Heads : (A → Type 0) → List A → Type 0
  Heads P [] = Unit {0}
  Heads P (a ∷ l) = P a

  -- each element has the property, and each but the last is related to the next
  abbrev pub Chain : (A → Type 0) → (A → A → Type 0) → List A → Type 0
  Chain P R [] = Unit {0}
  Chain P R (a ∷ l) = P a × Heads (R a) l × Chain P R l

  -- a weaker property of the first element
  pub heads_map : {P Q : A → Type 0} (l : List A) → ((a : A) → P a → Q a) → Heads P l → Heads Q l
  heads_map [] k h = tt
  heads_map (a ∷ l) k h = k a h

module _ {A : Type 0} (P : A → Type 0) (R : A → A → Type 0) where
  -- a chain's first element, its members and its neighbours by number
  pub chain_heads : (l : List A) → Chain P R l → Heads P l
  chain_heads [] c = tt
  chain_heads (a ∷ l) c = c.0

  pub chain_member : (l : List A) → Chain P R l → (a : A) → Memᴰ a l → P a
  chain_member [] c a m = elim m [ ]
  chain_member (b ∷ l) c a m =
      ⊎_elim (λ e. subst P (sym e) c.0) (λ n. chain_member l c.2 a n) (Memᴰ.cases_cons m)

  pub chain_neighbours : (l : List A) → Chain P R l → (d : A) (i : ℕ) → suc i < length l
      → R (get_or l i d) (get_or l (suc i) d)
  chain_neighbours [] c d i h = absurd (not-suc-le-zero h)
  chain_neighbours (a ∷ []) c d i h = absurd (omega arith)
  chain_neighbours (a ∷ b ∷ l) c d zero h = c.1
  chain_neighbours (a ∷ b ∷ l) c d (suc i) h = chain_neighbours (b ∷ l) c.2 d i (omega arith)

  module _ (trans : (a b c : A) → P b → R a b → R b c → R a c) where
    -- where the relation is transitive, the first element is related to all others, and any two members are related
    pub chain_later : (a : A) (l : List A) → Heads (R a) l → Chain P R l → (b : A) → Memᴰ b l → R a b
    chain_later a [] h c b m = elim m [ ]
    chain_later a (d ∷ l) h c b m =
        ⊎_elim (λ e. subst (R a) (sym e) h) (λ n. chain_later a l (heads_map l (λ x r. trans a d x c.0 h r) c.1) c.2 b n)
        (Memᴰ.cases_cons m)

    pub chain_members : (l : List A) → Chain P R l → (a b : A) → Memᴰ a l → Memᴰ b l → (a ≡ b) ⊎ (R a b ⊎ R b a)
    chain_members [] c a b m n = elim m [ ]
    chain_members (d ∷ l) c a b m n = by (Memᴰ.cases_cons m) (Memᴰ.cases_cons n) (chain_members l c.2 a b)
      where
        by : (a ≡ d) ⊎ Memᴰ a l → (b ≡ d) ⊎ Memᴰ b l
            → (Memᴰ a l → Memᴰ b l → (a ≡ b) ⊎ (R a b ⊎ R b a)) → (a ≡ b) ⊎ (R a b ⊎ R b a)
        by (inl e) (inl f) ih = inl (e ∙ sym f)
        by (inl e) (inr n) ih = inr (inl (rw e (chain_later d l c.1 c.2 b n)))
        by (inr m) (inl f) ih = inr (inr (rw f (chain_later d l c.1 c.2 a m)))
        by (inr m) (inr n) ih = ih m n

-- ---- spans of one frame, and what they weigh

-- the span of frame f of group g alone
unfoldable pub one_frame : {A : Type 0} → ℕ → ℕ → A → Span A
one_frame g f v = record { group = g; first = f; last = f; value = v }

-- what a frame is worth by its value, 0 without one
unfoldable pub worth : {A : Type 0} → (A → ℕ) → Option A → ℕ
worth h none = 0
worth h (some v) = h v

-- `hits` is a sum
pub hits_sum : {A : Type 0} (l : List (Span A)) (g f : ℕ) → hits l g f ≡ sum_of (λ s. cond (holds s g f) 1 0) l
unfolding hits sum_of
hits_sum [] g f = refl
hits_sum (s ∷ l) g f =
    let ih = hits_sum l g f in
    cases (holds s g f) (λ e. rw e (omega arith)) (λ e. rw e (omega arith))

-- a frame that is hit lies in a member
hits_member : {A : Type 0} (l : List (Span A)) (g f : ℕ) → 1 ≤ hits l g f
    → (s : Span A) × Memᴰ s l × (holds s g f ≡ true)
unfolding hits
hits_member [] g f h = absurd (omega arith)
hits_member (s ∷ l) g f h =
    cases (holds s g f) (λ e. (s, Memᴰ.head refl, e))
    (λ e. let (t, m, held) = hits_member l g f (rw e at h) in (t, Memᴰ.tail m, held))

-- the summand of frame f of group g
unfoldable pub frame_weight : {A : Type 0} → (Span A → ℕ) → (ℕ → ℕ → Option A) → ℕ → ℕ → ℕ
frame_weight w val g f = worth (λ v. w (one_frame g f v)) (val g f)

module _ {A : Type 0} (w : Span A → ℕ) (val : ℕ → ℕ → Option A) where
  -- a sum over the covered frames: of one place, of a stretch of a group, and of groups
  place_sum : (o : Option A) (g f : ℕ) (rest : List (Span A))
      → sum_of w (place o g f rest) ≡ worth (λ v. w (one_frame g f v)) o + sum_of w rest
  unfolding place worth one_frame sum_of
  place_sum none g f rest = omega arith
  place_sum (some v) g f rest = refl

  frames_sum : (g f count : ℕ) (rest : List (Span A))
      → sum_of w (frames_from val g f count rest) ≡ sum_from f count (frame_weight w val g) + sum_of w rest
  unfolding frames_from sum_from frame_weight
  frames_sum g f zero rest = omega arith
  frames_sum g f (suc count) rest =
      let ih = frames_sum g (suc f) count rest in
      let here = place_sum (val g f) g f (frames_from val g (suc f) count rest) in
      omega arith

  groups_sum : (frames g count : ℕ)
      → sum_of w (groups_from val frames g count) ≡ sum_from g count (λ g. sum_from 0 frames (frame_weight w val g))
  unfolding groups_from sum_from sum_of
  groups_sum frames g zero = refl
  groups_sum frames g (suc count) =
      let ih = groups_sum frames (suc g) count in
      let here = frames_sum g 0 frames (groups_from val frames (suc g) count) in
      omega arith

-- ---- pieces: spans of covered frames with one value, in order

module _ {A : Type 0} where
  -- the span begins at frame f of group g, or behind it
  abbrev pub From : ℕ → ℕ → Span A → Type 0
  From g f t = (g < t.group) ⊎ ((g ≡ t.group) × (f ≤ t.first))

  -- one span stands before another, with no frame in common
  abbrev pub Earlier : Span A → Span A → Type 0
  Earlier s t = From s.group (suc s.last) t

  -- the span has a frame, and all its frames have its value
  abbrev pub Piece : (ℕ → ℕ → Option A) → Span A → Type 0
  Piece val s = (s.first ≤ s.last) × ((f : ℕ) → s.first ≤ f → f ≤ s.last → val s.group f ≡ some s.value)

  -- one span stands before another, and `fuse` leaves the two apart
  abbrev pub Apart : (A → A → Bool) → Span A → Span A → Type 0
  Apart same s t = Earlier s t × (adjacent s t && same s.value t.value ≡ false)

  -- a span with frames stands between two that are apart from it, so these are apart
  apart_trans : (same : A → A → Bool) (val : ℕ → ℕ → Option A) (s t u : Span A) → Piece val t → Apart same s t
      → Apart same t u → Apart same s u
  apart_trans same val s t u p a b = (
    (by a.0 b.0).0,
    is_false _ (λ e. (by a.0 b.0).1 (adjacent_true s u (and-true _ _ e).0)),
  )
    where
      by : Earlier s t → Earlier t u → Earlier s u × ((s.group ≡ u.group) × (suc s.last ≡ u.first) → ⊥)
      by (inl h) (inl k) = (inl (omega arith), λ e. omega arith)
      by (inl h) (inr k) = (inl (omega arith), λ e. omega arith)
      by (inr h) (inl k) = (inl (omega arith), λ e. omega arith)
      by (inr h) (inr k) = (inr (omega arith, omega arith), λ e. omega arith)

  -- what begins in a later group, or at a later frame, begins later
  next_group : (g f : ℕ) (t : Span A) → From (suc g) 0 t → From g f t
  next_group g f t (inl h) = inl (omega arith)
  next_group g f t (inr h) = inl (omega arith)

  next_frame : (g f : ℕ) (t : Span A) → From g (suc f) t → From g f t
  next_frame g f t (inl h) = inl h
  next_frame g f t (inr h) = inr (h.0, omega arith)

-- ---- the covered frames are a chain of pieces

module _ {A : Type 0} (val : ℕ → ℕ → Option A) where
  -- of one place, of a stretch of a group, and of groups, with where the chain begins
  place_chain : (g f : ℕ) (rest : List (Span A)) (o : Option A) → val g f ≡ o
      → Chain (Piece val) Earlier rest → Heads (From g (suc f)) rest
      → Chain (Piece val) Earlier (place o g f rest) × Heads (From g f) (place o g f rest)
  unfolding place
  place_chain g f rest none e c h = (c, heads_map rest (next_frame g f) h)
  place_chain g f rest (some v) e c h =
      (((le_refl f, λ f' a b. let same : f' ≡ f = omega arith in rw same e), h, c), inr (refl, le_refl f))

  frames_chain : (g f count : ℕ) (rest : List (Span A)) → Chain (Piece val) Earlier rest → Heads (From (suc g) 0) rest
      → Chain (Piece val) Earlier (frames_from val g f count rest) × Heads (From g f) (frames_from val g f count rest)
  unfolding frames_from
  frames_chain g f zero rest c h = (c, heads_map rest (next_group g f) h)
  frames_chain g f (suc count) rest c h =
      let ih = frames_chain g (suc f) count rest c h in
      place_chain g f (frames_from val g (suc f) count rest) (val g f) refl ih.0 ih.1

  groups_chain : (frames g count : ℕ)
      → Chain (Piece val) Earlier (groups_from val frames g count) × Heads (From g 0) (groups_from val frames g count)
  unfolding groups_from
  groups_chain frames g zero = (tt, tt)
  groups_chain frames g (suc count) =
      let ih = groups_chain frames (suc g) count in
      frames_chain g 0 frames (groups_from val frames (suc g) count) ih.0 ih.1

-- ---- fusing keeps pieces pieces, and what they weigh together

module _ {A : Type 0} (same : A → A → Bool) (same_eq : (v w : A) → same v w ≡ true → v ≡ w)
    (val : ℕ → ℕ → Option A) where
  -- a fused list begins where the list does
  fuse_heads : (g f : ℕ) (s : Span A) (l : List (Span A)) → From g f s → Heads (From g f) (fuse same s l)
  unfolding fuse join
  fuse_heads g f s [] h = h
  fuse_heads g f s (t ∷ l) h =
      cases (adjacent s t && same s.value t.value) (λ e. rw e h) (λ e. rw e h)

  -- two adjacent pieces of one value join to a piece
  join_piece : (s t : Span A) → s.group ≡ t.group → suc s.last ≡ t.first → s.value ≡ t.value
      → Piece val s → Piece val t → Piece val (join s t)
  unfolding join
  join_piece s t in_group next in-value p q = (
    omega arith,
    λ f a b.
        cases (leb f s.last) (λ e. p.1 f a (leb-true f s.last e))
        (λ e. rw (in_group, in-value) (q.1 f (omega (arith, leb-false f s.last e)) b)),
  )

  -- and stay apart from what the second one is apart from
  join_apart : (s t : Span A) (l : List (Span A)) → s.group ≡ t.group → s.value ≡ t.value
      → Heads (Apart same t) l → Heads (Apart same (join s t)) l
  unfolding join adjacent
  join_apart s t l in_group in-value h = heads_map l (λ u a. rw (in_group, in-value) a) h

  -- a piece fused to a chain of pieces that are apart gives such a chain
  fuse_chain : (s : Span A) (l : List (Span A)) → Piece val s → Heads (Earlier s) l → Chain (Piece val) (Apart same) l
      → Chain (Piece val) (Apart same) (fuse same s l)
  unfolding fuse
  fuse_chain s [] p h c = (p, tt, tt)
  fuse_chain s (t ∷ l) p h c =
      cases (adjacent s t && same s.value t.value)
      (λ e.
      let both = and-true _ _ e in
      let near = adjacent_true s t both.0 in
      let alike = same_eq _ _ both.1 in
      rw e (join_piece s t near.0 near.1 alike p c.0, join_apart s t l near.0 alike c.1, c.2))
      (λ e. rw e (p, (h, e), c))

  -- the same for a list fused from the right
  fused_heads : (g f : ℕ) (l : List (Span A)) → Heads (From g f) l → Heads (From g f) (foldr (fuse same) [] l)
  fused_heads g f [] h = tt
  fused_heads g f (s ∷ l) h = fuse_heads g f s (foldr (fuse same) [] l) h

  -- and so does a chain of pieces fused from the right
  pub fused_chain : (l : List (Span A)) → Chain (Piece val) Earlier l
      → Chain (Piece val) (Apart same) (foldr (fuse same) [] l)
  fused_chain [] c = tt
  fused_chain (s ∷ l) c =
      fuse_chain s (foldr (fuse same) [] l) c.0 (fused_heads _ _ l c.1) (fused_chain l c.2)

  module _ (w : Span A → ℕ)
      (adds : (s t : Span A) → s.first ≤ s.last → t.first ≤ t.last → s.group ≡ t.group → suc s.last ≡ t.first
      → s.value ≡ t.value → w (join s t) ≡ w s + w t) where
    -- fusing keeps the sum
    fuse_sum : (s : Span A) (l : List (Span A)) → Piece val s → Heads (Piece val) l
        → sum_of w (fuse same s l) ≡ w s + sum_of w l
    unfolding fuse sum_of
    fuse_sum s [] p h = refl
    fuse_sum s (t ∷ l) p h =
        cases (adjacent s t && same s.value t.value)
        (λ e.
        let both = and-true _ _ e in
        let near = adjacent_true s t both.0 in
        rw e (omega (arith, adds s t p.0 h.0 near.0 near.1 (same_eq _ _ both.1))))
        (λ e. rw e)

    fused_sum : (l : List (Span A)) → Chain (Piece val) Earlier l → sum_of w (foldr (fuse same) [] l) ≡ sum_of w l
    unfolding sum_of
    fused_sum [] c = refl
    fused_sum (s ∷ l) c =
        fuse_sum s (foldr (fuse same) [] l) c.0
        (chain_heads (Piece val) (Apart same) (foldr (fuse same) [] l) (fused_chain l c.2))
        ∙ ap (λ (n : ℕ). w s + n) (fused_sum l c.2)

-- ---- the segments

-- a frame lies in a span that reaches over two adjacent ones exactly if it lies in one of them, and never in both
pub holds_joined : {A B D : Type 0} (r : Span A) (s : Span B) (t : Span D) → r.group ≡ s.group → r.first ≡ s.first
    → r.last ≡ t.last → s.first ≤ s.last → t.first ≤ t.last → s.group ≡ t.group → suc s.last ≡ t.first
    → (g f c : ℕ) → cond (holds r g f) c 0 ≡ cond (holds s g f) c 0 + cond (holds t g f) c 0
holds_joined r s t e-group e-first e-last p q in_group next g f c =
    cases (holds s g f) (λ a. rw (a, not_both a, left a) (omega arith))
    (λ a. cases (holds t g f) (λ b. rw (a, b, right b) (omega arith)) (λ b. rw (a, b, neither a b) (omega arith)))
  where
    not_both : holds s g f ≡ true → holds t g f ≡ false
    not_both a = let x = holds_true s g f a in false_holds t g f (λ i j k. omega arith)

    left : holds s g f ≡ true → holds r g f ≡ true
    left a = let x = holds_true s g f a in true_holds r g f (omega arith) (omega arith) (omega arith)

    right : holds t g f ≡ true → holds r g f ≡ true
    right b = let x = holds_true t g f b in true_holds r g f (omega arith) (omega arith) (omega arith)

    neither : holds s g f ≡ false → holds t g f ≡ false → holds r g f ≡ false
    neither a b =
        false_holds r g f
        (λ i j k.
        cases (leb f s.last)
        (λ d. true≢false (sym (true_holds s g f (omega arith) (omega arith) (leb-true f s.last d)) ∙ a))
        (λ d.
        let d' = leb-false f s.last d in
        true≢false (sym (true_holds t g f (omega arith) (omega arith) (omega arith)) ∙ b)))

module _ {A : Type 0} (same : A → A → Bool) (same_eq : (v w : A) → same v w ≡ true → v ≡ w)
    (val : ℕ → ℕ → Option A) (groups frames : ℕ) where
  -- the segments are a chain of pieces that are apart
  pub segments_chain : Chain (Piece val) (Apart same) (segments_of same val groups frames)
  unfolding segments_of
  segments_chain = fused_chain same same_eq val (groups_from val frames 0 groups) (groups_chain val frames 0 groups).0

  -- a weight that adds up where spans are joined, over all segments
  pub segments_sum : (w : Span A → ℕ)
      → ((s t : Span A) → s.first ≤ s.last → t.first ≤ t.last → s.group ≡ t.group → suc s.last ≡ t.first
      → s.value ≡ t.value → w (join s t) ≡ w s + w t)
      → sum_of w (segments_of same val groups frames) ≡ over_frames groups frames (frame_weight w val)
  unfolding segments_of over_frames
  segments_sum w adds =
      fused_sum same same_eq val w adds (groups_from val frames 0 groups) (groups_chain val frames 0 groups).0
      ∙ groups_sum w val frames 0 groups

  -- length × what the value is worth, over all segments, is the worth of all frames
  pub segments_weigh : (h : A → ℕ)
      → sum_of (λ s. span_length s * h s.value) (segments_of same val groups frames)
      ≡ over_frames groups frames (λ g f. worth h (val g f))
  unfolding frame_weight one_frame join span_length worth
  segments_weigh h =
      segments_sum (λ s. span_length s * h s.value)
      (λ s t p q in_group next alike.
      let whole : suc t.last - s.first ≡ (suc s.last - s.first) + (suc t.last - t.first) = omega arith in
      rw (whole, alike) (omega arith))
      ∙ over_frames_cong groups frames _ _ (λ g f in_groups in_frames. one_frame_lem f (val g f))
    where
      one_frame_lem : (f : ℕ) (o : Option A) → worth (λ v. (suc f - f) * h v) o ≡ worth h o
      one_frame_lem f none = refl
      one_frame_lem f (some v) = let one : suc f - f ≡ 1 = omega arith in rw one (omega arith)

  module _ (inside : (g f : ℕ) (v : A) → val g f ≡ some v → (g < groups) × (f < frames)) where
    -- every frame lies in as many segments as it is due
    pub exact : (g f : ℕ) → hits (segments_of same val groups frames) g f ≡ due (val g f)
    unfolding frame_weight join one_frame worth span_length due sum_of
    exact g f =
        hits_sum (segments_of same val groups frames) g f
        ∙ segments_sum (λ s. cond (holds s g f) 1 0)
        (λ s t p q in_group next alike. holds_joined (join s t) s t refl refl refl p q in_group next g f 1)
        ∙ over_frames_cong groups frames _ _ (λ g' f' a b. moved g' f' (val g' f') refl)
        ∙ counted (val g f) refl
      where
        -- to contain the frame is to be contained in it
        moved : (g' f' : ℕ) (o : Option A) → val g' f' ≡ o
            → worth (λ v. cond (holds (one_frame g' f' v) g f) 1 0) o ≡ cond (holds (one_frame g f zero) g' f') (due (val g f)) 0
        moved g' f' none e =
            cases (holds (one_frame g f zero) g' f')
            (λ a.
            let x = holds_true (one_frame g f zero) g' f' a in
            let y : val g f ≡ none = cc (e, x.0, le_antisymm x.1 x.2) in
            rw (a, y))
            (λ a. rw a)
        moved g' f' (some v) e =
            cases (holds (one_frame g f zero) g' f')
            (λ a.
            let x = holds_true (one_frame g f zero) g' f' a in
            let y : val g f ≡ some v = cc (e, x.0, le_antisymm x.1 x.2) in
            let b : holds (one_frame g' f' v) g f ≡ true =
            true_holds (one_frame g' f' v) g f (sym x.0) x.2 x.1 in
            rw (a, b, y))
            (λ a.
            let b : holds (one_frame g' f' v) g f ≡ false =
            false_holds (one_frame g' f' v) g f
            (λ i j k. true≢false (sym (true_holds (one_frame g f zero) g' f' (sym i) k j) ∙ a)) in
            rw (a, b))

        counted : (o : Option A) → val g f ≡ o
            → over_frames groups frames (λ g' f'. cond (holds (one_frame g f zero) g' f') (due o) 0) ≡ due o
        counted none e =
            over_frames_cong groups frames _ (λ g' f'. 0)
            (λ g' f' a b. cases (holds (one_frame g f zero) g' f') (λ e. rw e) (λ e. rw e))
            ∙ over_frames-sum_of groups frames {A = ℕ} (λ g' f' a. 0) []
        counted (some v) e =
            let i = inside g f v e in
            over_frames-holds groups frames 1 (one_frame g f zero) i.0 i.1 ∙ omega arith

    -- a segment has a frame, and lies among the groups and frames
    pub ordered : (s : Span A) → Memᴰ s (segments_of same val groups frames)
        → (s.first ≤ s.last) × (s.group < groups) × (s.last < frames)
    ordered s m =
        let p = chain_member (Piece val) (Apart same) (segments_of same val groups frames) segments_chain s m in
        let i = inside s.group s.last s.value (p.1 s.last p.0 (le_refl _)) in
        (p.0, i.0, i.1)

    -- every frame of a segment has the segment's value
    pub constant : (s : Span A) → Memᴰ s (segments_of same val groups frames) → (f : ℕ) → s.first ≤ f
        → f ≤ s.last → val s.group f ≡ some s.value
    constant s m = (chain_member (Piece val) (Apart same) (segments_of same val groups frames) segments_chain s m).1

    -- neighbours stand in order
    pub sorted : (d : Span A) (i : ℕ) → suc i < length (segments_of same val groups frames)
        → Earlier (get_or (segments_of same val groups frames) i d) (get_or (segments_of same val groups frames) (suc i) d)
    sorted d i h = (chain_neighbours (Piece val) (Apart same) (segments_of same val groups frames) segments_chain d i h).0

    -- a covered frame lies in a segment of its value
    covering : (g f : ℕ) (v : A) → val g f ≡ some v
        → (s : Span A) × Memᴰ s (segments_of same val groups frames) × (holds s g f ≡ true) × (s.value ≡ v)
    unfolding due
    covering g f v e =
        let (s, m, held) = hits_member (segments_of same val groups frames) g f (omega (arith, exact g f ∙ ap due e)) in
        let (in_group, from, to) = holds_true s g f held in
        (s, m, held, cc (constant s m f from to))

    module _ (same-neq : (v w : A) → same v w ≡ false → v ≡ w → ⊥) where
      -- adjacent neighbours differ in value
      pub differ : (d : Span A) (i : ℕ) → suc i < length (segments_of same val groups frames)
          → adjacent (get_or (segments_of same val groups frames) i d) (get_or (segments_of same val groups frames) (suc i) d) ≡ true
          → (get_or (segments_of same val groups frames) i d).value ≡ (get_or (segments_of same val groups frames) (suc i) d).value
          → ⊥
      differ d i h near =
          same-neq _ _
          (rw near at (chain_neighbours (Piece val) (Apart same) (segments_of same val groups frames) segments_chain d i h).1)

      -- two segments of one value that hold a frame and the frame after it are one
      one_segment : (s t : Span A) → Memᴰ s (segments_of same val groups frames)
          → Memᴰ t (segments_of same val groups frames) → s.value ≡ t.value → (g f : ℕ)
          → holds s g f ≡ true → holds t g (suc f) ≡ true → s ≡ t
      one_segment s t m n alike g f a b =
          by (holds_true s g f a) (holds_true t g (suc f) b)
          (chain_members (Piece val) (Apart same) (apart_trans same val) (segments_of same val groups frames) segments_chain s t m n)
        where
          by : (s.group ≡ g) × (s.first ≤ f) × (f ≤ s.last) → (t.group ≡ g) × (t.first ≤ suc f) × (suc f ≤ t.last)
              → (s ≡ t) ⊎ (Apart same s t ⊎ Apart same t s) → s ≡ t
          by p q (inl e) = e
          by p q (inr (inl (inl h, apart))) = absurd (omega arith)
          by p q (inr (inl (inr h, apart))) =
              absurd (same-neq _ _ (rw (true_adjacent s t h.0 (omega arith)) at apart) alike)
          by p q (inr (inr (inl h, apart))) = absurd (omega arith)
          by p q (inr (inr (inr h, apart))) = absurd (omega arith)

      -- the frames after and before a segment do not have its value
      pub longest : (s : Span A) → Memᴰ s (segments_of same val groups frames)
          → (val s.group (suc s.last) ≡ some s.value → ⊥)
          × ((f : ℕ) → suc f ≡ s.first → val s.group f ≡ some s.value → ⊥)
      longest s m =
          let some_frame = (ordered s m).0 in (
            λ e.
                let (t, n, held, alike) = covering s.group (suc s.last) s.value e in
                let last-in = true_holds s s.group s.last refl some_frame (le_refl _) in
                let one = one_segment s t m n (sym alike) s.group s.last last-in held in
                omega (arith, ap (λ u. u.last) one, holds_true t _ _ held),
            λ f next e.
                let (t, n, held, alike) = covering s.group f s.value e in
                let first-in = true_holds s s.group (suc f) refl (omega arith) (omega arith) in
                let one = one_segment t s n m alike s.group f held first-in in
                omega (arith, ap (λ u. u.first) one, holds_true t _ _ held),
          )

-- ---- the tool's segments

-- a frame that has a value is a frame of a group
pub value_inside : (kind width : ℕ) (rs : List (Span ℕ)) (g f v : ℕ) → value kind width rs g f ≡ some v
    → (g < group_count) × (f < frame_count)
unfolding value
value_inside kind width rs g f v e =
    cases (ltb g group_count && ltb f frame_count)
    (λ t. let both = and-true (ltb g group_count) (ltb f frame_count) t in (ltb-true _ _ both.0, ltb-true _ _ both.1))
    (λ t. let z : ◌≡◌ {A = ℕ} 0 1 = cc (rw t at e) in absurd (omega arith))

-- the segments of a log's records are its longest stretches
pub segmentation : (kind width : ℕ) (rs : List (Span ℕ)) → Segmentation (value kind width rs) (segments kind width rs)
unfolding segments segment_at
segmentation kind width rs =
    record {
      ordered = λ s m. (ordered eqb eqb-true (value kind width rs) group_count frame_count (value_inside kind width rs) s m).0;
      constant = constant eqb eqb-true (value kind width rs) group_count frame_count (value_inside kind width rs);
      exact = exact eqb eqb-true (value kind width rs) group_count frame_count (value_inside kind width rs);
      sorted = sorted eqb eqb-true (value kind width rs) group_count frame_count (value_inside kind width rs) nowhere;
      longest = longest eqb eqb-true (value kind width rs) group_count frame_count (value_inside kind width rs) eqb-false;
      differ = differ eqb eqb-true (value kind width rs) group_count frame_count (value_inside kind width rs) eqb-false nowhere;
    }
