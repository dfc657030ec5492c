-- Rows and segments walked together: what is so of the walk at every turn, and that a turn keeps it. Assumes nothing.
use Prim.Native.Nat.{ℕ, suc, ◌+◌, ◌*◌, ◌-◌, ◌≤◌, ◌<◌, min}
use mathlib.Core.Bool.{Bool, true, false, ◌&&◌, cond, and-true, and-false}
use mathlib.Core.List.{List, ◌∷◌, Memᴰ}
use mathlib.Core.Option.{Option}
use mathlib.Core.Path.{◌≡◌, refl, sym, ap, ◌∙◌}
use native.Mathlib.Nat.{le_refl}
use native.Mathlib.Numerals.{add-one}
use native.Mathlib.Omega.{arith}
use lib.Dec.{leb, eqb}
use lib.IntN.{pos}
use mir.Val.{bool_byte}
use borrow.Author.Tests.{eqb-true, eqb-false, eq-eqb, ne_eqb}
use Rattle.std.specs.Prelude as std
use Rattle.model.specs.Common.{sum_of, list_from}
use Rattle.model.specs.Spans.{Span, frame_count, span_length, holds}
use Rattle.model.specs.Blocks.{squared}
use Rattle.model.specs.Questions.{most_value}
use Rattle.model.specs.Room.{most_error}
use Rattle.slot.specs.Places.{place_of}
use Rattle.theory.proofs.Tests.{cases, true≢false}
use Rattle.theory.proofs.Lists.{list_from_left}
use Rattle.theory.proofs.Bounds.{mul_le, squared_le}
use Rattle.theory.proofs.Frames.{Heads, Piece}
use Rattle.theory.proofs.Converse.{list_from_member}
use Rattle.theory.proofs.InOrder.{InOrder}
use Rattle.theory.proofs.Stored.{Held}
use Rattle.compare.specs.declared.Front.{Front}
use Rattle.compare.specs.Fronts.{first_place, last_place, end_place, front_of}
use Rattle.compare.proofs.Fronts.{span, trim, clip, Reaches, trim_place, trim_from, Adds, span_length_lem, length_adds, holds_adds, holds_alike, cost_in, cost_adds, cost_front, left, front_off, left_reaches}

-- what a row's number costs a frame: its squared difference, and 1 where it is below the frame's value
abbrev pub squares : ℕ → ℕ → ℕ
squares v r = squared v (pos r)

abbrev pub below : ℕ → ℕ → ℕ
below v r = cond (leb v r) 0 1

-- nothing falls short where nothing did before and the row is not below
none_short : (short frames v r : ℕ) → 0 < frames → eqb short 0 && leb v r ≡ eqb (short + frames * below v r) 0
none_short short frames v r some_frame =
    cases (leb v r)
    (λ t. rw t (let same : short + frames * 0 ≡ short = omega arith in rw same (and-true (eqb short 0))))
    (λ t. rw t (and-false (eqb short 0) ∙ sym (ne_eqb (short + frames * 1) 0 (λ e. omega arith))))

-- one further, where the one at hand is done
pub went_on : (done : Bool) (i : ℕ) → i + bool_byte done ≡ cond done (i + 1) i
went_on true i = refl
went_on false i = omega arith

pub one_at_most : (done : Bool) → bool_byte done ≤ 1
one_at_most true = omega arith
one_at_most false = omega arith

-- the front of two that begin together
the : Front → std.Option Front → Front
the f std.None = f
the f (std.Some g) = g

module _ (r s : Span ℕ) (p : ℕ) where
  pub fronted : (f : Front) → std.Some f ≡ front_of r s p
      → (first_place p r ≡ first_place p s)
      × (f
      ≡ record {
        first = first_place p s;
        next = end_place r s + 1;
        row_done = eqb (last_place r) (end_place r s);
        segment_done = eqb (last_place s) (end_place r s);
      })
  unfolding front_of the
  fronted f is =
      cases (eqb (first_place p r) (first_place p s)) (λ t. (eqb-true _ _ t, ap (the f) (rw t at is)))
      (λ t. absurd (true≢false (ap std.is_some (rw t at is))))

  pub not_fronted : ◌≡◌ {A = std.Option Front} std.None (front_of r s p) → first_place p r ≡ first_place p s → ⊥
  unfolding front_of
  not_fronted is level = true≢false (sym (ap std.is_some (rw (eq-eqb _ _ level) at is)))

-- rows h and segments k, by number
module _ (h k : ℕ → Span ℕ) (c n : ℕ) where
  abbrev pub rows : List (Span ℕ)
  rows = list_from 0 c h

  abbrev pub segs : List (Span ℕ)
  segs = list_from 0 n k

  -- those from a number on, of which only the first may begin before place p
  abbrev pub rows_left : ℕ → ℕ → List (Span ℕ)
  rows_left p i = clip p (list_from i (c - i) h)

  abbrev pub segs_left : ℕ → ℕ → List (Span ℕ)
  segs_left p j = clip p (list_from j (n - j) k)

  -- the frames of the segments have these values
  abbrev pub Valued : (ℕ → ℕ → Option ℕ) → Type 0
  Valued val = (s : Span ℕ) → Memᴰ s segs → Piece val s

  -- at row i and segment j, from place p on: what was taken off both holds the same frames, and its error and shortfall are known
  pub record Walk (i j p : ℕ) (reaches : Bool) (error : ℕ) : Type 0 where
    pub row : i ≤ c
    pub seg : j ≤ n
    pub row_order : InOrder (list_from i (c - i) h)
    pub seg_order : InOrder (list_from j (n - j) k)
    pub row_reaches : Heads (Reaches p) (list_from i (c - i) h)
    pub seg_reaches : Heads (Reaches p) (list_from j (n - j) k)
    pub same : (g f : ℕ)
        → sum_of (λ s. cond (holds s g f) 1 0) rows + sum_of (λ s. cond (holds s g f) 1 0) (segs_left p j)
        ≡ sum_of (λ s. cond (holds s g f) 1 0) segs + sum_of (λ s. cond (holds s g f) 1 0) (rows_left p i)
    pub bounded : error + most_value * most_value * sum_of span_length (segs_left p j) ≤ most_error
    pub error_left : (val : ℕ → ℕ → Option ℕ) → Valued val
        → error + sum_of (cost_in squares val) (rows_left p i) ≡ sum_of (cost_in squares val) rows
    pub short_left : (val : ℕ → ℕ → Option ℕ) → Valued val
        → (short : ℕ) × (short + sum_of (cost_in below val) (rows_left p i) ≡ sum_of (cost_in below val) rows) × (reaches ≡ eqb short 0)

-- what is left of spans by number, once a front is taken off
module _ (h : ℕ → Span ℕ) (c i p e : ℕ) (lt : i < c) (order : InOrder (list_from i (c - i) h))
    (from : (trim p (h i)).first ≤ e) (to : e ≤ (h i).last) (small : (h i).last < 65536) where
  abbrev others : List (Span ℕ)
  others = list_from (i + 1) (c - (i + 1)) h

  abbrev goes_on : ℕ
  goes_on = cond (eqb (last_place (h i)) (place_of (h i).group e)) (i + 1) i

  here : list_from i (c - i) h ≡ h i ∷ others
  here = rw (add-one i) (list_from_left h i c lt)

  in_order_lem : InOrder (h i ∷ others)
  in_order_lem = rw here at order

  gone_on : list_from goes_on (c - goes_on) h ≡ left p e (h i) others in_order_lem from to small
  gone_on =
      cases (eqb (last_place (h i)) (place_of (h i).group e)) (λ t. rw t) (λ t. rw (t, here))

  pub on_off : (w : Span ℕ → ℕ) → Adds w
      → sum_of w (clip p (list_from i (c - i) h))
      ≡ w (span (h i).group (trim p (h i)).first e (h i).value)
      + sum_of w (clip (place_of (h i).group e + 1) (list_from goes_on (c - goes_on) h))
  on_off w adds = rw (here, gone_on) (front_off p e (h i) others in_order_lem from to small w adds)

  pub on_reaches : Heads (Reaches (place_of (h i).group e + 1)) (list_from goes_on (c - goes_on) h)
  on_reaches = rw gone_on (left_reaches p e (h i) others in_order_lem from to small)

  pub on_order : InOrder (list_from goes_on (c - goes_on) h)
  on_order =
      rw gone_on
      (cases (eqb (last_place (h i)) (place_of (h i).group e)) (λ t. rw t in_order_lem.2) (λ t. rw t in_order_lem))

  pub on_le : goes_on ≤ c
  on_le = cases (eqb (last_place (h i)) (place_of (h i).group e)) (λ t. rw t (omega arith)) (λ t. rw t (omega arith))

-- one turn
module _ (h k : ℕ → Span ℕ) (c n : ℕ) (rows_held : (s : Span ℕ) → Memᴰ s (rows h k c n) → Held s)
    (segs_held : (s : Span ℕ) → Memᴰ s (segs h k c n) → Held s) (i j p : ℕ) (reaches : Bool) (error : ℕ)
    (w : Walk h k c n i j p reaches error) (lt : i < c) (lt' : j < n)
    (level : first_place p (h i) ≡ first_place p (k j)) where
  abbrev r : Span ℕ
  r = h i

  abbrev s : Span ℕ
  s = k j

  r_held : Held r
  r_held = rows_held r (list_from_member h 0 c i (omega arith) (omega arith))

  s_member : Memᴰ s (segs h k c n)
  s_member = list_from_member k 0 n j (omega arith) (omega arith)

  s_held : Held s
  s_held = segs_held s s_member

  -- something is left of both
  r_reaches : Reaches p r
  r_reaches = rw (list_from_left h i c lt) at w.row_reaches

  s_reaches : Reaches p s
  s_reaches = rw (list_from_left k j n lt') at w.seg_reaches

  -- they begin at the same frame of the same group
  begin : (r.group ≡ s.group) × ((trim p r).first ≡ (trim p s).first) × ((trim p r).first ≤ r.last) × ((trim p s).first ≤ s.last)
      × (r.last < 65536) × (s.last < 65536)
  unfolding place_of trim frame_count
  begin =
      let (r-group, r-proper, r_last, r-value) = r_held in
      let (s-group, s-proper, s-last, s-value) = s_held in
      let a = r_reaches in
      let b = s_reaches in
      (omega arith, omega arith, omega arith, omega arith, r_last, s-last)

  -- and have the frames to the earlier last frame in common
  abbrev a : ℕ
  a = (trim p s).first

  abbrev e : ℕ
  e = min r.last s.last

  abbrev end : ℕ
  end = end_place r s

  ends : (end ≡ place_of r.group e) × (end ≡ place_of s.group e) × ((trim p r).first ≤ e) × (a ≤ e) × (e ≤ r.last) × (e ≤ s.last)
  unfolding place_of
  ends =
      let (group, first, in-r, in-s, small_r, small-s) = begin in
      (omega arith, omega arith, omega arith, omega arith, omega arith, omega arith)

  -- as many frames
  abbrev first : ℕ
  first = first_place p s

  frames : end + 1 - first ≡ suc e - a
  unfolding place_of
  frames =
      let starts : place_of s.group a ≡ first = trim_place p s in
      let stops = ends.1 in
      omega arith

  pub begins_before : (first ≤ end) × (end + 1 - first ≤ 65536)
  unfolding place_of
  begins_before =
      let starts : place_of s.group a ≡ first = trim_place p s in
      let (stop-r, stop-s, in-r, in-s, to-r, to-s) = ends in
      let small = begin.5 in
      (omega arith, omega (arith, frames))

  abbrev row_next : ℕ
  row_next = cond (eqb (last_place r) end) (i + 1) i

  abbrev seg_next : ℕ
  seg_next = cond (eqb (last_place s) end) (j + 1) j

  -- weights of what is left, of rows and of segments
  row_off : (weight : Span ℕ → ℕ) → Adds weight
      → sum_of weight (rows_left h k c n p i) ≡ weight (span s.group a e r.value) + sum_of weight (rows_left h k c n (end + 1) row_next)
  row_off weight adds =
      let (group, first, in-r, in-s, small_r, small-s) = begin in
      let (stop-r, stop-s, from-r, from-s, to-r, to-s) = ends in
      rw (stop-r, ← first, ← group) (on_off h c i p e lt w.row_order from-r to-r small_r weight adds)

  seg_off : (weight : Span ℕ → ℕ) → Adds weight
      → sum_of weight (segs_left h k c n p j) ≡ weight (span s.group a e s.value) + sum_of weight (segs_left h k c n (end + 1) seg_next)
  seg_off weight adds =
      let (group, first, in-r, in-s, small_r, small-s) = begin in
      let (stop-r, stop-s, from-r, from-s, to-r, to-s) = ends in
      rw stop-s (on_off k n j p e lt' w.seg_order from-s to-s small-s weight adds)

  -- what the frames taken off cost the row
  taken : (cost : ℕ → ℕ → ℕ) (val : ℕ → ℕ → Option ℕ) → Valued h k c n val
      → cost_in cost val (span s.group a e r.value) ≡ (end + 1 - first) * cost s.value r.value
  taken cost val valued =
      let (stop-r, stop-s, from-r, from-s, to-r, to-s) = ends in
      let (proper, constant) = valued s s_member in
      let (group, ordered, last, small) = s_held in
      rw frames
      (cost_front cost val s.group a e s.value r.value
      (from-s, λ f low high. constant f (omega (arith, trim_from p s)) (omega arith)) group (omega arith))

  some_frame : 0 < end + 1 - first
  some_frame = omega (arith, begins_before.0)

  pub turn : Walk h k c n row_next seg_next (end + 1) (reaches && leb s.value r.value) (error + (end + 1 - first) * squares s.value r.value)
  turn =
      let (group, start, in-r, in-s, small_r, small-s) = begin in
      let (stop-r, stop-s, from-r, from-s, to-r, to-s) = ends in
      record {
        row = rw stop-r (on_le h c i p e lt w.row_order from-r to-r small_r);
        seg = rw stop-s (on_le k n j p e lt' w.seg_order from-s to-s small-s);
        row_order = rw stop-r (on_order h c i p e lt w.row_order from-r to-r small_r);
        seg_order = rw stop-s (on_order k n j p e lt' w.seg_order from-s to-s small-s);
        row_reaches = rw stop-r (on_reaches h c i p e lt w.row_order from-r to-r small_r);
        seg_reaches = rw stop-s (on_reaches k n j p e lt' w.seg_order from-s to-s small-s);
        same = λ g f.
            let before = w.same g f in
            let off-r = row_off (λ x. cond (holds x g f) 1 0) (holds_adds g f) in
            let off-s = seg_off (λ x. cond (holds x g f) 1 0) (holds_adds g f) in
            let alike = holds_alike s.group a e r.value s.value g f in
            omega arith;
        bounded =
            let off = seg_off span_length length_adds in
            let most = squared_le s.value r.value s_held.3 r_held.3 in
            let part = mul_le (le_refl (end + 1 - first)) most in
            let before = w.bounded in
            omega (arith, frames, part, span_length_lem s.group a e s.value);
        error_left = λ val valued.
            let before = w.error_left val valued in
            let off = row_off (cost_in squares val) (cost_adds squares val) in
            let here = taken squares val valued in
            omega arith;
        short_left = λ val valued.
            let (short, before, is) = w.short_left val valued in
            let off = row_off (cost_in below val) (cost_adds below val) in
            let here = taken below val valued in
            (short + (end + 1 - first) * below s.value r.value, omega arith, rw is (none_short short (end + 1 - first) s.value r.value some_frame));
      }

  -- a turn takes a row or a segment off, or both
  pub fewer : c - row_next + (n - seg_next) < c - i + (n - j)
  fewer =
      cases (eqb (last_place r) end)
      (λ t. cases (eqb (last_place s) end) (λ u. rw (t, u) (omega arith)) (λ u. rw (t, u) (omega arith)))
      (λ t.
      cases (eqb (last_place s) end) (λ u. rw (t, u) (omega arith))
      (λ u. absurd (neither (eqb-false _ _ t) (eqb-false _ _ u))))
    where
      neither : (last_place r ≡ end → ⊥) → (last_place s ≡ end → ⊥) → ⊥
      neither not-r not-s = omega (arith, not-r, not-s)

  -- the turn as the code makes it
  pub turned : (i' j' p' more : ℕ) (reaches' : Bool) → i' ≡ row_next → j' ≡ seg_next → p' ≡ end + 1
      → reaches' ≡ reaches && leb s.value r.value → more ≡ (end + 1 - first) * squares s.value r.value
      → Walk h k c n i' j' p' reaches' (error + more) × (c - i' + (n - j') < c - i + (n - j)) × (error + more ≤ most_error)
  turned i' j' p' more reaches' at_row at-seg place reach cost =
      rw (at_row, at-seg, place, reach, cost) (turn, fewer, omega (arith, turn.bounded))
