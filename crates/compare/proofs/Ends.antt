-- Where the walk begins, and what it has found where it ends. Assumes nothing.
use Prim.Native.Nat.{ℕ, suc, ◌+◌, ◌-◌, ◌≤◌, ◌<◌, zero-le}
use mathlib.Core.Bool.{Bool, true, false, ◌&&◌, and-false}
use mathlib.Core.List.{List, [], ◌∷◌, map, Memᴰ}
use mathlib.Core.Logic.{inl, inr}
use mathlib.Core.Option.{Option}
use mathlib.Core.Path.{◌≡◌, refl, sym, ◌∙◌}
use native.Mathlib.Nat.{le_refl, sub-zero}
use native.Mathlib.Omega.{arith}
use lib.Dec.{ltb, eqb}
use borrow.Author.Tests.{ltb-true, ltb-false, eq-eqb, ne_eqb}
use Rattle.std.specs.Bool.{then_some}
use Rattle.std.specs.Prelude.{None}
use Rattle.model.specs.Common.{sum_of, list_from}
use Rattle.model.specs.Spans.{Span, group_count, frame_count}
use Rattle.model.specs.Fitting.{hits, due, squared_error, whole}
use Rattle.model.specs.Check.{same_cover, never_below}
use Rattle.model.specs.Room.{Measured}
use Rattle.model.specs.Demands.{Segmentation}
use Rattle.slot.specs.Places.{place_of}
use Rattle.theory.proofs.Tests.{cases, is_false, true_holds}
use Rattle.theory.proofs.Lists.{list_from_left, none_left}
use Rattle.theory.proofs.Frames.{Heads, From, hits_sum}
use Rattle.theory.proofs.Converse.{list_from_member}
use Rattle.theory.proofs.InOrder.{InOrder, once, behind_free}
use Rattle.theory.proofs.Stored.{Held}
use Rattle.theory.proofs.Check.{every_frame_lem, each_frame, alike_exact, exact_alike}
use Rattle.compare.specs.Found.{Compares}
use Rattle.compare.specs.Fronts.{first_place}
use Rattle.compare.proofs.Fronts.{trim, clip, Reaches, trim_whole, cost_in}
use Rattle.compare.proofs.Walking.{Walk, rows, segs, rows_left, segs_left, Valued, below}
use Rattle.compare.proofs.Costs.{error_sum, short_sum}

-- ---- two lists that do not begin together

-- what is left of spans in order is in order
clip_order : (p : ℕ) (l : List (Span ℕ)) → InOrder l → Heads (Reaches p) l → InOrder (clip p l)
unfolding clip trim place_of
clip_order p [] order reach = tt
clip_order p (s ∷ l) order reach = let proper = order.0 in (omega arith, order.1, order.2)

-- spans h from number i on, and spans k from number j on, of which nothing or only later frames are left: the first frame left of h lies in
-- none left of k
module _ (h k : ℕ → Span ℕ) (c n i j p : ℕ) (lt : i < c) (order : InOrder (list_from i (c - i) h)) (order' : InOrder (list_from j (n - j) k))
    (reach : Heads (Reaches p) (list_from i (c - i) h)) (reach' : Heads (Reaches p) (list_from j (n - j) k)) (small : (h i).last < 65536)
    (small' : j < n → (k j).last < 65536)
    (later : j < n → first_place p (h i) < first_place p (k j)) where
  abbrev s : Span ℕ
  s = h i

  inside : ((trim p s).first ≤ s.last) × Reaches p s
  unfolding trim place_of
  inside =
      let proper = (rw (list_from_left h i c lt) at order).0 in
      let reaches : Reaches p s = rw (list_from_left h i c lt) at reach in
      (omega arith, reaches)

  from_places : (t : Span ℕ) → t.last < 65536 → t.first ≤ t.last → Reaches p t
      → first_place p s < first_place p t → From s.group (suc (trim p s).first) (trim p t)
  unfolding trim place_of
  from_places t low proper reaches less =
      let (in-s, reaches-s) = inside in
      cases (ltb s.group t.group) (λ e. inl (ltb-true _ _ e))
      (λ e. let above = ltb-false s.group t.group e in inr (omega arith, omega arith))

  pub in_frames : (trim p s).first < frame_count
  unfolding frame_count
  in_frames = omega (arith, inside.0)

  begins_behind : Heads (From s.group (suc (trim p s).first)) (clip p (list_from j (n - j) k))
  unfolding clip list_from
  begins_behind =
      cases (ltb j n)
      (λ e.
      let lt' = ltb-true _ _ e in
      let proper = (rw (list_from_left k j n lt') at order').0 in
      let reaches : Reaches p (k j) = rw (list_from_left k j n lt') at reach' in
      rw (list_from_left k j n lt') (from_places (k j) (small' lt') proper reaches (later lt')))
      (λ e. rw (none_left (λ x. list_from j x k) j n (ltb-false _ _ e)) tt)

  pub in_first : 1 ≤ hits (clip p (list_from i (c - i) h)) s.group (trim p s).first
  unfolding clip hits trim
  in_first = rw (list_from_left h i c lt, true_holds (trim p s) s.group (trim p s).first refl (le_refl _) inside.0) (omega arith)

  pub in_no_second : hits (clip p (list_from j (n - j) k)) s.group (trim p s).first ≡ 0
  in_no_second =
      behind_free s.group (trim p s).first (clip p (list_from j (n - j) k)) (clip_order p (list_from j (n - j) k) order' reach') begins_behind

-- ---- the walk

-- from place 0 on all is left
all_reached : (l : List (Span ℕ)) → Heads (Reaches 0) l
all_reached [] = tt
all_reached (s ∷ l) = zero-le

clip_none : (l : List (Span ℕ)) → clip 0 l ≡ l
unfolding clip
clip_none [] = refl
clip_none (s ∷ l) = rw (trim_whole 0 s zero-le)

module _ (h k : ℕ → Span ℕ) (c n : ℕ) where
  abbrev R : List (Span ℕ)
  R = rows h k c n

  abbrev S : List (Span ℕ)
  S = segs h k c n

  -- it begins with all rows and segments, nothing taken off
  pub starts : InOrder R → InOrder S → Measured S → Walk h k c n 0 0 0 true 0
  unfolding sum_of
  starts order order' ok =
      record {
        row = zero-le;
        seg = zero-le;
        row_order = rw (sub-zero c) order;
        seg_order = rw (sub-zero n) order';
        row_reaches = all_reached (list_from 0 (c - 0) h);
        seg_reaches = all_reached (list_from 0 (n - 0) k);
        same = λ g f. rw (sub-zero c, sub-zero n, clip_none R, clip_none S) (omega arith);
        bounded = rw (sub-zero n, clip_none S) (omega (arith, ok.frames));
        error_left = λ val valued. rw (sub-zero c, clip_none R) (omega arith);
        short_left = λ val valued. (0, rw (sub-zero c, clip_none R) (omega arith), refl);
      }

  module _ (order : InOrder R) (val : ℕ → ℕ → Option ℕ) (is : Segmentation val S) where
    exact : (g f : ℕ) → hits S g f ≡ due (val g f)
    exact = is.exact

    valued : Valued h k c n val
    valued s m = (is.ordered s m, is.constant s m)

    module _ (i j p : ℕ) (reaches : Bool) (error : ℕ) (w : Walk h k c n i j p reaches error) where
      same_hits : (g f : ℕ) → hits R g f + hits (segs_left h k c n p j) g f ≡ hits S g f + hits (rows_left h k c n p i) g f
      same_hits g f =
          rw (hits_sum R g f, hits_sum (segs_left h k c n p j) g f, hits_sum S g f, hits_sum (rows_left h k c n p i) g f) (w.same g f)

      -- a frame that lies in something left of the one and not of the other
      pub differ : (g f : ℕ) → g < group_count → f < frame_count
          → (hits (segs_left h k c n p j) g f ≡ hits (rows_left h k c n p i) g f → ⊥) → same_cover val R ≡ false
      unfolding same_cover
      differ g f in_groups in_frames apart =
          is_false _
          (λ all.
          let alike = alike_exact R g f (val g f) (once g f R order) (every_frame_lem _ all g f in_groups in_frames) in
          let before = same_hits g f in
          let due-here = exact g f in
          apart (omega arith))

      -- nothing is left
      pub finish : c ≤ i → n ≤ j → (same_cover val R ≡ true) × (reaches ≡ never_below val R) × (error ≡ squared_error val (map whole R))
      unfolding clip list_from sum_of same_cover hits
      finish done done' =
          let no_rows : rows_left h k c n p i ≡ [] = rw (none_left (λ x. list_from i x h) i c done) in
          let no-segs : segs_left h k c n p j ≡ [] = rw (none_left (λ x. list_from j x k) j n done') in
          let (short, all, none_short) = w.short_left val valued in
          let none_below : short ≡ sum_of (cost_in below val) R = omega (arith, rw no_rows at all) in (
            each_frame _
                (λ g f a b. exact_alike R g f (val g f) (omega (arith, rw (no_rows, no-segs) at (same_hits g f), exact g f))),
            none_short ∙ rw none_below (sym (short_sum val R order)),
            omega (arith, rw no_rows at (w.error_left val valued), error_sum val R order),
          )

  -- what the walk has found, where rows and segments can be held
  module _ (order : InOrder R) (rows_held : (s : Span ℕ) → Memᴰ s R → Held s) (segs_held : (s : Span ℕ) → Memᴰ s S → Held s)
      (i j p : ℕ) (reaches : Bool) (error : ℕ) (w : Walk h k c n i j p reaches error) where
    row_held : i < c → Held (h i)
    row_held lt = rows_held (h i) (list_from_member h 0 c i (omega arith) (omega arith))

    seg_held : j < n → Held (k j)
    seg_held lt = segs_held (k j) (list_from_member k 0 n j (omega arith) (omega arith))

    -- not the same frames
    different : ((val : ℕ → ℕ → Option ℕ) → Segmentation val S → same_cover val R ≡ false)
        → Compares R S None
    different apart =
        record {
          same = λ val is. sym (apart val is);
          reaches = λ val is. tt;
          error = λ val is. tt;
        }

    -- a row begins before what is left of the segments, or a segment before what is left of the rows
    row_first : i < c → (j < n → first_place p (h i) < first_place p (k j))
        → Compares R S None
    unfolding frame_count
    row_first lt later =
        let (group, proper, last, small) = row_held lt in
        let low : j < n → (k j).last < 65536 = λ lt'. (seg_held lt').2 in
        let there = in_first h k c n i j p lt w.row_order w.seg_order w.row_reaches w.seg_reaches last low later in
        let not_there = in_no_second h k c n i j p lt w.row_order w.seg_order w.row_reaches w.seg_reaches last low later in
        let in_range = in_frames h k c n i j p lt w.row_order w.seg_order w.row_reaches w.seg_reaches last low later in
        different
        (λ val is.
        differ order val is i j p reaches error w (h i).group (trim p (h i)).first group in_range (λ e. omega arith))

    seg_first : j < n → (i < c → first_place p (k j) < first_place p (h i))
        → Compares R S None
    unfolding frame_count
    seg_first lt later =
        let (group, proper, last, small) = seg_held lt in
        let low : i < c → (h i).last < 65536 = λ lt'. (row_held lt').2 in
        let there = in_first k h n c j i p lt w.seg_order w.row_order w.seg_reaches w.row_reaches last low later in
        let not_there = in_no_second k h n c j i p lt w.seg_order w.row_order w.seg_reaches w.row_reaches last low later in
        let in_range = in_frames k h n c j i p lt w.seg_order w.row_order w.seg_reaches w.row_reaches last low later in
        different
        (λ val is.
        differ order val is i j p reaches error w (k j).group (trim p (k j)).first group in_range (λ e. omega arith))

    -- the two at hand do not begin together
    pub apart : i < c → j < n → (first_place p (h i) ≡ first_place p (k j) → ⊥)
        → Compares R S None
    apart lt lt' other =
        let at_row = first_place p (h i) in
        let at-seg = first_place p (k j) in
        cases (ltb at_row at-seg) (λ e. row_first lt (λ x. ltb-true at_row at-seg e))
        (λ e. seg_first lt' (λ x. omega (arith, ltb-false at_row at-seg e, other)))

    -- or nothing is left of one of the two
    pub ended : (i < c → j < n → ⊥)
        → Compares R S (then_some (eqb i c && eqb j n) (record { reaches = reaches; error = error }))
    ended past =
        cases (ltb i c)
        (λ e.
        let lt = ltb-true i c e in
        rw (ne_eqb i c (λ x. omega arith)) (row_first lt (λ lt'. absurd (past lt lt'))))
        (λ e.
        let ge = ltb-false i c e in
        let at_rows = w.row in
        cases (ltb j n)
        (λ e'.
        let lt' = ltb-true j n e' in
        rw (ne_eqb j n (λ x. omega arith), and-false (eqb i c)) (seg_first lt' (λ lt. absurd (past lt lt'))))
        (λ e'.
        let ge' = ltb-false j n e' in
        let at-segs = w.seg in
        rw (eq-eqb i c (omega arith), eq-eqb j n (omega arith))
        (record {
          same = λ val is. sym (finish order val is i j p reaches error w ge ge').0;
          reaches = λ val is. (finish order val is i j p reaches error w ge ge').1;
          error = λ val is. (finish order val is i j p reaches error w ge ge').2;
        })))
