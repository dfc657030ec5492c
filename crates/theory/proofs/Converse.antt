-- The rows of a reduction are a fitting list with allowed labels, as many as its blocks, and their error frame by frame is
-- the reduction's error. Assumes nothing.
use Prim.Native.Nat.{ℕ, zero, suc, ◌+◌, ◌*◌, ◌-◌, ◌≤◌, ◌<◌}
use mathlib.Core.Bool.{true, cond}
use mathlib.Core.List.Memᴰ
use mathlib.Core.List.{List, [], ◌∷◌, ◌++◌, Memᴰ}
use mathlib.Core.Logic.{⊎_elim}
use mathlib.Core.Option.{Option, none, some}
use mathlib.Core.Path.{◌≡◌, refl, sym, ap, ◌∙◌, subst}
use native.Mathlib.Omega.{arith}
use native.Mathlib.Nat.{le_refl, zero-add, add-zero, suc-add, add-suc}
use native.Mathlib.Decide.{ℕ_discrete}
use lib.ListN.{length}
use borrow.Author.Tests.{not-false}
use Rattle.model.specs.Common.{sum_of, list_from}
use Rattle.model.specs.Spans.{Span, span_length, meets, holds, adjacent}
use Rattle.model.specs.Segments.{segments_of}
use Rattle.model.specs.Blocks.{gap, last_gap, block, row_of}
use Rattle.model.specs.Split.{rows_of}
use Rattle.model.specs.Reductions.{IsReduction, reduction_error}
use Rattle.model.specs.Slot.{value_in}
use Rattle.model.specs.Fitting.{hits, due, Fits, frame_cost, over_frames}
use Rattle.theory.proofs.Tests.{cases, holds_true, adjacent_true}
use Rattle.theory.proofs.Sums.{sum_of_cong, sum_of-append, over_frames_cong, over_frames-sum_of, over_frames-holds}
use Rattle.theory.proofs.Cost.{Cost, cost_of, error_in, best_row, best_rows, Allowed, error_under}
use Rattle.theory.proofs.Blocks.{rows_length}
use Rattle.theory.proofs.Frames.{worth, hits_sum, holds_joined, Piece, exact, ordered, constant}

-- ---- elements of a list by number

module _ {A : Type 0} (seg : ℕ → A) where
  -- every number has its element
  pub list_from_member : (j count i : ℕ) → j ≤ i → i < j + count → Memᴰ (seg i) (list_from j count seg)
  unfolding list_from
  list_from_member j zero i p q = absurd (omega arith)
  list_from_member j (suc count) i p q =
      elim (ℕ_discrete i j) [
        | yes e ↦ Memᴰ.head (ap seg e)
        | no ne ↦ Memᴰ.tail (list_from_member (suc j) count i (omega arith) (omega arith))
      ]

  -- every element has its number
  pub member_list_from : (j count : ℕ) (a : A) → Memᴰ a (list_from j count seg)
      → (i : ℕ) × (j ≤ i) × (i < j + count) × (a ≡ seg i)
  unfolding list_from
  member_list_from j zero a m = absurd (Memᴰ.not-nil m)
  member_list_from j (suc count) a m =
      ⊎_elim (λ e. (j, le_refl j, omega arith, e))
      (λ n.
      let x = member_list_from (suc j) count a n in
      let low = x.1 in
      let high = x.2 in
      (x.0, omega arith, omega arith, x.3))
      (Memᴰ.cases_cons m)

  -- two stretches of numbers, one after the other
  pub list_from-append : (from a b : ℕ) → list_from from (a + b) seg ≡ list_from from a seg ++ list_from (from + a) b seg
  unfolding list_from
  list_from-append from zero b = simp (zero-add, add-zero)
  list_from-append from (suc a) b =
      rw (suc-add a b, add-suc from a, ← suc-add from a) (ap (λ (l : List A). seg from ∷ l) (list_from-append (suc from) a b))

-- ---- blocks

module _ {A : Type 0} (seg : ℕ → Span A) where
  -- segments with no gap between them are adjacent
  pub block_adjacent : (i j : ℕ) → last_gap seg i ≤ j → (k : ℕ) → j ≤ k → suc k < i → adjacent (seg k) (seg (suc k)) ≡ true
  unfolding last_gap gap
  block_adjacent zero j low k p q = absurd (omega arith)
  block_adjacent (suc i) j low k p q =
      cases (gap seg i) (λ e. absurd (omega (arith, rw e at low)))
      (λ e. elim (ℕ_discrete (suc k) i) [
        | yes here ↦ not-false _ (rw (← here) at e)
        | no ne ↦ block_adjacent i j (rw e at low) k p (omega arith)
      ])

  -- a span from the first frame of a block's first segment to the last frame of its last one contains what they contain
  pub reach_holds : {B : Type 0} (count j : ℕ) → ((k : ℕ) → j ≤ k → k ≤ j + count → (seg k).first ≤ (seg k).last)
      → ((k : ℕ) → j ≤ k → k < j + count → adjacent (seg k) (seg (suc k)) ≡ true)
      → (r : Span B) → r.group ≡ (seg j).group → r.first ≡ (seg j).first → r.last ≡ (seg (j + count)).last
      → (r.first ≤ r.last)
      × ((g f c : ℕ) → cond (holds r g f) c 0 ≡ sum_of (λ s. cond (holds s g f) c 0) (list_from j (suc count) seg))
  unfolding list_from sum_of holds meets
  reach_holds zero j proper near r e-group e-first e-last =
      let e : r.last ≡ (seg j).last = rw add-zero at e-last in
      let o = proper j (le_refl j) (omega arith) in
      (omega arith, λ g f c. rw (e-group, e-first, e) (omega arith))
  reach_holds {B} (suc count) j proper near r e-group e-first e-last =
      let t : Span B =
      record { group = (seg (suc j)).group; first = (seg (suc j)).first; last = r.last; value = r.value } in
      let rest =
      reach_holds count (suc j) (λ k p q. proper k (omega arith) (omega arith))
      (λ k p q. near k (omega arith) (omega arith)) t refl refl
      (rw suc-add (rw add-suc at e-last)) in
      let o = proper j (le_refl j) (omega arith) in
      let o' = rest.0 in
      let meet = adjacent_true (seg j) (seg (suc j)) (near j (le_refl j) (omega arith)) in (
        omega arith,
        λ g f c.
            holds_joined r (seg j) t e-group e-first refl o rest.0 meet.0 meet.1 g f c
            ∙ ap (λ (m : ℕ). cond (holds (seg j) g f) c 0 + m) (rest.1 g f c),
      )

-- ---- the rows of a reduction

module _ {V' L : Type 0} (C : Cost V' L) (seg : ℕ → Span V') where
  -- what every block's row has, every row has
  pub rows_every : (P : Span L → Type 0) (n : ℕ)
      → ((j i : ℕ) → j < i → i ≤ n → last_gap seg i ≤ j → P (best_row C seg j i))
      → (cuts : List ℕ) (i : ℕ) → i ≤ n → IsReduction (last_gap seg) i cuts
      → (r : Span L) → Memᴰ r (best_rows C seg i cuts) → P r
  unfolding rows_of
  rows_every P n h [] i le red r m = absurd (Memᴰ.not-nil m)
  rows_every P n h (j ∷ js) i le red r m =
      let below = red.0 in
      ⊎_elim (rows_every P n h js j (omega arith) red.2 r)
      (λ m'. subst P (sym (Memᴰ.eq_of_singleton m')) (h j i below le red.1))
      (Memᴰ.append_cases (best_rows C seg j js) m)

  -- a sum over the rows is one over the blocks
  pub rows_sum : (u : Span L → ℕ) (err : ℕ → ℕ → ℕ) (n : ℕ)
      → ((j i : ℕ) → j < i → i ≤ n → last_gap seg i ≤ j → u (best_row C seg j i) ≡ err j i)
      → (cuts : List ℕ) (i : ℕ) → i ≤ n → IsReduction (last_gap seg) i cuts
      → sum_of u (best_rows C seg i cuts) ≡ reduction_error err i cuts
  unfolding rows_of reduction_error sum_of
  rows_sum u err n h [] i le red = refl
  rows_sum u err n h (j ∷ js) i le red =
      let below = red.0 in
      let ih = rows_sum u err n h js j (omega arith) red.2 in
      let here = h j i below le red.1 in
      let both = sum_of-append u (best_rows C seg j js) (best_row C seg j i ∷ []) in
      omega arith

-- a sum over the segments, block by block
pub blocks_sum : {A : Type 0} (seg : ℕ → Span A) (w : Span A → ℕ) (low : ℕ → ℕ) (cuts : List ℕ) (i : ℕ)
    → IsReduction low i cuts
    → reduction_error (λ j i. sum_of w (block seg j i)) i cuts ≡ sum_of w (list_from 0 i seg)
unfolding reduction_error block sum_of list_from
blocks_sum seg w low [] i e = rw e
blocks_sum seg w low (j ∷ js) i red =
    let below = red.0 in
    let whole : i ≡ j + (i - j) = omega arith in
    let cut : list_from 0 i seg ≡ list_from 0 j seg ++ list_from (0 + j) (i - j) seg =
    ap (λ (m : ℕ). list_from 0 m seg) whole ∙ list_from-append seg 0 j (i - j) in
    let ih = blocks_sum seg w low js j red.2 in
    rw (cut, zero-add j) (omega (arith, sum_of-append w (list_from 0 j seg) (list_from j (i - j) seg)))

-- ---- one frame under a list of rows

module _ {L : Type 0} (g f : ℕ) where
  -- the row that gives a frame its label
  pub value_in_member : (rows : List (Span L)) (z : L) → value_in rows g f ≡ some z
      → (r : Span L) × Memᴰ r rows × (holds r g f ≡ true) × (r.value ≡ z)
  unfolding value_in
  value_in_member [] z e = let x : ◌≡◌ {A = ℕ} 0 1 = cc in absurd (omega arith)
  value_in_member (r ∷ rows) z e =
      cases (holds r g f) (λ t. (r, Memᴰ.head refl, t, cc (rw t at e)))
      (λ t.
      let x = value_in_member rows z (rw t at e) in
      (x.0, Memᴰ.tail x.1, x.2, x.3))

  -- where something is counted, there is a span that contains the frame
  pub held_member : (l : List (Span L)) (c : ℕ) → sum_of (λ s. cond (holds s g f) 1 0) l ≡ suc c
      → (s : Span L) × Memᴰ s l × (holds s g f ≡ true)
  unfolding sum_of
  held_member [] c e = absurd (omega arith)
  held_member (s ∷ l) c e =
      cases (holds s g f) (λ t. (s, Memᴰ.head refl, t))
      (λ t.
      let x = held_member l c (omega (arith, rw t at e)) in
      (x.0, Memᴰ.tail x.1, x.2))

  -- where nothing contains the frame, every sum over what contains it is 0
  not_held : (k : Span L → ℕ) (rows : List (Span L)) → hits rows g f ≡ 0
      → sum_of (λ r. cond (holds r g f) (k r) 0) rows ≡ 0
  unfolding hits sum_of
  not_held k [] e = refl
  not_held k (r ∷ rows) e =
      cases (holds r g f) (λ t. absurd (omega (arith, rw t at e))) (λ t. rw t (omega (arith, not_held k rows (rw t at e))))

  module _ {A : Type 0} (cost : A → L → ℕ) (o : Option A) where
    -- a frame's cost under a label, and without one
    label_cost_lem : (z : L) → frame_cost cost o (some z) ≡ worth (λ v. cost v z) o
    unfolding frame_cost worth
    label_cost_lem z = elim o as (λ k. frame_cost cost k (some z) ≡ worth (λ v. cost v z) k) [ none ↦ refl | some v ↦ refl ]

    no_label_cost : frame_cost cost o none ≡ 0
    unfolding frame_cost
    no_label_cost = elim o as (λ k. frame_cost cost k none ≡ 0) [ none ↦ refl | some v ↦ refl ]

    -- a frame's cost is a sum over the rows, where at most one of them contains it
    pub one_row_lem : (rows : List (Span L)) → hits rows g f ≤ 1
        → frame_cost cost o (value_in rows g f) ≡ sum_of (λ r. cond (holds r g f) (worth (λ v. cost v r.value) o) 0) rows
    unfolding hits sum_of value_in
    one_row_lem [] h = no_label_cost
    one_row_lem (r ∷ rows) h =
        cases (holds r g f)
        (λ t. rw t
        (omega (
          arith,
          label_cost_lem r.value,
          not_held (λ r. worth (λ v. cost v r.value) o) rows (omega (arith, rw t at h)),
        )))
        (λ t. rw t (omega (arith, one_row_lem rows (rw t at h))))

-- ---- the converse

due_le : {A : Type 0} (o : Option A) → due o ≤ 1
unfolding due
due_le none = omega arith
due_le (some v) = omega arith

-- a frame that a piece contains has the piece's value
piece_value : {A : Type 0} (val : ℕ → ℕ → Option A) (s : Span A) → Piece val s → (g f : ℕ) → holds s g f ≡ true
    → val g f ≡ some s.value
piece_value val s p g f t = let x = holds_true s g f t in rw x.0 at (p.1 f x.1 x.2)

-- what a piece's frames are worth together
pub piece_weigh : {A : Type 0} (h : A → ℕ) (val : ℕ → ℕ → Option A) (groups frames : ℕ) (s : Span A) → Piece val s
    → s.group < groups → s.last < frames
    → over_frames groups frames (λ g f. cond (holds s g f) (worth h (val g f)) 0) ≡ span_length s * h s.value
unfolding worth
piece_weigh h val groups frames s p in_groups in_frames =
    over_frames_cong groups frames _ (λ g f. cond (holds s g f) (h s.value) 0)
    (λ g f a b. cases (holds s g f) (λ t. rw (t, piece_value val s p g f t)) (λ t. rw t))
    ∙ over_frames-holds groups frames (h s.value) s in_groups in_frames

module _ {V' L : Type 0} (C : Cost V' L) (val : ℕ → ℕ → Option V') (groups frames : ℕ)
    (inside : (g f : ℕ) (v : V') → val g f ≡ some v → (g < groups) × (f < frames)) (seg : ℕ → Span V') (n : ℕ)
    (lists : list_from 0 n seg ≡ segments_of C.same val groups frames) where
  -- a segment has a frame, lies among the groups and frames, and is a piece
  proper : (s : Span V') → Memᴰ s (list_from 0 n seg)
      → (s.first ≤ s.last) × (s.group < groups) × (s.last < frames)
  proper s m = ordered C.same C.same_eq val groups frames inside s (rw lists at m)

  piece : (s : Span V') → Memᴰ s (list_from 0 n seg) → Piece val s
  piece s m = ((proper s m).0, constant C.same C.same_eq val groups frames inside s (rw lists at m))

  -- a block's segments are segments
  in_block : (j i : ℕ) (s : Span V') → i ≤ n → Memᴰ s (block seg j i) → Memᴰ s (list_from 0 n seg)
  unfolding block
  in_block j i s le m =
      let x = member_list_from seg j (i - j) s m in
      let low = x.1 in
      let high = x.2 in
      rw x.3 (list_from_member seg 0 n x.0 (omega arith) (omega arith))

  -- a block's row contains what its segments contain
  row_holds : (j i : ℕ) → j < i → i ≤ n → last_gap seg i ≤ j
      → ((best_row C seg j i).first ≤ (best_row C seg j i).last)
      × ((g f c : ℕ) → cond (holds (best_row C seg j i) g f) c 0 ≡ sum_of (λ s. cond (holds s g f) c 0) (block seg j i))
  unfolding row_of block
  row_holds j i below le low =
      let longer : suc (i - suc j) ≡ i - j = omega arith in
      let end : i - 1 ≡ j + (i - suc j) = omega arith in
      let x =
      reach_holds seg (i - suc j) j (λ k p q. (proper (seg k) (list_from_member seg 0 n k (omega arith) (omega arith))).0)
      (λ k p q. block_adjacent seg i j low k p (omega arith)) (best_row C seg j i) refl refl
      (ap (λ (k : ℕ). (seg k).last) end) in (
        x.0,
        λ g f c. x.1 g f c ∙ ap (λ (m : ℕ). sum_of (λ s. cond (holds s g f) c 0) (list_from j m seg)) longer,
      )

  -- what the frames of a block's row are worth is length × worth over the block's segments
  row_error : (h : V' → ℕ) (j i : ℕ) → j < i → i ≤ n → last_gap seg i ≤ j
      → over_frames groups frames (λ g f. cond (holds (best_row C seg j i) g f) (worth h (val g f)) 0)
      ≡ sum_of (λ s. span_length s * h s.value) (block seg j i)
  unfolding block
  row_error h j i below le low =
      over_frames_cong groups frames _ _ (λ g f a b. (row_holds j i below le low).1 g f (worth h (val g f)))
      ∙ over_frames-sum_of groups frames (λ g f s. cond (holds s g f) (worth h (val g f)) 0) (block seg j i)
      ∙ sum_of_cong _ _ (block seg j i)
      (λ s m.
      let m' = in_block j i s le m in
      piece_weigh h val groups frames s (piece s m') (proper s m').1 (proper s m').2)

  module _ (cuts : List ℕ) (red : IsReduction (last_gap seg) n cuts) where
    -- the rows fit; their labels are allowed; their error is the reduction's; they are as many as its blocks
    pub fits : Fits val (best_rows C seg n cuts)
    fits =
        record {
          ordered =
              rows_every C seg (λ r. r.first ≤ r.last) n (λ j i p q l. (row_holds j i p q l).0) cuts n (le_refl n) red;
          exact =
              λ g f.
              hits_sum (best_rows C seg n cuts) g f
              ∙ rows_sum C seg (λ r. cond (holds r g f) 1 0)
              (λ j i. sum_of (λ s. cond (holds s g f) 1 0) (block seg j i)) n (λ j i p q l. (row_holds j i p q l).1 g f 1)
              cuts n (le_refl n) red
              ∙ blocks_sum seg (λ s. cond (holds s g f) 1 0) (last_gap seg) cuts n red
              ∙ ap (sum_of (λ s. cond (holds s g f) 1 0)) lists
              ∙ sym (hits_sum (segments_of C.same val groups frames) g f)
              ∙ exact C.same C.same_eq val groups frames inside g f;
        }

    pub allowed : Allowed C val (best_rows C seg n cuts)
    unfolding row_of
    allowed g f v z e label =
        let x = value_in_member g f (best_rows C seg n cuts) z label in
        rw x.3 at (rows_every C seg (λ r. holds r g f ≡ true → C.ok v r.value) n of_block cuts n (le_refl n) red
        x.0 x.1 x.2)
      where
        of_block : (j i : ℕ) → j < i → i ≤ n → last_gap seg i ≤ j → holds (best_row C seg j i) g f ≡ true
            → C.ok v (C.best (block seg j i))
        of_block j i below le low t =
            let y = held_member g f (block seg j i) 0 (sym (rw t at ((row_holds j i below le low).1 g f 1))) in
            let known = piece_value val y.0 (piece y.0 (in_block j i y.0 le y.1)) g f y.2 in
            let same : y.0.value ≡ v = cc (known, e) in
            rw same at (C.best_ok (block seg j i) y.0 y.1)

    pub error : error_under C val groups frames (best_rows C seg n cuts) ≡ reduction_error (error_in C seg) n cuts
    unfolding error_under error_in cost_of row_of
    error =
        over_frames_cong groups frames _ _
        (λ g f a b. one_row_lem g f C.cost (val g f) (best_rows C seg n cuts) (rw (fits.exact g f) (due_le (val g f))))
        ∙ over_frames-sum_of groups frames (λ g f r. cond (holds r g f) (worth (λ v. C.cost v r.value) (val g f)) 0)
        (best_rows C seg n cuts)
        ∙ rows_sum C seg _ (error_in C seg) n
        (λ j i p q l. row_error (λ v. C.cost v (C.best (block seg j i))) j i p q l) cuts n (le_refl n) red

    pub count : length (best_rows C seg n cuts) ≡ length cuts
    count = rows_length C.best seg n cuts
