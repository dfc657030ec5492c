-- The rows of a reduction can be stored in a slot, whichever rule in range gave their values: each has a known group, a first frame
-- not behind its last, a last frame of 16 bits and a value of at most 128,000; and each follows the one before it. Assumes nothing.
use Prim.Native.Nat.{ℕ, zero, suc, ◌+◌, ◌-◌, ◌^◌, ◌≤◌, ◌<◌}
use mathlib.Core.Bool.{true, or-true}
use mathlib.Core.List.{List, [], ◌∷◌, ◌++◌, append-nil, append_assoc, Memᴰ}
use mathlib.Core.Logic.{inl, inr}
use mathlib.Core.Path.{◌≡◌, refl, sym}
use native.Mathlib.Nat.{le_refl, add-zero, add-suc}
use native.Mathlib.Omega.{arith}
use lib.Dec.{ltb, eqb}
use lib.ListN.{length}
use borrow.Author.Tests.{eqb-true, lt-ltb, le-leb, eq-eqb}
use Rattle.model.specs.Spans.{Span, group_count, frame_count, adjacent, nowhere}
use Rattle.model.specs.Log.{value}
use Rattle.model.specs.Segments.{segments}
use Rattle.model.specs.Blocks.{segment_at, last_gap, block, row_of}
use Rattle.model.specs.Split.{gap_below, rows_of}
use Rattle.model.specs.Reductions.{IsReduction}
use Rattle.model.specs.Questions.{group_known, row_known, follows, most_records, most_value}
use Rattle.theory.proofs.Tests.{true_and, adjacent_true}
use Rattle.theory.proofs.Frames.{Heads, Chain, heads_map, chain_member, chain_neighbours, Earlier}
use Rattle.theory.proofs.Frames.{ordered, value_inside, segmentation}
use Rattle.theory.proofs.Converse.{member_list_from, block_adjacent}
use Rattle.theory.proofs.Bounds.{segment_value_le, segment_member}

-- spans that are adjacent, one after the other, are of one group, and the last ends no earlier than the first begins
reach : (seg : ℕ → Span ℕ) (j count : ℕ) → ((k : ℕ) → j ≤ k → k ≤ j + count → (seg k).first ≤ (seg k).last)
    → ((k : ℕ) → j ≤ k → k < j + count → adjacent (seg k) (seg (suc k)) ≡ true)
    → ((seg j).group ≡ (seg (j + count)).group) × ((seg j).first ≤ (seg (j + count)).last)
reach seg j zero proper near = rw add-zero (refl, proper j (le_refl j) (omega arith))
reach seg j (suc count) proper near =
    let before = reach seg j count (λ k p q. proper k p (omega arith)) (λ k p q. near k p (omega arith)) in
    let next = adjacent_true _ _ (near (j + count) (omega arith) (omega arith)) in
    let here = proper (suc (j + count)) (omega arith) (omega arith) in
    rw add-suc (omega arith)

-- ---- rows as a chain

-- the span begins behind the segment before number i
abbrev Behind : (ℕ → Span ℕ) → ℕ → Span ℕ → Type 0
Behind seg i t = (k : ℕ) → i ≡ suc k → Earlier (seg k) t

module _ (value_of : List (Span ℕ) → ℕ) (seg : ℕ → Span ℕ) (n : ℕ) (P : Span ℕ → Type 0)
    (apart : (k : ℕ) → suc k < n → Earlier (seg k) (seg (suc k)))
    (proper : (j i : ℕ) → j < i → i ≤ n → last_gap seg i ≤ j
    → P (row_of value_of seg j i) × ((seg j).group ≡ (seg (i - 1)).group)) where
  -- the rows of a reduction, before a chain that begins behind its last segment
  rows_chain : (cuts : List ℕ) (i : ℕ) (rest : List (Span ℕ)) → i ≤ n → IsReduction (last_gap seg) i cuts
      → Chain P Earlier rest → Heads (Behind seg i) rest → Chain P Earlier (rows_of value_of seg i cuts ++ rest)
  unfolding rows_of row_of
  rows_chain [] i rest le red c h = c
  rows_chain (j ∷ js) i rest le red c h =
      let below = red.0 in
      let here = proper j i below le red.1 in
      rw append_assoc
      (rows_chain js j (row_of value_of seg j i ∷ rest) (omega arith) red.2 (
        here.0,
        heads_map rest (λ t behind. rw here.1 (behind (i - 1) (omega arith))) h,
        c,
      )
      (λ k e. rw e (apart k (omega arith))))

-- ---- the rows of a reduction of segments

-- what a slot's row can hold
abbrev pub Held : Span ℕ → Type 0
Held r = (r.group < group_count) × (r.first ≤ r.last) × (r.last < frame_count) × (r.value ≤ most_value)

-- such a row passes the tests of a slot's rows
pub held_known : (r : Span ℕ) → Held r → (row_known r ≡ true) × (r.last < 2 ^ 16)
unfolding row_known group_known group_count frame_count
held_known r (group, order, last, small) = (
  true_and _ _ (true_and _ _ (le-leb r.group 7 (omega arith)) (le-leb _ _ order)) (le-leb _ _ small),
  last,
)

-- a span behind another follows it
pub earlier_follows : (s t : Span ℕ) → Earlier s t → follows t s ≡ true
unfolding follows
earlier_follows s t (inl lt) = rw (lt-ltb _ _ lt)
earlier_follows s t (inr (same, lt)) = rw (eq-eqb _ _ (sym same), lt-ltb _ _ lt) (or-true (ltb s.group t.group))

module _ (kind width : ℕ) (rs : List (Span ℕ)) where
  -- the segments by number, and the rows of a reduction of them all
  abbrev pub nth : ℕ → Span ℕ
  nth i = segment_at (segments kind width rs) i

  abbrev pub rows_at : (List (Span ℕ) → ℕ) → List ℕ → List (Span ℕ)
  rows_at value_of cuts = rows_of value_of (segment_at (segments kind width rs)) (length (segments kind width rs)) cuts

  -- a segment has a frame, and lies among the groups and frames
  nth_inside : (k : ℕ) → k < length (segments kind width rs)
      → ((nth k).first ≤ (nth k).last) × ((nth k).group < group_count) × ((nth k).last < frame_count)
  unfolding segments
  nth_inside k lt =
      ordered eqb eqb-true (value kind width rs) group_count frame_count (value_inside kind width rs) (nth k)
      (segment_member (segments kind width rs) k lt)

-- a rule for row values that gives none above the values of the block, as far as these are at most 128,000
abbrev pub InRange : (List (Span ℕ) → ℕ) → Type 0
InRange value_of = (b : List (Span ℕ)) → ((s : Span ℕ) → Memᴰ s b → s.value ≤ most_value) → value_of b ≤ most_value

module _ (value_of : List (Span ℕ) → ℕ) (in_range : InRange value_of) (kind width : ℕ) (rs : List (Span ℕ)) (few : length rs ≤ most_records)
    (small : (r : Span ℕ) → Memᴰ r rs → r.value ≤ 1000) where
  -- a block's row value is at most 128,000, as its segments' are
  row_value_le : (j i : ℕ) → j < i → i ≤ length (segments kind width rs) → value_of (block (nth kind width rs) j i) ≤ most_value
  unfolding block
  row_value_le j i below le =
      in_range (block (nth kind width rs) j i)
      (λ s m.
      let x = member_list_from (nth kind width rs) j (i - j) s m in
      rw x.3 (segment_value_le kind rs few small width _ (segment_member (segments kind width rs) x.0 (omega arith))))

  -- a block's row can be held, and its segments are of one group
  row_held : (j i : ℕ) → j < i → i ≤ length (segments kind width rs) → gap_below (segments kind width rs) i ≤ j
      → Held (row_of value_of (nth kind width rs) j i) × ((nth kind width rs j).group ≡ (nth kind width rs (i - 1)).group)
  unfolding gap_below row_of
  row_held j i below le low =
      let end : j + (i - suc j) ≡ i - 1 = omega arith in
      let row =
      reach (nth kind width rs) j (i - suc j) (λ k p q. (nth_inside kind width rs k (omega arith)).0)
      (λ k p q. block_adjacent (nth kind width rs) i j low k p (omega arith)) in
      let whole = rw end at row in (
        (
          (nth_inside kind width rs j (omega arith)).1,
          whole.1,
          (nth_inside kind width rs (i - 1) (omega arith)).2,
          row_value_le j i below le,
        ),
        whole.0,
      )

  module _ (cuts : List ℕ) (red : IsReduction (gap_below (segments kind width rs)) (length (segments kind width rs)) cuts) where
    -- the rows are a chain of rows that can be held
    rows_held : Chain Held Earlier (rows_at kind width rs value_of cuts)
    unfolding gap_below
    rows_held =
        rw append-nil at
        (rows_chain value_of (nth kind width rs) (length (segments kind width rs)) Held (segmentation kind width rs).sorted row_held cuts
        (length (segments kind width rs)) [] (le_refl _) red tt tt)

    -- every row passes the tests of a slot's rows
    pub rows_known_lem : (r : Span ℕ) → Memᴰ r (rows_at kind width rs value_of cuts) → (row_known r ≡ true) × (r.last < 2 ^ 16)
    rows_known_lem r m = held_known r (chain_member Held Earlier (rows_at kind width rs value_of cuts) rows_held r m)

    -- every row follows the one before it
    pub rows_sorted : (i : ℕ) → suc i < length (rows_at kind width rs value_of cuts)
        → follows (segment_at (rows_at kind width rs value_of cuts) (suc i)) (segment_at (rows_at kind width rs value_of cuts) i) ≡ true
    unfolding segment_at
    rows_sorted i lt =
        earlier_follows _ _ (chain_neighbours Held Earlier (rows_at kind width rs value_of cuts) rows_held nowhere i lt)
