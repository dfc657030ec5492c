-- The code's segments: their gaps and runs, one segment further, and that values play no part in them. Assumes nothing.
use Prim.Native.Nat.{ℕ, zero, suc, ◌+◌, ◌-◌, ◌≤◌, ◌<◌}
use mathlib.Core.Bool.{Bool, true, false, ◌&&◌, not, cond}
use mathlib.Core.List.{List, []}
use mathlib.Core.Path.{◌≡◌, refl}
use native.Mathlib.Numerals.{add-one}
use native.Mathlib.Omega.{arith}
use lib.Dec.{eqb}
use mir.Val.{bool_byte}
use Rattle.model.specs.Spans.{Span, adjacent}
use Rattle.model.specs.Blocks.{segment_at, gap, last_gap, runs_to}
use Rattle.model.specs.Arrays.{span_in, spans_in}
use Rattle.model.specs.Split.{gap_below, runs}
use Rattle.model.specs.declared.Segments.{Segments}
use Rattle.theory.proofs.Choice.{last_gap-le}
use Rattle.theory.proofs.SlotLaws.{length-list_from}
use Rattle.theory.proofs.Lists.{segment_at_lem}

-- i is no first segment, so it is a gap where it is not adjacent to the one before
pub gap_after : {A : Type 0} (h : ℕ → Span A) (i : ℕ) → (i ≡ 0 → ⊥)
    → gap h i ≡ not (eqb (h (i - 1)).group (h i).group && eqb ((h (i - 1)).last + 1) (h i).first)
unfolding gap adjacent
gap_after h zero ne = absurd (ne refl)
gap_after h (suc i) ne =
    let back : suc i - 1 ≡ i = omega arith in
    rw (back, add-one)

-- a run more or none, as the code counts it
one_more : (b : Bool) (m : ℕ) → m + bool_byte b ≡ cond b (suc m) m
one_more true m = add-one m
one_more false m = omega arith

pub one_at_most : (b : Bool) → bool_byte b ≤ 1
one_at_most true = omega arith
one_at_most false = omega arith

-- the last gap and the runs, one segment further
module _ {A : Type 0} (h : ℕ → Span A) (i : ℕ) (b : Bool) (is-gap : b ≡ gap h i) where
  pub gap_next : (low r : ℕ) → low ≡ last_gap h i → r ≡ cond b i low → (r ≡ last_gap h (i + 1)) × (r ≤ i)
  unfolding last_gap
  gap_next low r before now =
      let is : r ≡ last_gap h (suc i) = rw (now, is-gap, before) in
      (rw add-one is, omega (arith, last_gap-le h i))

  pub runs_next : (m r : ℕ) → m ≡ runs_to h i → r ≡ bool_byte b → m + r ≡ runs_to h (i + 1)
  unfolding runs_to
  runs_next m r before now = rw (now, add-one, ← is-gap, ← before) (one_more b m)

-- the segments, without their values
abbrev pub plain : Segments → ℕ → Span ℕ
plain s = span_in s.groups s.firsts s.lasts []

-- the values of spans play no part in gaps, and so none in the last gap and the runs
module _ (s : Segments) (values : List ℕ) (n : ℕ) where
  abbrev seg : ℕ → Span ℕ
  seg = span_in s.groups s.firsts s.lasts values

  gap_plain : (i : ℕ) → i < n → gap (plain s) i ≡ gap (segment_at (spans_in s.groups s.firsts s.lasts values n)) i
  unfolding gap adjacent span_in
  gap_plain zero lt = refl
  gap_plain (suc i) lt = rw (segment_at_lem seg n i (omega arith), segment_at_lem seg n (suc i) lt)

  pub gaps_plain : (i : ℕ) → i ≤ n → last_gap (plain s) i ≡ gap_below (spans_in s.groups s.firsts s.lasts values n) i
  unfolding last_gap gap_below
  gaps_plain zero le = refl
  gaps_plain (suc i) le = rw (gap_plain i (omega arith), gaps_plain i (omega arith))

  runs_to_lem : (i : ℕ) → i ≤ n → runs_to (plain s) i ≡ runs_to (segment_at (spans_in s.groups s.firsts s.lasts values n)) i
  unfolding runs_to
  runs_to_lem zero le = refl
  runs_to_lem (suc i) le = rw (gap_plain i (omega arith), runs_to_lem i (omega arith))

  pub runs_plain : runs_to (plain s) n ≡ runs (spans_in s.groups s.firsts s.lasts values n)
  unfolding runs
  runs_plain = rw (length-list_from 0 n (span_in s.groups s.firsts s.lasts values)) (runs_to_lem n (omega arith))
