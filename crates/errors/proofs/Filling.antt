-- A row of the blocks' errors as it is filled, from the last block to the first, and the rows one after the other. Assumes nothing.
use Prim.Native.Nat.{ℕ, ◌+◌, ◌-◌, ◌≤◌, ◌<◌}
use mathlib.Core.List.{List}
use mathlib.Core.Path.{◌≡◌, refl, ◌∙◌}
use native.Mathlib.Decide.{ℕ_discrete}
use native.Mathlib.Omega.{arith}
use lib.ListN.{length, set, length-set}
use lib.Seq.{get_or-set_other}
use Rattle.model.specs.Spans.{Span}
use Rattle.model.specs.Blocks.{Totals, totals, block_error}
use Rattle.model.specs.declared.Segments.{Segments}
use Rattle.theory.proofs.Lists.{after_set}
use Rattle.blocks.specs.Meaning.{error_from}
use Rattle.blocks.proofs.Bounds.{error_from-block}
use Rattle.measures.specs.Held.{block_in}
use Rattle.triangle.specs.Places.{row_start, error_at, gap_at}
use Rattle.triangle.proofs.Starts.{start_next, in_room}
use Rattle.errors.specs.Filled.{EndingAt}

-- the error of totals that are a block's
pub block_error_lem : (kind : ℕ) (b : List (Span ℕ)) (t : Totals) (e : ℕ) → t ≡ totals b → e ≡ error_from kind t
    → e ≡ block_error kind b
block_error_lem kind b t e is from = from ∙ rw is (error_from-block kind b)

module _ (kind : ℕ) (segments : Segments) (i start : ℕ) (before : List ℕ) where
  -- no block yet
  pub row_begins : EndingAt kind segments i i start before before
  row_begins = record { size = refl; errors = λ j lo hi. absurd (omega arith); others = λ x lt. refl }

  -- one block more, that from at − 1 on
  pub row_next : {at e : ℕ} {errors : List ℕ} → EndingAt kind segments at i start before errors → 0 < at → at ≤ i
      → start + i ≤ length before → e ≡ block_error kind (block_in segments (at - 1) i)
      → EndingAt kind segments (at - 1) i start before (set errors (start + (at - 1)) e)
  row_next {at} {e} {errors} row lo hi room is =
      let size = row.size in
      record {
        size = simp length-set size;
        errors = λ j ge lt.
            after_set (λ x v. x ≡ start + j → v ≡ block_error kind (block_in segments j i)) errors (start + (at - 1)) e
            (omega arith)
            (λ here. let same : at - 1 ≡ j = omega arith in rw same at is)
            (start + j) (λ other here. row.errors j (omega arith) lt) refl;
        others = λ x lt. get_or-set_other errors (start + (at - 1)) x e 0 (λ h. omega arith) ∙ row.others x lt;
      }

-- the rows to i are filled; `before` had as many places
pub record Rows (kind : ℕ) (segments : Segments) (gaps before : List ℕ) (n i start : ℕ) (errors : List ℕ) : Type 0 where
  pub to : i ≤ n
  pub begins : start ≡ row_start i
  pub size : length errors ≡ length before
  pub held : (j x : ℕ) → gap_at gaps x ≤ j → j < x → x ≤ i → error_at errors j x ≡ block_error kind (block_in segments j x)

pub rows_begin : (kind : ℕ) (segments : Segments) (gaps before : List ℕ) (n : ℕ) → Rows kind segments gaps before n 0 0 before
unfolding row_start
rows_begin kind segments gaps before n =
    record { to = omega arith; begins = refl; size = refl; held = λ j x above lt le. absurd (omega arith) }

module _ {kind : ℕ} {segments : Segments} {gaps before : List ℕ} {n i start : ℕ} {errors : List ℕ} (rows : Rows kind segments gaps before n i start errors) (more : i < n) where
  -- where the next row begins, and that there is room for it
  pub next_start : start + i ≡ row_start (i + 1)
  next_start = rw (rows.begins, start_next i)

  pub next_room : row_start (n + 1) ≤ length before → start + i + (i + 1) ≤ length errors
  next_room room =
      let last = in_room n (i + 1) i (omega arith) (omega arith) in
      omega (arith, next_start, rows.size)

  pub rows_next : {low : ℕ} {errors' : List ℕ} → low ≡ gap_at gaps (i + 1)
      → EndingAt kind segments low (i + 1) (start + i) errors errors'
      → Rows kind segments gaps before n (i + 1) (start + i) errors'
  unfolding error_at
  rows_next {low} {errors'} is-low row =
      record {
        to = omega arith;
        begins = next_start;
        size = row.size ∙ rows.size;
        held = λ j x above lt le.
            elim (ℕ_discrete x (i + 1)) [
              | yes last ↦ rw (last, ← next_start) (row.errors j (rw (last, ← is-low) at above) (omega arith))
              | no other ↦
                  (let inside = in_room i x j (omega arith) lt in
                  row.others (row_start x + j) (omega (arith, next_start)) ∙ rows.held j x above lt (omega arith))
            ];
      }
