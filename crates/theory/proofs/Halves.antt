-- Halves go up: against the tool that held the lower whole number at a half, row values rise by 1 at a half and nowhere else, and every
-- error, and with that every choice made by errors, is what it was. Assumes nothing.
use Prim.Native.Nat.{ℕ, suc, ◌+◌, ◌*◌, ◌%◌, ◌≤◌, ◌<◌}
use mathlib.Core.List.{List, [], ◌∷◌, ◌++◌, map, map-append}
use mathlib.Core.Logic.{◌⊎◌, inl, inr, ⊎_elim}
use mathlib.Core.Option.{Option, none, some}
use mathlib.Core.Path.{◌≡◌, refl, sym, ap, ◌∙◌}
use native.Mathlib.Decide.{ℕ_discrete, dec_le}
use native.Mathlib.Nat.{le_antisymm, le_of_suc-le-suc, lt_of_mul-lt-mul_right, div-add-mod', mod-lt}
use native.Mathlib.Omega.{arith}
use lib.Dec.{ltb, eqb}
use lib.IntN.{pos}
use lib.ListN.{length}
use borrow.Author.Tests.{eqb-true, eq-eqb, ltb-true, ltb-false}
use Rattle.model.specs.Spans.{Span}
use Rattle.model.specs.Log.{greatest_kind}
use Rattle.model.specs.Blocks.{segment_at, block, totals, nearest, value_for, row_value, error_with, block_error, row_of}
use Rattle.model.specs.Split.{least, cuts_of, rows_of, chosen, error_of, gap_below, runs, least_of, count_for, reduced_to, reduced}
use Rattle.model.specs.Questions.{most_value, query_questions, enough_rows}
use Rattle.model.specs.Calls.{counts_of, log_segments, answer_of, query_outcome, query_segments}
use Rattle.model.specs.LowerHalves.{lower_nearest, lower_value, lower_error, lower_error_of, lower_least_of, lower_count_for, lower_reduced_to, lower_reduced, lower_answer, lower_outcome}
use Rattle.model.specs.Demands.{HalfAbove, Risen, AllRisen}
use Rattle.model.specs.declared.Bound.{Bound}
use Rattle.model.specs.declared.Query.{Query}
use Rattle.theory.proofs.Tests.{true≢false, cases}
use Rattle.theory.proofs.Nearest.{Near, no_frames_lem, nearest_low, nearest_high, nearest_near, mean_least}
use Rattle.theory.proofs.Blocks.{rows_length}
use Rattle.theory.proofs.RowValues.{row_le}
use Rattle.theory.proofs.Stored.{InRange}
use Rattle.theory.proofs.Answer.{reduced_to_lem}

-- ---- the two nearest whole numbers

module _ (sum frames : ℕ) (some_frames : 0 < frames) where
  -- the lower one at a half: at most a half below the mean, and less than a half above it
  lower_low : 2 * sum ≤ (2 * lower_nearest sum frames + 1) * frames
  unfolding lower_nearest
  lower_low =
      let parts = div-add-mod' sum frames in
      let left = mod-lt sum some_frames in
      cases (ltb frames (2 * (sum % frames)))
      (λ e. rw e (omega arith))
      (λ e. rw e (let small = ltb-false frames (2 * (sum % frames)) e in omega arith))

  lower_high : 2 * (lower_nearest sum frames * frames) < 2 * sum + frames
  unfolding lower_nearest
  lower_high =
      let parts = div-add-mod' sum frames in
      cases (ltb frames (2 * (sum % frames)))
      (λ e. rw e (let large = ltb-true frames (2 * (sum % frames)) e in omega arith))
      (λ e. rw e (omega arith))

  -- compared by their products with the frames: what is below n + 1 is not above n
  not_above_lem : (m n : ℕ) → 2 * (m * frames) < 2 * (suc n * frames) → m ≤ n
  not_above_lem m n less = le_of_suc-le-suc (lt_of_mul-lt-mul_right frames (omega arith))

  abbrev up : ℕ
  up = nearest sum frames

  abbrev down : ℕ
  down = lower_nearest sum frames

  lower_near : Near sum frames down
  lower_near = record { low = lower_low; high = omega (arith, lower_high) }

  -- half way between k and k + 1 they are these two
  at_half_lem : (k : ℕ) → 2 * sum ≡ (2 * k + 1) * frames → (up ≡ suc k) × (down ≡ k)
  at_half_lem k half = (
    le_antisymm (not_above_lem up (suc k) (omega (arith, nearest_high sum frames some_frames)))
        (not_above_lem (suc k) up (omega (arith, nearest_low sum frames some_frames))),
    le_antisymm (not_above_lem down k (omega (arith, lower_high))) (not_above_lem k down (omega (arith, lower_low))),
  )

  -- so the upper one is the lower one or, at a half, one more
  rises : (up ≡ down) ⊎ ((up ≡ suc down) × (2 * sum ≡ (2 * down + 1) * frames))
  rises =
      elim (ℕ_discrete (2 * sum) ((2 * down + 1) * frames)) [
        | yes half ↦ inr ((at_half_lem down half).0, half)
        | no other ↦
            (let low = lower_low in
            inl (le_antisymm (not_above_lem up down (omega (arith, nearest_high sum frames some_frames)))
            (not_above_lem down up (omega (arith, lower_high, nearest_low sum frames some_frames)))))
      ]

-- ---- a block's row value and error

module _ (kind : ℕ) (b : List (Span ℕ)) where
  -- for kind 3 and without frames the row value is what it was; else the two are the nearest whole numbers to the mean
  values : (P : ℕ → ℕ → Type 0) → ((kind ≡ greatest_kind) ⊎ ((totals b).frames ≡ 0) → (n : ℕ) → P n n)
      → ((kind ≡ greatest_kind → ⊥) → 0 < (totals b).frames
      → P (nearest (totals b).sum (totals b).frames) (lower_nearest (totals b).sum (totals b).frames))
      → P (row_value kind b) (lower_value kind b)
  unfolding row_value value_for nearest lower_value lower_nearest
  values P same means =
      cases (eqb kind greatest_kind) (λ e. rw e (same (inl (eqb-true kind greatest_kind e)) _))
      (λ e. rw e (elim (dec_le 1 (totals b).frames) [
        | yes some_frames ↦ means (λ is. true≢false (sym (eq-eqb kind greatest_kind is) ∙ e)) some_frames
        | no h ↦ void (omega arith)
      ]))
    where
      void : (totals b).frames ≡ 0
          → P (nearest (totals b).sum (totals b).frames) (lower_nearest (totals b).sum (totals b).frames)
      void none_here = rw (none_here, (no_frames_lem b none_here).0) (same (inr none_here) 0)

  pub at_half_of : (k : ℕ) → (kind ≡ greatest_kind → ⊥) → HalfAbove k b → (row_value kind b ≡ suc k) × (lower_value kind b ≡ k)
  at_half_of k other (some_frames, half) =
      values (λ now before. (now ≡ suc k) × (before ≡ k))
      (λ c n. absurd (⊎_elim other (λ (none_here : (totals b).frames ≡ 0). absurd (omega arith)) c))
      (λ o f. at_half_lem (totals b).sum (totals b).frames f k half)

  -- a row value is what it was or, at a half and for every kind but 3, one more
  pub risen_value : (row_value kind b ≡ lower_value kind b)
      ⊎ ((row_value kind b ≡ suc (lower_value kind b)) × (kind ≡ greatest_kind → ⊥) × HalfAbove (lower_value kind b) b)
  risen_value =
      values (λ now before. (now ≡ before) ⊎ ((now ≡ suc before) × (kind ≡ greatest_kind → ⊥) × HalfAbove before b)) (λ c n. inl refl)
      (λ other some_frames.
      ⊎_elim inl (λ (one, half). inr (one, other, (some_frames, half))) (rises (totals b).sum (totals b).frames some_frames))

  pub same_elsewhere : (kind ≡ greatest_kind) ⊎ ((k : ℕ) → HalfAbove k b → ⊥) → row_value kind b ≡ lower_value kind b
  same_elsewhere c =
      ⊎_elim (λ same. same) (λ (one, other, half). absurd (⊎_elim other (λ never. never (lower_value kind b) half) c)) risen_value

  -- two numbers with the least error have the same
  pub same_error_lem : block_error kind b ≡ lower_error kind b
  unfolding block_error lower_error
  same_error_lem =
      values (λ now before. error_with (pos now) b ≡ error_with (pos before) b) (λ c n. refl)
      (λ other some_frames.
      let sum = (totals b).sum in
      let frames = (totals b).frames in
      le_antisymm (mean_least b _ (nearest_near sum frames) _) (mean_least b _ (lower_near sum frames) _))

-- row values of before are in range, as those of now are
pub lower_in_range : (kind : ℕ) → InRange (lower_value kind)
lower_in_range kind b small =
    let le = row_le kind most_value b small in
    ⊎_elim (λ (same : row_value kind b ≡ lower_value kind b). omega arith) (λ up. omega (arith, up.0)) (risen_value kind b)

-- ---- answers

pub same_errors : (kind : ℕ) (segs : List (Span ℕ)) → error_of kind segs ≡ lower_error_of kind segs
unfolding error_of lower_error_of
same_errors kind segs = λ x j i. same_error_lem kind (block (segment_at segs) j i) x

module _ (kind : ℕ) (bound : Bound) (segs : List (Span ℕ)) where
  -- the same number of rows answers a bound
  pub same_count : count_for kind bound segs ≡ lower_count_for kind bound segs
  unfolding count_for least_of lower_count_for lower_least_of
  same_count =
      ap (λ (err : ℕ → ℕ → ℕ). chosen bound (λ k. least err (gap_below segs) k (length segs)) (length segs) (runs segs)) (same_errors kind segs)

  -- the reduction to k rows is by the same cuts, with the same error and cuts weighed
  pub same_reduction : (k : ℕ)
      → ((lower_reduced_to kind bound segs k).rows
      ≡ rows_of (lower_value kind) (segment_at segs) (length segs) (cuts_of (error_of kind segs) (gap_below segs) k (length segs)))
      × (counts_of (reduced_to kind bound segs k) ≡ counts_of (lower_reduced_to kind bound segs k))
  unfolding reduced_to least_of lower_reduced_to lower_least_of counts_of
  same_reduction k =
      let cuts = cuts_of (lower_error_of kind segs) (gap_below segs) k (length segs) in
      rw (same_errors kind segs) (
        refl,
        rw (rows_length (row_value kind) (segment_at segs) (length segs) cuts, rows_length (lower_value kind) (segment_at segs) (length segs) cuts),
      )

  -- and where there is no answer now, there was none
  both_none : count_for kind bound segs ≡ none → (reduced kind bound segs ≡ none) × (lower_reduced kind bound segs ≡ none)
  unfolding reduced lower_reduced
  both_none h = (rw (h, reduced), rw (sym same_count ∙ h, lower_reduced))

  both_to : (k : ℕ) → count_for kind bound segs ≡ some k
      → (reduced kind bound segs ≡ some (reduced_to kind bound segs k)) × (lower_reduced kind bound segs ≡ some (lower_reduced_to kind bound segs k))
  unfolding lower_reduced
  both_to k h = (reduced_to_lem kind segs bound k h, rw (sym same_count ∙ h, lower_reduced))

-- the rows of the same blocks have risen, if at all
pub risen_rows : (kind : ℕ) (segs : List (Span ℕ)) (i : ℕ) (cuts : List ℕ)
    → AllRisen (map (λ r. r.value) (rows_of (λ b. b) (segment_at segs) i cuts)) (rows_of (row_value kind) (segment_at segs) i cuts)
    (rows_of (lower_value kind) (segment_at segs) i cuts)
unfolding rows_of row_of
risen_rows kind segs i [] = (refl, refl)
risen_rows kind segs i (j ∷ js) =
    rw (map-append (λ (r : Span (List (Span ℕ))). r.value) (rows_of (λ b. b) (segment_at segs) j js) (row_of (λ b. b) (segment_at segs) j i ∷ []))
    (risen_append (map (λ r. r.value) (rows_of (λ b. b) (segment_at segs) j js)) (rows_of (row_value kind) (segment_at segs) j js)
    (rows_of (lower_value kind) (segment_at segs) j js) (risen_rows kind segs j js) one)
  where
    risen_append : (blocks : List (List (Span ℕ))) (rs bs : List (Span ℕ)) → AllRisen blocks rs bs
        → {block : List (Span ℕ)} {r b : Span ℕ} → Risen block r b
        → AllRisen (blocks ++ (block ∷ [])) (rs ++ (r ∷ [])) (bs ++ (b ∷ []))
    risen_append [] rs bs (no_rows, none_before) last = rw (no_rows, none_before) (last, (refl, refl))
    risen_append (block ∷ blocks) [] bs all last = absurd all
    risen_append (block ∷ blocks) (r ∷ rs) [] all last = absurd all
    risen_append (block ∷ blocks) (r ∷ rs) (b ∷ bs) (first, rest) last = (first, risen_append blocks rs bs rest last)

    one : Risen (block (segment_at segs) j i) (row_of (row_value kind) (segment_at segs) j i) (row_of (lower_value kind) (segment_at segs) j i)
    one =
        record {
          group = refl;
          first = refl;
          last = refl;
          value = ⊎_elim inl (λ (more, other, half). inr (more, half)) (risen_value kind (block (segment_at segs) j i));
        }

module _ (q : Query) (log : List ℕ) where
  abbrev segs : List (Span ℕ)
  segs = query_segments q log

  pub answers_are : (k : ℕ) → count_for q.kind q.bound segs ≡ some k
      → (answer_of q log ≡ reduced_to q.kind q.bound segs k) × (lower_answer q log ≡ lower_reduced_to q.kind q.bound segs k)
  unfolding answer_of lower_answer
  answers_are k h = let both = both_to q.kind q.bound segs k h in (rw both.0, rw both.1)

  -- the answer to a query has the same counts
  same_counts : counts_of (answer_of q log) ≡ counts_of (lower_answer q log)
  unfolding answer_of lower_answer
  same_counts = by (count_for q.kind q.bound segs) refl
    where
      by : (o : Option ℕ) → count_for q.kind q.bound segs ≡ o → counts_of (answer_of q log) ≡ counts_of (lower_answer q log)
      by none h = let both = both_none q.kind q.bound segs h in rw (both.0, both.1)
      by (some k) h = let are = answers_are k h in rw (are.0, are.1) (same_reduction q.kind q.bound segs k).1

  -- and the same outcome
  pub same_outcome_lem : (room : ℕ) → query_outcome q log room ≡ lower_outcome q log room
  unfolding query_outcome query_questions enough_rows log_segments lower_outcome
  same_outcome_lem room = rw (same_count q.kind q.bound segs, same_counts)
