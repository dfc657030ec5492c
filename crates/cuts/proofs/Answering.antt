-- The answer that is made of a filled column, and of a filled table, is the definition's. Assumes nothing.
use Rattle.std.specs.Prelude as std
use Rattle.std.specs.Prelude.{Some, None, IfSome}
use Prim.Native.Nat.{ℕ, ◌-◌, ◌*◌, ◌≤◌, ◌<◌}
use mathlib.Core.List.{List, [], ◌∷◌, ◌++◌}
use mathlib.Core.Option.{Option, none, some}
use mathlib.Core.Path.{◌≡◌, refl, ap, ◌∙◌, subst}
use native.Mathlib.Decide.{ℕ_discrete}
use native.Mathlib.Omega.{arith}
use lib.ListN.{length, get_or, set, drop}
use Rattle.model.specs.Common.{sum_from, option_of}
use Rattle.model.specs.Split.{cell, least, weighed, cuts_of, chosen, rows_tried}
use Rattle.model.specs.declared.Bound.{Bound}
use Rattle.theory.proofs.Tests.{none≢some}
use Rattle.theory.proofs.Choice.{weighed_le}
use Rattle.choice.specs.Bounds.{choice_in}
use Rattle.choice.specs.Columns.{FilledColumn}
use Rattle.choice.specs.declared.Task.{Task}
use Rattle.choice.proofs.Errors.{held}
use Rattle.choice.proofs.Meeting.{by_rows}
use Rattle.choice.proofs.Choosing.{no_rows, rows_range, choice_is, count_le, tried_is}
use Rattle.cuts.specs.declared.Reduction.{Reduction}
use Rattle.cuts.specs.Held.{cuts_in, Readable, ascending, Fills, reduction_for, cuts_for}
use Rattle.cuts.proofs.Reading.{read_filled}

-- ---- by a column of errors

module _ {err : ℕ → ℕ → ℕ} {low : ℕ → ℕ} {task : Task} {column : List ℕ} {last : ℕ} (g : FilledColumn err low task column last) where
  pub unanswered : choice_in task.bound column task.runs last ≡ None
      → (None ≡ reduction_for err low task.segments task.runs task.bound) × ((cuts : List ℕ) → cuts ≡ cuts_for err low task.segments task.runs task.bound cuts)
  unfolding reduction_for cuts_for option_of
  unanswered refused =
      let none_here : chosen task.bound (by_rows err low task.segments) task.segments task.runs ≡ none = choice_is g ∙ ap option_of refused in
      (rw (none_here, reduction_for), λ cuts. rw (none_here, cuts_for))

  module _ (k : ℕ) (rows : choice_in task.bound column task.runs last ≡ Some k) where
    is_count : chosen task.bound (by_rows err low task.segments) task.segments task.runs ≡ some k
    unfolding option_of
    is_count = choice_is g ∙ ap option_of rows

    -- the number of rows has an error
    pub error_is : (t : ℕ) × (least err low k task.segments ≡ some t)
    error_is = g.costs.answers task.bound k is_count

    -- and so a row, since there is a segment
    pub some_rows : 1 ≤ k
    some_rows =
        elim (ℕ_discrete k 0) [
          | yes none_here ↦
              absurd (none≢some (no_rows err low task.segments task.some_segments) (subst (λ (x : ℕ). least err low x task.segments ≡ some error_is.0) none_here error_is.1))
          | no some-here ↦ omega arith
        ]

    pub cuts_are : (cuts : List ℕ) → ascending (cuts_of err low k task.segments) ++ drop k cuts ≡ cuts_for err low task.segments task.runs task.bound cuts
    unfolding cuts_for
    cuts_are cuts = rw (is_count, cuts_for)

    pub answered : (tried : ℕ) → tried ≡ weighed err low last task.segments
        → ◌≡◌ {A = std.Option Reduction} (Some (record { count = k; error = get_or column k 0; weighed = tried })) (reduction_for err low task.segments task.runs task.bound)
    unfolding reduction_for
    answered tried weighs =
        let (t, e) = error_is in
        let value = held _ t ((g.errors k (count_le g k rows)).is ∙ e) in
        rw (is_count, reduction_for, tried_is g k rows, weighs, e, value)

-- ---- by a table

module _ {err : ℕ → ℕ → ℕ} {low : ℕ → ℕ} {task : Task} {table column : List ℕ} {last tried : ℕ} (g : Fills err low task table column last tried) (k : ℕ) (rows : choice_in task.bound column task.runs last ≡ Some k) where
  -- the table holds the definition's cuts
  pub read : (cuts_in table k task.segments ≡ cuts_of err low k task.segments) × Readable table k task.segments
  read =
      let (t, e) = error_is g.filled k rows in
      read_filled err low last task.segments table (rows_range g.filled).1 g.filled.costs.few g.places k task.segments
      (count_le g.filled k rows) (omega arith) (g.filled.costs.sound k t e)

-- ---- by one row

pub weighed_none : (err : ℕ → ℕ → ℕ) (low : ℕ → ℕ) (n : ℕ) → 0 ≡ weighed err low 1 n
unfolding weighed sum_from
weighed_none err low n = refl

pub one_cut : (err : ℕ → ℕ → ℕ) (low : ℕ → ℕ) (n : ℕ) (cuts : List ℕ) → 0 < length cuts
    → set cuts 0 0 ≡ ascending (cuts_of err low 1 n) ++ drop 1 cuts
unfolding ascending cuts_of cell
one_cut err low n [] some-place = absurd (omega arith)
one_cut err low n (x ∷ cuts) some-place = refl

-- ---- the bound on the cuts weighed, of any answer

pub reduction_weighed : (err : ℕ → ℕ → ℕ) (low : ℕ → ℕ) (n m : ℕ) (bound : Bound) (o : std.Option Reduction)
    → o ≡ reduction_for err low n m bound
    → IfSome o (λ r. 2 * r.weighed ≤ (rows_tried bound n r.count - 1) * (n * (n - 1)))
unfolding reduction_for
reduction_weighed err low n m bound o is = by (chosen bound (by_rows err low n) n m) refl
  where
    by : (k : Option ℕ) → chosen bound (by_rows err low n) n m ≡ k
        → IfSome o (λ r. 2 * r.weighed ≤ (rows_tried bound n r.count - 1) * (n * (n - 1)))
    by none e = rw (is, e, reduction_for) tt
    by (some k) e = rw (is, e, reduction_for) (weighed_le err low (rows_tried bound n k) n)
