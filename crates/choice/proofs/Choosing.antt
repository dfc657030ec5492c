-- The number of rows that answers a bound, from a column of errors that is filled as far as the bound asks for. Assumes nothing.
use Rattle.std.specs.Prelude.{Some}
use Rattle.std.specs.Bool.{then_some}
use Rattle.std.proofs.lemmas.Option.{same_Some, none-some}
use Prim.Native.Nat.{ℕ, zero, suc, ◌+◌, ◌-◌, ◌≤◌, ◌<◌, min}
use mathlib.Core.Bool.{Bool, true, false, cond}
use mathlib.Core.List.{List}
use mathlib.Core.Option.{Option, none, some}
use mathlib.Core.Path.{◌≡◌, refl, sym, ap, ◌∙◌}
use native.Mathlib.Decide.{dec_le}
use native.Mathlib.Nat.{add-zero, zero-add}
use native.Mathlib.Omega.{arith}
use lib.ListN.{get_or}
use borrow.Author.Tests.{leb-true, ne_eqb}
use Rattle.model.specs.Common.{option_of}
use Rattle.model.specs.Split.{cell, least, fewest, within, first_that, most_rows, chosen, rows_tried}
use Rattle.model.specs.declared.Bound.{Bound}
use Rattle.model.specs.declared.Bound.TheVariants.{Rows, Share}
use Rattle.theory.proofs.Tests.{cases, true≢false, none≢some}
use Rattle.triangle.specs.Costs.{Costs}
use Rattle.choice.specs.Errors.{error_in}
use Rattle.choice.specs.Bounds.{Known, last_row, meets, stop_row, filled_rows, covers_runs, choice_in, Comparable}
use Rattle.choice.specs.Columns.{FilledColumn}
use Rattle.choice.specs.declared.Task.{Task}
use Rattle.choice.proofs.Errors.{fewest_le}
use Rattle.choice.proofs.Meeting.{by_rows, no_error_lem, comparable, meets_column}

-- ---- the first number that passes a test

first_stop : (test : ℕ → Bool) (k count : ℕ)
    → first_that test k (suc count) ≡ cond (test (stop_row test k count)) (some (stop_row test k count)) none
unfolding first_that stop_row
first_stop test k zero = refl
first_stop test k (suc count) =
    cases (test k) (λ e. rw (e, e)) (λ e. rw e (first_stop test (suc k) count))

-- tests that fail past the first `count` numbers do not count
first_more : (test : ℕ → Bool) (k count more : ℕ)
    → ((x : ℕ) → k + count ≤ x → x < k + count + more → test x ≡ false)
    → first_that test k (count + more) ≡ first_that test k count
unfolding first_that
first_more test k zero zero h = refl
first_more test k zero (suc more) h =
    rw (zero-add (suc more), h k (omega arith) (omega arith))
    (rw zero-add at (first_more test (suc k) zero more (λ x le lt. h x (omega arith) (omega arith))))
first_more test k (suc count) more h =
    let size : suc count + more ≡ suc (count + more) = omega arith in
    rw size (rw (first_more test (suc k) count more (λ x le lt. h x (omega arith) (omega arith))))

stop_never : (test : ℕ → Bool) (k count : ℕ) → ((x : ℕ) → test x ≡ false) → stop_row test k count ≡ k + count
unfolding stop_row
stop_never test k zero h = sym (add-zero k)
stop_never test k (suc count) h = rw (h k) (stop_never test (suc k) count h ∙ omega arith)

stop_range : (test : ℕ → Bool) (k count : ℕ) → (k ≤ stop_row test k count) × (stop_row test k count ≤ k + count)
unfolding stop_row
stop_range test k zero = (omega arith, omega arith)
stop_range test k (suc count) =
    let (ge, le) = stop_range test (suc k) count in
    cases (test k) (λ e. rw e (omega arith, omega arith)) (λ e. rw e (omega arith, omega arith))

fewest_cong : (e f : ℕ → Option ℕ) (k : ℕ) → ((x : ℕ) → x ≤ k → e x ≡ f x) → fewest e k ≡ fewest f k
unfolding fewest
fewest_cong e f zero h = refl
fewest_cong e f (suc k) h =
    let before = fewest_cong e f k (λ x le. h x (omega arith)) in
    let few = fewest_le f k in
    rw (before, h (suc k) (omega arith), h (fewest f k) (omega arith))

-- ---- a bound that leaves a row for each run

-- E(0,n) is none where there is a segment
pub no_rows : (err : ℕ → ℕ → ℕ) (low : ℕ → ℕ) (n : ℕ) → 1 ≤ n → by_rows err low n 0 ≡ none
unfolding least cell
no_rows err low n some_segments = rw (ne_eqb n 0 (λ e. omega arith))

-- no number of rows answers a limit that leaves none for some run
pub few_rows : (e : ℕ → Option ℕ) (n m : ℕ) (bound : Bound) → covers_runs bound m ≡ false → chosen bound e n m ≡ none
unfolding chosen covers_runs
few_rows e n m (Rows c) few = rw few
few_rows e n m (Share p) few = absurd (true≢false few)

limit_count : (e : ℕ → Option ℕ) (n m c : ℕ) → covers_runs (Rows c) m ≡ true → chosen (Rows c) e n m ≡ some (fewest e (min c n))
unfolding chosen covers_runs
limit_count e n m c covers = rw covers

limit_rows : (e : ℕ → Option ℕ) (n m c : ℕ) → 1 ≤ last_row (Rows c) n → filled_rows (Rows c) e n m ≡ min c n
unfolding filled_rows last_row meets
limit_rows e n m c le = stop_never (λ k. false) 1 (min c n - 1) (λ x. refl) ∙ omega arith

unmet : (p : ℕ) (o e : Option ℕ) → e ≡ none → within p o e ≡ false
unfolding within
unmet p none e is = refl
unmet p (some M) e is = rw is

module _ {err : ℕ → ℕ → ℕ} {low : ℕ → ℕ} {n m : ℕ} (costs : Costs err low n m) (some_segments : 1 ≤ n) where
  -- a row may be tried: where there is a segment there is a run
  pub last_pos : (bound : Bound) → covers_runs bound m ≡ true → 1 ≤ last_row bound n
  unfolding last_row covers_runs most_rows
  last_pos (Rows c) e =
      elim (dec_le m 0) [
        | yes none_here ↦ absurd (none≢some (no_rows err low n some_segments) (costs.possible 0 none_here (omega arith)).1)
        | no some-here ↦ (let room = leb-true m c e in omega arith)
      ]
  last_pos (Share p) e = omega arith

  share_count : (p : ℕ) → chosen (Share p) (by_rows err low n) n m
      ≡ cond (meets (Share p) (by_rows err low n) m (filled_rows (Share p) (by_rows err low n) n m)) (some (filled_rows (Share p) (by_rows err low n) n m)) none
  unfolding chosen meets filled_rows last_row most_rows first_that
  share_count p =
      let count : ℕ = min 64 n in
      let all : 64 ≡ count + (64 - count) = omega arith in
      let last : count ≡ suc (count - 1) = omega arith in
      first p
      ∙ ap (first_that (test p) 1) all
      ∙ first_more (test p) 1 count (64 - count)
      (λ x le lt. unmet p (by_rows err low n m) (by_rows err low n x) (no_error_lem costs x (λ lo hi. omega arith)))
      ∙ ap (first_that (test p) 1) last ∙ first_stop (test p) 1 (count - 1)
    where
      test : ℕ → ℕ → Bool
      test p k = within p (by_rows err low n m) (by_rows err low n k)

      first : (p : ℕ) → first_that (test p) 0 65 ≡ first_that (test p) 1 64
      first p = rw (unmet p (by_rows err low n m) (by_rows err low n 0) (no_rows err low n some_segments))

-- ---- the choice

then_some_is : (b : Bool) (x y : ℕ) → then_some b x ≡ Some y → x ≡ y
then_some_is true x y is = same_Some x y is
then_some_is false x y is = absurd (none-some y is)

module _ {err : ℕ → ℕ → ℕ} {low : ℕ → ℕ} {task : Task} {column : List ℕ} {last : ℕ} (g : FilledColumn err low task column last) where
  can_try : 1 ≤ last_row task.bound task.segments
  can_try = last_pos g.costs task.some_segments task.bound task.covers

  pub rows_range : (1 ≤ last) × (last ≤ 64) × (last ≤ task.segments)
  unfolding filled_rows last_row most_rows Known
  rows_range = rw g.rows (by task.bound task.known can_try)
    where
      by : (b : Bound) → Known b → 1 ≤ last_row b task.segments
          → (1 ≤ filled_rows b (by_rows err low task.segments) task.segments task.runs) × (filled_rows b (by_rows err low task.segments) task.segments task.runs ≤ 64) × (filled_rows b (by_rows err low task.segments) task.segments task.runs ≤ task.segments)
      by (Rows c) h one =
          let (ge, le) = stop_range (meets (Rows c) (by_rows err low task.segments) task.runs) 1 (min c task.segments - 1) in
          (omega arith, omega arith, omega arith)
      by (Share p) h one =
          let (ge, le) = stop_range (meets (Share p) (by_rows err low task.segments) task.runs) 1 (min 64 task.segments - 1) in
          (omega arith, omega arith, omega arith)

  -- the errors can be compared
  pub comparable_last : Comparable task.bound column task.runs last
  comparable_last =
      let (some-row, few, inside) = rows_range in
      comparable g.costs column last (λ k le. (g.errors k le).is) inside task.bound task.known (omega arith)

  -- the choice that is made from the column is the definition's
  pub choice_is : chosen task.bound (by_rows err low task.segments) task.segments task.runs ≡ option_of (choice_in task.bound column task.runs last)
  unfolding choice_in option_of
  choice_is = by task.bound task.covers can_try g.rows
    where
      by : (b : Bound) → covers_runs b task.runs ≡ true → 1 ≤ last_row b task.segments → last ≡ filled_rows b (by_rows err low task.segments) task.segments task.runs
          → chosen b (by_rows err low task.segments) task.segments task.runs ≡ option_of (choice_in b column task.runs last)
      by (Rows l) e one filled =
          limit_count (by_rows err low task.segments) task.segments task.runs l e
          ∙ sym (ap some (fewest_cong (λ k. error_in (get_or column k 0)) (by_rows err low task.segments) last (λ k le. (g.errors k le).is)
          ∙ ap (fewest (by_rows err low task.segments)) (filled ∙ limit_rows (by_rows err low task.segments) task.segments task.runs l one)))
      by (Share p) e one filled =
          share_count g.costs task.some_segments p
          ∙ rw (← filled, meets_column g.costs column last (λ k le. (g.errors k le).is) rows_range.2 (Share p))
          (cases (meets (Share p) (by_rows err low task.segments) task.runs last) (λ met. rw met) (λ unmet. rw unmet))

  module _ (k : ℕ) (chosen_rows : choice_in task.bound column task.runs last ≡ Some k) where
    pub count_le : k ≤ last
    unfolding choice_in
    count_le = by task.bound chosen_rows
      where
        by : (b : Bound) → choice_in b column task.runs last ≡ Some k → k ≤ last
        by (Rows l) is =
            let same = same_Some (fewest (λ x. error_in (get_or column x 0)) last) k is in
            let few = fewest_le (λ x. error_in (get_or column x 0)) last in
            omega arith
        by (Share p) is = let same = then_some_is _ last k is in omega arith

    -- the rows tried are those that are filled
    pub tried_is : rows_tried task.bound task.segments k ≡ last
    unfolding choice_in rows_tried
    tried_is = by task.bound chosen_rows can_try g.rows
      where
        by : (b : Bound) → choice_in b column task.runs last ≡ Some k → 1 ≤ last_row b task.segments → last ≡ filled_rows b (by_rows err low task.segments) task.segments task.runs
            → rows_tried b task.segments k ≡ last
        by (Rows l) is one filled = sym (filled ∙ limit_rows (by_rows err low task.segments) task.segments task.runs l one)
        by (Share p) is one filled = sym (then_some_is _ last k is)
