-- Errors with 'none' among them, as the code holds them: every number from `no_error` on stands for 'none'. Assumes nothing.
use Prim.Native.Nat.{ℕ, zero, suc, ◌-◌, ◌≤◌, ◌<◌, zero-le}
use mathlib.Core.Bool.{cond}
use mathlib.Core.List.{List}
use mathlib.Core.Option.{Option, none, some}
use mathlib.Core.Path.{◌≡◌, sym}
use native.Mathlib.Decide.{dec_le}
use native.Mathlib.Omega.{arith}
use lib.Dec.{ltb}
use lib.ListN.{get_or}
use borrow.Author.Tests.{lt-ltb, le-ltb}
use Rattle.model.specs.Split.{below, exceeds, fewest}
use Rattle.theory.proofs.Tests.{cases, none≢some, some_inj}
use Rattle.choice.specs.Errors.{no_error, error_in}

pub none_in : (x : ℕ) → no_error ≤ x → error_in x ≡ none
unfolding error_in
none_in x le = rw (le-ltb x no_error le)

pub some_in : (x : ℕ) → x < no_error → error_in x ≡ some x
unfolding error_in
some_in x lt = rw (lt-ltb x no_error lt)

-- a number below 'none' is its own error
pub held : (x t : ℕ) → error_in x ≡ some t → x ≡ t
held x t h =
    elim (dec_le no_error x) [
      | yes le ↦ absurd (none≢some (none_in x le) h)
      | no lt ↦ some_inj (some_in x (omega arith)) h
    ]

module _ (a b : ℕ) (small : b ≤ no_error) where
  pub below_in : below (error_in a) (error_in b) ≡ ltb a b
  unfolding below
  below_in =
      elim (dec_le no_error a) [
        | yes le ↦ rw (none_in a le) (sym (le-ltb a b (omega arith)))
        | no lt ↦
            elim (dec_le no_error b) [
              | yes le ↦ rw (none_in b le, some_in a (omega arith)) (sym (lt-ltb a b (omega arith)))
              | no lt' ↦ rw (some_in a (omega arith), some_in b (omega arith))
            ]
      ]

-- an error a exceeds a held error b
pub exceeds_in : (a b : ℕ) → a ≤ no_error → exceeds a (error_in b) ≡ ltb b a
unfolding exceeds
exceeds_in a b small =
    elim (dec_le no_error b) [
      | yes le ↦ rw (none_in b le) (sym (le-ltb b a (omega arith)))
      | no lt ↦ rw (some_in b (omega arith))
    ]

-- the fewest rows with the least error of a column, with row k behind the rows before it
pub fewest_next : (column : List ℕ) (k best r : ℕ) → 1 ≤ k → get_or column best 0 ≤ no_error
    → best ≡ fewest (λ x. error_in (get_or column x 0)) (k - 1) → r ≡ cond (ltb (get_or column k 0) (get_or column best 0)) k best
    → r ≡ fewest (λ x. error_in (get_or column x 0)) k
unfolding fewest
fewest_next column zero best r some-row small so_far now = absurd (omega arith)
fewest_next column (suc k) best r some-row small so_far now =
    let back : suc k - 1 ≡ k = omega arith in
    let before = rw back at so_far in
    rw (← before, below_in (get_or column (suc k) 0) (get_or column best 0) small) now

pub fewest_le : (e : ℕ → Option ℕ) (k : ℕ) → fewest e k ≤ k
unfolding fewest
fewest_le e zero = zero-le
fewest_le e (suc k) =
    let ih = fewest_le e k in
    cases (below (e (suc k)) (e (fewest e k))) (λ q. rw q (omega arith)) (λ q. rw q (omega arith))
