-- Where the next event comes: up to it the records that hold a frame do not change. Assumes nothing.
use Prim.Native.Nat.{ℕ, ◌≤◌, ◌<◌}
use mathlib.Core.Bool.{true, false}
use mathlib.Core.List.{List, [], ◌∷◌}
use mathlib.Core.Path.{◌≡◌, refl}
use native.Mathlib.Omega.{arith}
use lib.Dec.{leb, ltb}
use borrow.Author.Tests.{ltb-true, ltb-false, leb-true, leb-false, le-leb, lt-leb}
use Rattle.theory.proofs.Tests.{cases}
use Rattle.tally.specs.Tally.{held, loads_at, stop_of, stop_at}
use Rattle.tally.specs.declared.Own.{Own}

module _ (a f : ℕ) (from : a ≤ f) where
  -- up to a record's stop it holds a frame or does not, as it does frame a
  held_same : (r : Own) → f ≤ stop_of a r → held f f r ≡ held a a r
  unfolding stop_of
  held_same r near = cases (ltb a r.first) ahead begun
    where
      ahead : ltb a r.first ≡ true → held f f r ≡ held a a r
      ahead e =
          let behind = ltb-true a r.first e in
          let before : f < r.first = omega (arith, rw e at near) in
          rw (lt-leb r.first f before, lt-leb r.first a behind)

      begun : ltb a r.first ≡ false → held f f r ≡ held a a r
      begun e =
          let first = ltb-false a r.first e in
          rw (le-leb r.first f (omega arith), le-leb r.first a first)
          (cases (leb a r.last) (λ h. rw (h, le-leb f r.last (rw (e, h) at near)))
          (λ h. rw (h, lt-leb f r.last (omega (arith, leb-false a r.last h)))))

  -- so the records that hold a frame do not change
  pub loads_same : (own : List Own) → f ≤ stop_at a own → loads_at f f own ≡ loads_at a a own
  unfolding stop_at loads_at
  loads_same [] near = refl
  loads_same (r ∷ rs) near = rw (held_same r (omega arith), loads_same rs (omega arith))

-- a stretch has its first frame
stop_of_from : (a : ℕ) (r : Own) → a ≤ 65535 → a ≤ stop_of a r
unfolding stop_of
stop_of_from a r small =
    cases (ltb a r.first) (λ e. rw e (omega (arith, ltb-true a r.first e)))
    (λ e. rw e (cases (leb a r.last) (λ h. rw h (leb-true a r.last h)) (λ h. rw h small)))

pub stop_from : (a : ℕ) (own : List Own) → a ≤ 65535 → a ≤ stop_at a own
unfolding stop_at
stop_from a [] small = small
stop_from a (r ∷ rs) small = omega (arith, stop_of_from a r small, stop_from a rs small)

-- and ends among the frames
pub stop_le : (a : ℕ) (rs : List Own) → stop_at a rs ≤ 65535
unfolding stop_at
stop_le a [] = omega arith
stop_le a (r ∷ rs) = omega (arith, stop_le a rs)
