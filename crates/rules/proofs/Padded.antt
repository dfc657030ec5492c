-- The first frames of a list, and zeros where it has no more. Assumes nothing.
use Prim.Native.Nat.{ℕ, ◌+◌, ◌-◌, min}
use mathlib.Core.List.{List, ◌++◌, append-nil}
use mathlib.Core.Path.{◌≡◌, sym, ap, ◌∙◌}
use native.Mathlib.Nat.{sub_self}
use native.Mathlib.Omega.{arith}
use lib.Dec.{leb}
use lib.ListN.{length, take, drop, replicate}
use lib.Seq.{take-length, take-append-add}
use borrow.Author.Tests.{leb-true, leb-false}
use Rattle.std.proofs.lemmas.List.{take-append-le, take-replicate, drop-replicate}
use Rattle.theory.proofs.Tests.{cases}

-- as many as there are places for them, copied over the front of zeros, are the first of the list with zeros behind it
pub first_frames : (size count : ℕ) (l : List ℕ) → count ≡ min (length l) size
    → take count l ++ drop count (replicate size 0) ≡ take size (l ++ replicate size 0)
first_frames size count l most =
    cases (leb (length l) size)
    (λ few.
    let le = leb-true (length l) size few in
    let all : count ≡ length l = omega arith in
    let places : length l + (size - length l) ≡ size = omega arith in
    rw all
    (rw (take-length l, drop-replicate {X = ℕ} (length l) size 0)
    (sym
    (ap (λ (n : ℕ). take n (l ++ replicate size 0)) (sym places)
    ∙ take-append-add l (replicate size 0) (size - length l)
    ∙ ap (λ (r : List ℕ). l ++ r) (take-replicate {X = ℕ} (size - length l) size 0 (omega arith))))))
    (λ many.
    let gt = leb-false (length l) size many in
    let all : count ≡ size = omega arith in
    rw all
    (rw (drop-replicate {X = ℕ} size size 0, sub_self size)
    (append-nil (take size l) ∙ sym (take-append-le size l (replicate size 0) (omega arith)))))
