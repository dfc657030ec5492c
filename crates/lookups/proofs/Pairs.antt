-- Question 1 of the lists, and question 7 of one pair. Assumes nothing.
use Prim.Native.Nat.{ℕ, ◌≤◌, ◌<◌}
use mathlib.Core.Bool.{true, false, ◌&&◌}
use mathlib.Core.List.{List}
use mathlib.Core.Path.{◌≡◌, sym, ◌∙◌}
use borrow.Author.Tests.{le-leb, lt-leb, leb-true}
use lib.Dec.{leb}
use lib.ListN.{get_or}
use Rattle.model.specs.Questions.{refused, accepted, ask, outcome, group_known}
use Rattle.model.specs.Lookups.{pair_questions}
use Rattle.model.specs.Demands.{LongEnough}
use Rattle.theory.proofs.Tests.{true≢false, and-true, true_and}
use Rattle.theory.proofs.Asking.{answer}

-- n pairs, and lists of so many places
module _ (n frames values covered : ℕ) where
  pub lists_long : leb n frames && leb n values && leb n covered ≡ true → LongEnough n frames values covered
  lists_long said =
      let (two, third) = and-true (leb n frames && leb n values) (leb n covered) said in
      let (first, second) = and-true (leb n frames) (leb n values) two in
      (leb-true n frames first, leb-true n values second, leb-true n covered third)

  pub lists_short : leb n frames && leb n values && leb n covered ≡ false → LongEnough n frames values covered → ⊥
  lists_short said (a, b, c) =
      true≢false (sym (true_and (leb n frames && leb n values) (leb n covered) (true_and _ _ (le-leb n frames a) (le-leb n values b)) (le-leb n covered c)) ∙ said)

module _ (groups : List ℕ) (i : ℕ) where
  pub pair_refused : 7 < get_or groups i 0 → answer (pair_questions groups i) ≡ refused 7 i
  unfolding pair_questions outcome ask group_known
  pair_refused above = rw (lt-leb (get_or groups i 0) 7 above)

  pub pair_passed : get_or groups i 0 ≤ 7 → answer (pair_questions groups i) ≡ accepted tt
  unfolding pair_questions outcome ask group_known
  pair_passed below = rw (le-leb (get_or groups i 0) 7 below)
