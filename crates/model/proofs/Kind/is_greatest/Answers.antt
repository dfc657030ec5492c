-- `Kind::is_greatest` meets its contract: 3 is the number of one kind alone. Assumes nothing.
use mathlib.Core.Bool.{false}
use mathlib.Core.Path.{◌≡◌, refl, sym}
use native.Mathlib.Omega.{arith}
use borrow.Author.Tests.{ne_eqb}
use lib.Dec.{eqb}
use Rattle.model.specs.Log.{greatest_kind}
use Rattle.model.specs.Calls.{kind_number}
use Rattle.model.specs.declared.Kind.{Kind}
use Rattle.model.specs.declared.Kind.TheVariants as kind
use Rattle.model.proofs.Kind.is_greatest.Goals as goal

pub returns-in-Greatest : goal.returns-in-Greatest
unfolding kind_number
returns-in-Greatest c = rw c.in-Greatest.is refl

others : (k : Kind) → (k ≡ kind.Greatest → ⊥) → eqb (kind_number k) greatest_kind ≡ false
unfolding kind_number
others kind.Sum other = refl
others kind.Count other = refl
others kind.Least other = refl
others kind.Greatest other = absurd (other refl)
others kind.Mean other = refl
others (kind.Other o) other = ne_eqb _ _ (λ is. omega (arith, o.above, is))

pub returns-in_default : goal.returns-in_default
returns-in_default c = sym (others c.args.self c.in_default.not-Greatest)
