-- `Kind::of` meets its contract, by each number. Assumes nothing.
use mathlib.Core.Path.{refl}
use Rattle.model.specs.Calls.{kind_number}
use Rattle.model.proofs.Kind.of.Goals as goal

pub returns-in-0 : goal.returns-in-0
unfolding kind_number
returns-in-0 c = rw c.in-0.is refl

pub returns-in-1 : goal.returns-in-1
unfolding kind_number
returns-in-1 c = rw c.in-1.is refl

pub returns-in-2 : goal.returns-in-2
unfolding kind_number
returns-in-2 c = rw c.in-2.is refl

pub returns-in-3 : goal.returns-in-3
unfolding kind_number
returns-in-3 c = rw c.in-3.is refl

pub returns-in-4 : goal.returns-in-4
unfolding kind_number
returns-in-4 c = rw c.in-4.is refl

pub returns-in_default : goal.returns-in_default
unfolding kind_number
returns-in_default c = refl
