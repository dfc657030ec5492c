-- `tally::Group::value_at` meets its contract, kind by kind. Assumes nothing.
use Prim.Native.Nat.{ℕ}
use mathlib.Core.List.{List}
use mathlib.Core.Option.{some}
use mathlib.Core.Path.{sym, ap, ◌∙◌}
use native.Mathlib.Omega.{arith}
use Rattle.std.proofs.Common.{rules}
use Rattle.model.specs.Calls.{kind_number}
use Rattle.tally.specs.Tally.{owns_in, loads_at}
use Rattle.tally.proofs.Loads.{sum_value, count_value, least_found, greatest_found, mean_value, other_value}
use Rattle.tally.proofs.Group.value_at.Goals as goal
use Rattle.tally.proofs.Group.value_at.Goals.{Start}

-- the loads that meet the frames
abbrev loads : Start → List ℕ
loads s = loads_at s.args.a s.args.b (owns_in s.args.self.now)

pub returns-in-Sum : goal.returns-in-Sum
unfolding kind_number
returns-in-Sum c =
    rw c.in-Sum.is (sum_value (loads (goal.at.returns-in-Sum c).Start) c.requires.met ∙ ap (λ (v : ℕ). some v) (sym c.requires.surveyed.sums))

pub returns-in-Count : goal.returns-in-Count
unfolding kind_number
returns-in-Count c =
    rw (c.in-Count.is, c.from.ensures)
    (count_value (loads (goal.at.returns-in-Count c).Start) c.requires.met ∙ ap (λ (v : ℕ). some v) (sym c.requires.surveyed.counts))

pub returns-in-Least : goal.returns-in-Least
unfolding kind_number
returns-in-Least c =
    rw (c.in-Least.is, c.from-in-Least.ensures)
    (least_found c.args.a c.args.b (owns_in c.args.self.now) c.fold.result _ c.fold.ensures (λ x y z taken. search rules) (omega arith) c.requires.met)

pub returns-in-Greatest : goal.returns-in-Greatest
unfolding kind_number
returns-in-Greatest c =
    rw (c.in-Greatest.is, c.from-in-Greatest.ensures)
    (greatest_found c.args.a c.args.b (owns_in c.args.self.now) c.fold-in-Greatest.result _ c.fold-in-Greatest.ensures (λ x y z taken. search rules) c.requires.met)

pub returns-in-Mean : goal.returns-in-Mean
unfolding kind_number
returns-in-Mean c =
    rw (c.in-Mean.is, c.mean.ensures, c.from-in-Mean.ensures, c.requires.surveyed.sums, c.requires.surveyed.counts)
    (mean_value (loads (goal.at.returns-in-Mean c).Start) c.requires.met)

pub returns-in-Other : goal.returns-in-Other
unfolding kind_number
returns-in-Other c =
    let above = c.in-Other.field-0.above in
    rw c.in-Other.is (other_value _ (loads (goal.at.returns-in-Other c).Start) c.requires.met above)
