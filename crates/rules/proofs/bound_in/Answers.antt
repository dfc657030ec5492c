-- `rules::bound_in` meets its contract, rule by rule. Assumes nothing.
use Rattle.model.specs.Common.{option_of}
use mathlib.Core.Logic.{inl, inr}
use Rattle.model.specs.Windows.{bound_in}
use Rattle.rules.proofs.bound_in.Goals as goal

pub returns-in-Rows : goal.returns-in-Rows
unfolding option_of bound_in
returns-in-Rows c = rw c.in-Rows.is

pub returns-in-Share : goal.returns-in-Share
unfolding option_of bound_in
returns-in-Share c = rw c.in-Share.is

pub returns-in-Every : goal.returns-in-Every
unfolding option_of bound_in
returns-in-Every c = elim c.in-Every.is [ inl p ↦ rw p.2 | inr p ↦ rw p.1 ]
