-- `model::Rule::from` meets its contract. Assumes nothing.
use Rattle.model.specs.Calls.{rule_of}
use Rattle.model.proofs.RuleFromBound.from.Goals as goal

pub returns-in-Rows : goal.returns-in-Rows
unfolding rule_of
returns-in-Rows c = rw c.in-Rows.is

pub returns-in-Share : goal.returns-in-Share
unfolding rule_of
returns-in-Share c = rw c.in-Share.is
