-- `u8::from` of a kind meets its contract, by each kind. Assumes nothing.
use Rattle.model.specs.Calls.{kind_number}
use Rattle.model.proofs.U8FromKind.from.Goals as goal

pub returns-in-Sum : goal.returns-in-Sum
unfolding kind_number
returns-in-Sum c = rw c.in-Sum.is

pub returns-in-Count : goal.returns-in-Count
unfolding kind_number
returns-in-Count c = rw c.in-Count.is

pub returns-in-Least : goal.returns-in-Least
unfolding kind_number
returns-in-Least c = rw c.in-Least.is

pub returns-in-Greatest : goal.returns-in-Greatest
unfolding kind_number
returns-in-Greatest c = rw c.in-Greatest.is

pub returns-in-Mean : goal.returns-in-Mean
unfolding kind_number
returns-in-Mean c = rw c.in-Mean.is

pub returns-in-Other : goal.returns-in-Other
unfolding kind_number
returns-in-Other c = rw c.in-Other.is
