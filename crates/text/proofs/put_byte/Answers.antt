-- `put_byte` meets its contract: one store. Assumes nothing.
use borrow.Author.Rules.{rules}
use Rattle.text.specs.Put.{put_at}
use Rattle.text.proofs.put_byte.Goals as goal

pub returns : goal.returns
unfolding put_at
returns c = search rules
