-- `lookups::ask_count` meets its contract. Assumes nothing.
use native.Mathlib.Omega.{arith}
use borrow.Author.Tests.{le-leb, lt-leb}
use Rattle.model.specs.Questions.{ask, outcome}
use Rattle.model.specs.Calls.{number, answer_case}
use Rattle.model.specs.Lookups.{most_pairs}
use Rattle.lookups.proofs.ask_count.Goals as goal

pub returns-then-pairs-gt-MOST_PAIRS : goal.returns-then-pairs-gt-MOST_PAIRS
unfolding answer_case number outcome ask
returns-then-pairs-gt-MOST_PAIRS c = rw (c.no.ensures, lt-leb c.args.pairs most_pairs (omega (arith, c.if-pairs-gt-MOST_PAIRS.true)))

pub returns : goal.returns
unfolding answer_case outcome ask
returns c = rw (le-leb c.args.pairs most_pairs (omega (arith, c.if-pairs-gt-MOST_PAIRS.false)))
