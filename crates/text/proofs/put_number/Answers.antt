-- `put_number` meets its contract: the digits that the library gives are the number's. Assumes nothing.
use mathlib.Core.Path.{◌≡◌, ◌∙◌}
use Rattle.text.specs.Text.{decimal}
use Rattle.text.proofs.Digits.{spelled}
use Rattle.text.proofs.put_number.Goals as goal
use Rattle.text.proofs.put_number.Goals.{After-as_bytes}

digits_are : (c : After-as_bytes) → c.as_bytes.result.now ≡ decimal c.args.n
digits_are c = c.as_bytes.ensures.value ∙ c.format-digits.ensures.text ∙ spelled c.args.n c.ranges.n.fits

pub put_bytes-requires : goal.put_bytes-requires
put_bytes-requires c = rw (digits_are (goal.at.put_bytes-requires c).After-as_bytes) c.requires

pub returns : goal.returns
returns c = rw (digits_are (goal.at.returns c).After-as_bytes) at c.put_bytes.ensures
