-- `slot::error_known` meets its contract, by whether the rows are by windows. Assumes nothing.
use lib.Dec.{eqb}
use Rattle.model.specs.Slot.{by_windows, slot_mark, slot_error}
use Rattle.model.specs.Questions.{error_known}
use Rattle.theory.proofs.Tests.{cases}
use Rattle.slot.proofs.error_known.Goals as goal

pub returns : goal.returns
unfolding error_known slot_mark slot_error
returns c =
    rw c.eight.ensures
    (cases (eqb (slot_mark c.args.slot.now) by_windows) (λ is. rw is) (λ is. rw is))
