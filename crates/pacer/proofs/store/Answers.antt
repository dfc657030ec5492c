-- `store` meets its contract. Assumes nothing.
use Rattle.std.proofs.lemmas.Result.{err_from_is_err_and}
use Rattle.model.specs.Slot.{slot_length}
use Rattle.model.specs.Calls.{answer_case}
use Rattle.pacer.specs.Promises.{stored_in}
use Rattle.pacer.proofs.store.Goals as goal

pub returns-in_err-written : goal.returns-in_err-written
unfolding answer_case stored_in
returns-in_err-written c =
    let p = err_from_is_err_and c.from_residual.result c.from_residual.ensures.1 in
    record { says = rw (p.1, p.2, c.in_err-written.was); holds = rw c.in_err-written.was }

pub returns : goal.returns
unfolding answer_case stored_in slot_length
returns c =
    record { says = rw (c.in_ok-written.was, c.in_ok-written.written-is); holds = rw c.in_ok-written.was c.store.ensures }
