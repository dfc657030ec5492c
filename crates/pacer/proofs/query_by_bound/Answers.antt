-- `query_by_bound` meets its contract: what was prepared is stored where the query is accepted, and the third demand follows from the
-- answer and the slot. Assumes nothing.
use mathlib.Core.Path.{◌∙◌}
use Rattle.model.specs.Slot.{slot_length}
use Rattle.model.specs.Calls.{query_outcome}
use Rattle.theory.proofs.Demands.{query_promise}
use Rattle.pacer.proofs.Answering.{stored_by_bound}
use Rattle.pacer.proofs.query_by_bound.Goals as goal

pub store-requires : goal.store-requires
unfolding slot_length
store-requires c = let a = c.args in record { has_room = (stored_by_bound a.query a.log.now a.slot.now _ c.prepare_by_bound-prepared.ensures).0 }

pub returns : goal.returns
unfolding query_outcome
returns c =
    let a = c.args in
    let says = c.store.ensures.says ∙ c.prepare_by_bound-prepared.ensures.0 in
    let holds = c.store.ensures.holds ∙ (stored_by_bound a.query a.log.now a.slot.now _ c.prepare_by_bound-prepared.ensures).1 in
    record {
      says = says;
      holds = holds;
      promise = query_promise a.query a.log.now a.slot.now _ _ says holds;
    }
