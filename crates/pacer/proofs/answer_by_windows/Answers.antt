-- `answer_by_windows` meets its contract: what was prepared is stored where the query is accepted. Assumes nothing.
use mathlib.Core.Path.{◌∙◌}
use Rattle.model.specs.Slot.{slot_length}
use Rattle.model.specs.Calls.{ruled_outcome}
use Rattle.pacer.proofs.Answering.{stored_by_rule}
use Rattle.pacer.proofs.answer_by_windows.Goals as goal

pub prepare_by_windows-prepared-requires : goal.prepare_by_windows-prepared-requires
prepare_by_windows-prepared-requires c = c.requires

pub store-requires : goal.store-requires
unfolding slot_length
store-requires c = let a = c.args in record { has_room = (stored_by_rule a.query a.log.now a.slot.now _ c.prepare_by_windows-prepared.ensures).0 }

pub returns : goal.returns
unfolding ruled_outcome
returns c =
    let a = c.args in
    record {
      says = c.store.ensures.says ∙ c.prepare_by_windows-prepared.ensures.0;
      holds = c.store.ensures.holds ∙ (stored_by_rule a.query a.log.now a.slot.now _ c.prepare_by_windows-prepared.ensures).1;
    }
