-- `query` meets its contract: a query by the bound that its rule is, or one by windows. Assumes nothing.
use mathlib.Core.Path.{sym, ap, ◌∙◌}
use lib.ListN.{length}
use Rattle.model.specs.Common.{option_of}
use Rattle.theory.proofs.Ruled.{bound_outcome, bound_slot}
use Rattle.theory.proofs.Demands.{ruled_promise}
use Rattle.pacer.proofs.query.Goals as goal

pub returns-in-Some : goal.returns-in-Some
unfolding option_of
returns-in-Some c =
    let a = c.args in
    let e = c.query_by_bound.ensures in
    let is = sym c.bound_in.ensures ∙ ap option_of c.in-Some.is in
    let says = e.says ∙ sym (bound_outcome a.query _ is a.log.now (length a.slot.now)) in
    let holds = e.holds ∙ sym (bound_slot a.query _ is a.log.now a.slot.now) in
    record {
      says = says;
      holds = holds;
      promise = ruled_promise a.query a.log.now a.slot.now _ _ says holds;
    }

pub query_by_windows-requires : goal.query_by_windows-requires
unfolding option_of
query_by_windows-requires c = sym c.bound_in.ensures ∙ ap option_of c.in-None.is

pub returns-in-None : goal.returns-in-None
returns-in-None c = c.query_by_windows.ensures
