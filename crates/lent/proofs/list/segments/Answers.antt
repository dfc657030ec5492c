-- `list::segments` meets its contract: the segments that were found fit, and fill the list. Assumes nothing.
use Rattle.std.proofs.Common.{◌≡◌, sym, ◌∙◌}
use Rattle.std.proofs.lemmas.Result.{err_from_is_err_and}
use Rattle.model.specs.Calls.{answer_case, filled_list}
use Rattle.theory.proofs.Order.{segments_any_order}
use Rattle.lent.proofs.Filling.{refused_segments, segments_fit, segments_fill}
use Rattle.lent.proofs.list.segments.Goals as goal

pub returns-in_err-found : goal.returns-in_err-found
unfolding answer_case
returns-in_err-found c =
    let a = c.args in
    let p = err_from_is_err_and c.from_residual.result c.from_residual.ensures.1 in
    let holds = refused_segments a.kind a.width a.log.now a.list.now (sym c.in_err-found.ensures.says) in
    rw (p.1, p.2) (record {
      says = c.in_err-found.ensures.says;
      holds = holds;
      promise = segments_any_order a.kind a.width a.log.now a.list.now _ a.list.now c.in_err-found.ensures.says holds;
    })

pub fill-requires : goal.fill-requires
unfolding answer_case
fill-requires c =
    let a = c.args in
    let e = c.in_ok-found.ensures in
    record { fits = segments_fit a.kind a.width a.log.now a.list.now c.in_ok-found.found (sym e.says) e.holds }

pub returns : goal.returns
unfolding answer_case
returns c =
    let a = c.args in
    let e = c.in_ok-found.ensures in
    let holds : c.fill.new.list ≡ filled_list a.kind a.width a.log.now a.list.now =
    c.fill.ensures ∙ segments_fill a.kind a.width a.log.now a.list.now c.in_ok-found.found (sym e.says) e.holds
    in
    record {
      says = e.says;
      holds = holds;
      promise = segments_any_order a.kind a.width a.log.now a.list.now _ c.fill.new.list e.says holds;
    }
