-- `twins::ask` meets its contract. The loop's invariant: the firsts of the keys so far are set, and what is left to ask says what the
-- whole says. Assumes nothing.
use mathlib.Core.Path.{◌≡◌, sym, ap, ◌∙◌}
use native.Mathlib.Numerals.{add-one}
use native.Mathlib.Omega.{arith}
use Rattle.model.specs.Log.{is_first}
use Rattle.model.specs.Questions.{outcome, each, twin_questions}
use Rattle.model.specs.Calls.{answer_case, asked_case, number}
use Rattle.theory.proofs.Lists.{none_left, all_left}
use Rattle.theory.proofs.Asking.{answer, refused_here, passed_here}
use Rattle.twins.proofs.Keys.{none_noted, new_first, twin_refused, twin_passed}
use Rattle.twins.proofs.ask.Goals as goal
use Rattle.twins.proofs.ask.Goals.{After-is_new}

pub loop-index-init : goal.loop-index-init
loop-index-init c =
    let a = c.args in (
      none_noted a.log.now,
      all_left (λ k. answer (each (twin_questions a.log.now) 0 k)) a.count,
    )

pub is_new-requires : goal.is_new-requires
is_new-requires c =
    record { small = omega arith; has_record = omega arith; noted_ahead = c.loop-index.invariant.0 }

-- whether the record is the first of its bytes
first : (c : After-is_new)
    → c.is_new.result ≡ is_first c.args.log.now c.loop-index.index
first c =
    c.is_new.ensures.tells
    ∙ new_first c.args.log.now (λ j. omega (arith, c.type_inv.log j)) c.args.count c.requires.begun c.loop-index.index
    c.loop-index-test.true

pub returns-then-not-is_new : goal.returns-then-not-is_new
unfolding answer_case number
returns-then-not-is_new c =
    let a = c.args in
    let l = c.loop-index in
    ap asked_case c.no.ensures
    ∙ sym
    (sym l.invariant.1
    ∙ refused_here (twin_questions a.log.now) l.index a.count c.loop-index-test.true tt tt 21 l.index
    (twin_refused a.log.now l.index (sym (first (goal.at.returns-then-not-is_new c).After-is_new) ∙ c.if-not-is_new.true)))

pub loop-index-preserved : goal.loop-index-preserved
loop-index-preserved c =
    let a = c.args in
    let l = c.loop-index in (
      c.is_new.ensures.noted,
      rw (add-one l.index)
          (sym (passed_here (twin_questions a.log.now) l.index a.count c.loop-index-test.true tt tt
          (twin_passed a.log.now l.index (sym (first (goal.at.loop-index-preserved c).After-is_new) ∙ c.if-not-is_new.false))) ∙ l.invariant.1),
    )

pub returns : goal.returns
unfolding outcome each answer_case
returns c =
    let a = c.args in
    sym (none_left (λ k. answer (each (twin_questions a.log.now) c.loop-index.index k)) c.loop-index.index a.count c.loop-index-test.false)
    ∙ c.loop-index.invariant.1
