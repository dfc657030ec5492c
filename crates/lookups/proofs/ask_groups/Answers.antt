-- `lookups::ask_groups` meets its contract. The invariant: what is left to ask says what the whole says. Assumes nothing.
use mathlib.Core.Path.{sym, ◌∙◌}
use native.Mathlib.Numerals.{add-one}
use native.Mathlib.Omega.{arith}
use lib.ListN.{length}
use Rattle.model.specs.Questions.{outcome, each}
use Rattle.model.specs.Calls.{number, answer_case}
use Rattle.model.specs.Lookups.{pair_questions}
use Rattle.theory.proofs.Lists.{none_left}
use Rattle.theory.proofs.Asking.{answer, refused_here, passed_here}
use Rattle.lookups.proofs.Pairs.{pair_refused, pair_passed}
use Rattle.lookups.proofs.ask_groups.Goals as goal

pub returns-then-group-gt-MOST_GROUP : goal.returns-then-group-gt-MOST_GROUP
unfolding answer_case number
returns-then-group-gt-MOST_GROUP c =
    let groups = c.args.groups.now in
    let l = c.loop-i in
    rw c.no.ensures
    (sym
    (sym l.invariant
    ∙ refused_here (pair_questions groups) l.i (length groups) (omega arith) tt tt 7 l.i (pair_refused groups l.i (omega (arith, c.if-group-gt-MOST_GROUP.true)))))

pub loop-i-preserved : goal.loop-i-preserved
loop-i-preserved c =
    let groups = c.args.groups.now in
    let l = c.loop-i in
    rw (add-one l.i)
    (sym (passed_here (pair_questions groups) l.i (length groups) (omega arith) tt tt (pair_passed groups l.i (omega (arith, c.if-group-gt-MOST_GROUP.false)))) ∙ l.invariant)

pub returns : goal.returns
unfolding outcome each answer_case
returns c =
    let groups = c.args.groups.now in
    sym (none_left (λ k. answer (each (pair_questions groups) c.loop-i.i k)) c.loop-i.i (length groups) (omega arith)) ∙ c.loop-i.invariant
