-- `is_gap` meets its contract. Assumes nothing.
use mathlib.Core.Path.{sym, ◌∙◌}
use borrow.Author.Tests.{not-true, not-false, eq-eqb}
use Rattle.model.specs.Blocks.{gap}
use Rattle.model.specs.Arrays.{span_in}
use Rattle.theory.proofs.Tests.{true≢false}
use Rattle.measures.proofs.Gapped.{gap_after}
use Rattle.measures.proofs.is_gap.Goals as goal
use Rattle.measures.proofs.is_gap.Goals.{then-i-eq0, else-i-eq0}

-- the first segment, or one of another group than the one before
pub returns-then-segments-i : goal.returns-then-segments-i
unfolding gap span_in
returns-then-segments-i c =
    elim c.if-i-eq0.branch [
      | then-i-eq0 w ↦ c.if-segments-i.true ∙ rw w.if-i-eq0.true
      | else-i-eq0 w ↦
          rw (gap_after (span_in _ _ _ _) c.args.i w.if-i-eq0.false, not-true _ (sym w.value-is ∙ c.if-segments-i.true)) c.if-segments-i.true
    ]

pub returns-else-segments-i : goal.returns-else-segments-i
unfolding span_in
returns-else-segments-i c =
    elim c.if-i-eq0.branch [
      | then-i-eq0 w ↦ absurd (true≢false (sym (eq-eqb _ _ w.if-i-eq0.true) ∙ sym w.value-is ∙ c.if-segments-i.false))
      | else-i-eq0 w ↦
          rw (gap_after (span_in _ _ _ _) c.args.i w.if-i-eq0.false, not-false _ (sym w.value-is ∙ c.if-segments-i.false), c.from.ensures, c.from-else-segments-i.ensures)
    ]
