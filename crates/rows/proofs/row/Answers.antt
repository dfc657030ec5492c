-- `row` meets its contract. Assumes nothing.
use mathlib.Core.Path.{sym, ap, ◌∙◌, subst}
use native.Mathlib.Omega.{arith}
use Rattle.model.specs.Calls.{kind_number, row_of_span}
use Rattle.model.specs.Arrays.{span_in}
use Rattle.model.specs.Blocks.{value_for, row_of, row_value}
use Rattle.model.specs.Room.{Room}
use Rattle.blocks.proofs.Bounds.{value_in_range}
use Rattle.blocks.specs.Meaning.{totals_in}
use Rattle.measures.proofs.Growing.{totals_plain, measurable_prefix}
use Rattle.rows.proofs.row.Goals as goal
use Rattle.rows.proofs.row.Goals.{After-block_totals-block}

pub block_totals-block-requires : goal.block_totals-block-requires
block_totals-block-requires c = (omega arith, measurable_prefix c.requires.1 _ (omega arith))

room : (c : After-block_totals-block) → Room (totals_in c.block_totals-block.result)
room c = subst Room (sym c.block_totals-block.ensures) (c.requires.1.blocks _ _ (omega arith) (omega arith)).room

pub row_value-value-requires : goal.row_value-value-requires
row_value-value-requires c = room (goal.at.row_value-value-requires c).After-block_totals-block

pub overflow_cast-value : goal.overflow_cast-value
overflow_cast-value c = omega (arith, value_in_range _ (room (goal.at.overflow_cast-value c).After-block_totals-block) c.row_value-value.ensures)

pub returns : goal.returns
unfolding row_of_span row_of row_value span_in totals_in
returns c =
    let a = c.args in
    let value =
    c.row_value-value.ensures
    ∙ ap (value_for (kind_number a.kind)) (c.block_totals-block.ensures ∙ sym (totals_plain a.segments.now a.j a.i)) in
    rw value
