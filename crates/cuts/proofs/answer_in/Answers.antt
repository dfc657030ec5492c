-- `answer_in` meets its contract. Assumes nothing.
use Prim.Native.Nat.{◌≤◌}
use mathlib.Core.Path.{◌≡◌, ◌∙◌, sym}
use native.Mathlib.Omega.{arith}
use Rattle.std.specs.Prelude.{Some}
use Rattle.choice.specs.Bounds.{choice_in}
use Rattle.choice.proofs.Choosing.{rows_range, comparable_last, count_le}
use Rattle.cuts.proofs.Answering.{unanswered, answered, cuts_are, read}
use Rattle.cuts.proofs.answer_in.Goals as goal
use Rattle.cuts.proofs.answer_in.Goals.{In_ok-count}

-- the number of rows that was chosen
rows_of : (c : In_ok-count) → choice_in c.args.task.bound c.args.column.now c.args.task.runs c.args.last ≡ Some c.in_ok-count.count
rows_of c = sym c.choose.ensures ∙ c.in_ok-count.was

-- is one of the table's
count_in : (c : In_ok-count) → (c.in_ok-count.count ≤ c.args.last) × (c.args.last ≤ 64)
count_in c = let filled = c.requires.2.filled in (count_le filled _ (rows_of c), (rows_range filled).1)

pub choose-requires-clause-comparable : goal.choose-requires-clause-comparable
choose-requires-clause-comparable c = comparable_last c.requires.2.filled

pub returns-in_err-count : goal.returns-in_err-count
returns-in_err-count c =
    λ err low fills.
    let (none_here, cuts_stay) = unanswered fills.filled (sym c.choose.ensures ∙ c.in_err-count.was) in
    (c.from_residual.ensures ∙ none_here, cuts_stay _)

pub read_back-requires : goal.read_back-requires
read_back-requires c =
    let fills = c.requires.2 in record {
      in_table = (omega (arith, count_in (goal.at.read_back-requires c).In_ok-count), fills.filled.costs.few);
      readable = (read fills _ (rows_of (goal.at.read_back-requires c).In_ok-count)).1;
    }

pub offset_bounds-column-count : goal.offset_bounds-column-count
offset_bounds-column-count c = omega (arith, count_in (goal.at.offset_bounds-column-count c).In_ok-count)

pub bounds-column-count : goal.bounds-column-count
bounds-column-count c = omega (arith, count_in (goal.at.bounds-column-count c).In_ok-count)

pub returns : goal.returns
returns c =
    λ err low fills.
    let rows = rows_of (goal.at.returns c).In_ok-count in (
      answered fills.filled _ rows _ fills.weighed,
      c.read_back.ensures ∙ rw (read fills _ rows).0 (cuts_are fills.filled _ rows _),
    )
