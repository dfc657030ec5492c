-- Segments with their gaps, ready to be reduced, and the reduction that answers a bound.
use Rattle.std.specs.Prelude as std
use Rattle.std.specs.Prelude.{ℕ, ◌-◌, ◌*◌, ◌≤◌, List, ◌≡◌, IfSome}
use Rattle.model.specs.Arrays.{segments_in}
use Rattle.model.specs.Calls.{kind_number}
use Rattle.model.specs.Room.{Measured}
use Rattle.model.specs.Split.{rows_tried, error_of, gap_below, runs}
use Rattle.model.specs.declared.Bound.{Bound}
use Rattle.model.specs.declared.Segments.{Segments}
use Rattle.triangle.specs.Places.{gap_at}
use Rattle.triangle.specs.Costs.{Costs}
use Rattle.measures.specs.Held.{Measurable}
use Rattle.choice.specs.declared.Task.{Task}
use Rattle.cuts.specs.Held.{reduction_for, cuts_for}
use Rattle.cuts.specs.declared.Reduction.{Reduction}
use Rattle.errors.specs.Filled.{cost_in}
use Rattle.split.specs.declared.Work.{Work}

-- the task is that of all the segments, and their blocks' costs and their gaps are what a table asks for
pub record Ready (work : Work) : Type 0 where
  pub all : work.task.segments ≡ work.segments.now.count
  pub measurable : Measurable work.segments.now work.segments.now.count
  pub costs : Costs (cost_in (kind_number work.kind) work.segments.now) (gap_at work.gaps.now) work.task.segments work.task.runs

-- the reduction that answers the bound, if there is one, and its cuts, by these errors and gaps
pub record Reduces (err : ℕ → ℕ → ℕ) (low : ℕ → ℕ) (n m : ℕ) (bound : Bound) (r : std.Option Reduction) (before after : List ℕ) : Type 0 where
  pub answer : r ≡ reduction_for err low n m bound
  pub cuts : after ≡ cuts_for err low n m bound before
  pub weighed : IfSome r (λ r. 2 * r.weighed ≤ (rows_tried bound n r.count - 1) * (n * (n - 1)))

-- the same by what blocks of these segments cost
abbrev pub Shares : Work → std.Option Reduction → List ℕ → List ℕ → Type 0
Shares work r before after =
    Reduces (cost_in (kind_number work.kind) work.segments.now) (gap_at work.gaps.now) work.task.segments work.task.runs work.task.bound r before after

-- the task is that of these measured segments
pub record Counted (segments : Segments) (task : Task) : Type 0 where
  pub measured : Measured (segments_in segments)
  pub all : task.segments ≡ segments.count
  pub is_runs : task.runs ≡ runs (segments_in segments)

-- the reduction of the segments that answers the bound, if there is one, and its cuts
abbrev pub Reduced : ℕ → Segments → Bound → std.Option Reduction → List ℕ → List ℕ → Type 0
Reduced kind segments bound r before after =
    Reduces (error_of kind (segments_in segments)) (gap_below (segments_in segments)) segments.count (runs (segments_in segments)) bound r before
    after

-- the reduction of no segments: no rows and no error
abbrev pub no_segments : Reduction
no_segments = record { count = 0; error = 0; weighed = 0 }
