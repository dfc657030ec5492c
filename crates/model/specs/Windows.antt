-- Span temporal aggregation (source document 000, sections 1.2 and 2.1): rows by scene or by beat. A window is a stretch of frames, and
-- gives a row for each group of which some record meets it.
use Rattle.std.specs.Prelude.{ℕ, ◌+◌, ◌-◌, ◌*◌, ◌/◌, min, List, [], ◌∷◌, get_or}
use Rattle.std.proofs.Math.Option.{Option, none, some}
use Rattle.model.specs.Common.{list_from, joined}
use Rattle.model.specs.Spans.{Span, group_count, frame_count}
use Rattle.model.specs.Log.{meeting, aggregated}
use Rattle.model.specs.declared.Bound.{Bound}
use Rattle.model.specs.declared.Bound.TheVariants as bound
use Rattle.model.specs.declared.Rule.{Rule}
use Rattle.model.specs.declared.Rule.TheVariants.{Rows, Share, Every, Scenes}
use Rattle.model.specs.declared.RuledQuery.{RuledQuery}

-- the bound of a rule: none for windows
unfoldable pub bound_in : Rule → Option Bound
bound_in (Rows c) = some (bound.Rows c)
bound_in (Share p) = some (bound.Share p)
bound_in (Every length start) = none
bound_in (Scenes count) = none

-- from a first frame to a last one, both included
pub record Window : Type 0 where
  pub first : ℕ
  pub last : ℕ

-- window i of those every `length` frames from frame `start` on: the last of them is cut off at 65,535
unfoldable pub beat : ℕ → ℕ → ℕ → Window
beat length start i =
    record { first = start + length * i; last = min (start + length * i + (length - 1)) (frame_count - 1) }

-- how many of them begin at a frame
unfoldable pub beat_count : ℕ → ℕ → ℕ
beat_count length start = (frame_count - start + (length - 1)) / length

-- scene i, from the lists of first and last frames
unfoldable pub scene : List ℕ → List ℕ → ℕ → Window
scene firsts lasts i = record { first = get_or firsts i 0; last = get_or lasts i 0 }

-- how many windows a query has, and window i; a query by a bound has none
unfoldable pub window_count : Rule → ℕ
window_count (Rows c) = 0
window_count (Share p) = 0
window_count (Every length start) = beat_count length start
window_count (Scenes count) = count

unfoldable pub window_at : RuledQuery → ℕ → Window
window_at q i =
    elim q.rule [
      | Rows c ↦ scene [] [] i
      | Share p ↦ scene [] [] i
      | Every length start ↦ beat length start i
      | Scenes count ↦ scene q.firsts q.lasts i
    ]

unfoldable pub windows : RuledQuery → List Window
windows q = list_from 0 (window_count q.rule) (window_at q)

-- the row of group g and a window: the window's own first and last frame, and the kind's aggregate over the records of the group
-- that meet the window; no row where none does
unfoldable pub window_row : ℕ → List (Span ℕ) → ℕ → Window → List (Span ℕ)
window_row kind rs g w =
    elim (aggregated kind (meeting rs g w.first w.last)) [
      | none ↦ []
      | some v ↦ record { group = g; first = w.first; last = w.last; value = v } ∷ []
    ]

-- group by group, window by window
unfoldable pub group_rows : ℕ → List (Span ℕ) → List Window → ℕ → List (Span ℕ)
group_rows kind rs ws g = joined (window_row kind rs g) ws

unfoldable pub span_rows : ℕ → List (Span ℕ) → List Window → List (Span ℕ)
span_rows kind rs ws = joined (group_rows kind rs ws) (list_from 0 group_count (λ g. g))
