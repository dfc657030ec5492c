-- What is found of rows beside segments: what the definitions say, frame by frame, of the rows and of any values whose segmentation the
-- segments are.
use Rattle.std.specs.Prelude as std
use Rattle.std.specs.Prelude.{ℕ, List, map, ◌≡◌, is_some, IfSome}
use Rattle.std.proofs.Math.Option.{Option}
use Rattle.model.specs.Spans.{Span}
use Rattle.model.specs.Fitting.{squared_error, whole}
use Rattle.model.specs.Check.{same_cover, never_below}
use Rattle.model.specs.Questions.{log_questions}
use Rattle.model.specs.Calls.{log_segments}
use Rattle.model.specs.Demands.{AllPass, Segmentation}
use Rattle.compare.specs.declared.Compared.{Compared}

-- the segments of a log that passes its questions
abbrev pub OfLog : List (Span ℕ) → Type 0
OfLog segs = (kind width : ℕ) × (log : List ℕ) × AllPass (log_questions log) × (segs ≡ log_segments kind width log)

-- something is found where the frames covered are the same, and then what the definitions say
pub record Compares (rows segs : List (Span ℕ)) (c : std.Option Compared) : Type 0 where
  pub same : (val : ℕ → ℕ → Option ℕ) → Segmentation val segs → is_some c ≡ same_cover val rows
  pub reaches : (val : ℕ → ℕ → Option ℕ) → Segmentation val segs → IfSome c (λ found. found.reaches ≡ never_below val rows)
  pub error : (val : ℕ → ℕ → Option ℕ) → Segmentation val segs
      → IfSome c (λ found. found.error ≡ squared_error val (map whole rows))
