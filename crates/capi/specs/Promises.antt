-- What the contracts of the C calls say with the fields of their answers: that these are the fields of a call that keeps its promise;
-- and a record, given by its numbers. Assumes nothing.
use Rattle.std.specs.Prelude.{ℕ, List, ◌≡◌}
use Rattle.model.specs.Spans.{Span}
use Rattle.model.specs.Questions.{Outcome}
use Rattle.model.specs.Calls.{Counts}
use Rattle.model.specs.Demands.{FilePromise, SegmentsPromise, RuledPromise, CheckPromise, LookupsPromise}
use Rattle.model.specs.declared.RuledQuery.{RuledQuery}
use Rattle.model.specs.declared.Segment.{Segment}
use Rattle.answers.specs.declared.CAnswer.{CAnswer}
use Rattle.answers.specs.declared.CLogAnswer.{CLogAnswer}
use Rattle.answers.specs.declared.CQueryAnswer.{CQueryAnswer}
use Rattle.answers.specs.declared.CSegmentsAnswer.{CSegmentsAnswer}
use Rattle.answers.specs.Fields.{asked_fields, log_fields, query_fields, segments_fields}

-- a record, given by its numbers
unfoldable pub span_of : ℕ → ℕ → ℕ → ℕ → Span ℕ
span_of group first last load = record { group = group; first = first; last = last; value = load }

-- these fields are those of a call that keeps the promise of a check
abbrev pub CheckFields : ℕ → List ℕ → List ℕ → CAnswer → Type 0
CheckFields width log slot answer =
    (says : Outcome (Unit {0})) × (answer ≡ asked_fields says) × CheckPromise width log slot says

-- these fields are those of a call that keeps the promise of many lookups
abbrev pub LookupsFields : List ℕ → List ℕ → List ℕ → List ℕ → List ℕ → CAnswer → List ℕ → List ℕ → Type 0
LookupsFields slot groups frames values covered answer values_after covered_after =
    (says : Outcome (Unit {0})) × (answer ≡ asked_fields says)
    × LookupsPromise slot groups frames values covered says values_after covered_after

-- these fields are those of a call that keeps the promise of a call for logs on file
abbrev pub FileFields : List ℕ → CLogAnswer → List ℕ → Type 0
FileFields log answer after = (says : Outcome ℕ) × (answer ≡ log_fields says) × FilePromise log says after

-- these fields are those of a call that keeps the promise of a query by a rule
abbrev pub RuledFields : RuledQuery → List ℕ → List ℕ → CQueryAnswer → List ℕ → Type 0
RuledFields q log slot answer after =
    (says : Outcome Counts) × (answer ≡ query_fields says) × RuledPromise q log slot says after

-- these fields are those of a call that keeps the promise of a segment call
abbrev pub SegmentsFields : ℕ → ℕ → List ℕ → List Segment → CSegmentsAnswer → List Segment → Type 0
SegmentsFields kind width log list answer after =
    (says : Outcome ℕ) × (answer ≡ segments_fields says) × SegmentsPromise kind width log list says after
