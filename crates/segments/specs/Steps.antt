-- The steps to segments: spans that are joined as far as they go, in the arrays that they are made in.
use Rattle.std.specs.Prelude.{Result, ℕ, Bool, ◌&&◌, ◌≡◌, eqb}
use mathlib.Core.List.{List, [], ◌++◌, foldr}
use Rattle.model.specs.Spans.{Span, adjacent}
use Rattle.model.specs.Segments.{fuse}
use Rattle.model.specs.Questions.{Outcome}
use Rattle.model.specs.Calls.{answer_case}
use Rattle.model.specs.Arrays.{segments_in, segment_arrays}
use Rattle.model.specs.declared.Refusal.{Refusal}
use Rattle.model.specs.declared.Segments.{Segments}

-- the first span is adjacent to the second and equal to it in value
unfoldable pub joins : Span ℕ → Span ℕ → Bool
joins s t = adjacent s t && eqb s.value t.value

-- spans joined wherever neighbours are adjacent and equal in value
unfoldable pub joined : List (Span ℕ) → List (Span ℕ)
joined spans = foldr (fuse eqb) [] spans

-- the arrays hold joined spans, and zeros past them
abbrev pub Made : Segments → Type 0
Made s = s ≡ segment_arrays (joined (segments_in s))

-- made segments with spans behind them, joined
abbrev pub behind : Segments → List (Span ℕ) → List (Span ℕ)
behind made spans = joined (segments_in made ++ spans)

-- what is found: how many segments
abbrev pub segments_found : Result Segments Refusal → Outcome ℕ
segments_found = answer_case (λ s. s.count)
