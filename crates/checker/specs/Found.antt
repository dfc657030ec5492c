-- Questions 22 to 24, of what was found of the rows of a slot beside the segments of its log.
use Rattle.std.specs.Prelude.{Option, Some, None, ℕ, true, false, cond, List, [], ◌∷◌, eqb}
use Rattle.model.specs.Log.{greatest_kind}
use Rattle.model.specs.Questions.{Question, ask}
use Rattle.compare.specs.declared.Compared.{Compared}

-- 22 is refused where nothing was found: the frames covered differ
unfoldable pub found_questions : ℕ → ℕ → Option Compared → List Question
found_questions kind error None = ask 22 0 false ∷ []
found_questions kind error (Some rows) =
    ask 22 0 true ∷ ask 23 0 (cond (eqb kind greatest_kind) rows.reaches true) ∷ ask 24 0 (eqb error rows.error) ∷ []
