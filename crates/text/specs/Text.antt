-- An answer as text: numbers in decimal, one space apart, each line ended by 0A.
use Rattle.std.specs.Prelude.{ℕ, zero, suc, ◌+◌, ◌/◌, ◌%◌, cond, List, [], ◌∷◌, ◌++◌, ltb}
use Rattle.model.specs.Spans.{Span}
use Rattle.model.specs.Questions.{Outcome, refused, accepted}
use Rattle.model.specs.Calls.{Counts}

-- the decimal digits of a number below 10 ^ most, with no leading zero
unfoldable pub digits : ℕ → ℕ → List ℕ
digits zero n = []
digits (suc most) n =
    let rest = digits most (n / 10) ++ ((48 + n % 10) ∷ []) in
    cond (ltb n 10) ((48 + n) ∷ []) rest

-- 20 digits hold every number of 64 bits
unfoldable pub decimal : ℕ → List ℕ
decimal n = digits 20 n

-- numbers one space apart, and the end of the line
unfoldable pub number_line : ℕ → List ℕ → List ℕ
number_line n [] = decimal n ++ (0x0A ∷ [])
number_line n (m ∷ ms) = decimal n ++ (0x20 ∷ number_line m ms)

-- a refusal: `no`, its number and its index
unfoldable pub refusal_text : ℕ → ℕ → List ℕ
refusal_text number index = 0x6E ∷ 0x6F ∷ 0x20 ∷ number_line number (index ∷ [])

unfoldable pub row_text : Span ℕ → List ℕ
row_text r = number_line r.group (r.first ∷ r.last ∷ r.value ∷ [])

unfoldable pub rows_text : List (Span ℕ) → List ℕ
rows_text [] = []
rows_text (r ∷ rs) = row_text r ++ rows_text rs

-- rows, error and weighed cuts, then a line for each row
unfoldable pub answer_text : Outcome Counts → List (Span ℕ) → List ℕ
answer_text (refused number index) rows = refusal_text number index
answer_text (accepted c) rows = number_line c.rows (c.error ∷ c.weighed ∷ []) ++ rows_text rows
