-- Windows, rows by windows in 64 places, and windows that are passed over.
use Rattle.std.specs.Prelude.{ℕ, ◌≤◌, ◌<◌, true, List, Option, ◌≡◌, length}
use Rattle.std.specs.Option.{MatchOption}
use Rattle.model.specs.Spans.{Span}
use Rattle.model.specs.Windows.{Window}
use Rattle.model.specs.Questions.{rule_question}
use Rattle.model.specs.Arrays.{rows_in}
use Rattle.model.specs.declared.RuledQuery.{RuledQuery}
use Rattle.windows.specs.declared.Listing.{Listing}
use Rattle.windows.specs.declared.Stretch.{Stretch}

-- the query's rule is one that passes its question
abbrev pub Known : RuledQuery → Type 0
Known q = (rule_question q).passed ≡ true

abbrev pub as_window : Stretch → Window
as_window s = record { first = s.first; last = s.last }

-- the listing is of these rows, which are at most 64
pub record Holds (listing : Listing) (rows : List (Span ℕ)) : Type 0 where
  pub counts : listing.count ≡ length rows
  pub few : length rows ≤ 64
  pub holds : rows_in listing.rows listing.count ≡ rows

-- a listing of these rows, or none where they are more than 64
abbrev pub Lists : Option Listing → List (Span ℕ) → Type 0
Lists listing rows = MatchOption listing (64 < length rows) (λ l. Holds l rows)

-- behind window i of n, the windows ahead of window r begin no earlier than it and end by frame `stop`
pub record Skips (window : ℕ → Window) (stop i n r : ℕ) : Type 0 where
  pub more : i < r
  pub within : r ≤ n
  pub begun : (k : ℕ) → i < k → k < r → (window i).first ≤ (window k).first
  pub ended : (k : ℕ) → i < k → k < r → (window k).last ≤ stop
