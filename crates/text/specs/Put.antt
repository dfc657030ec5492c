-- Bytes put into a lent buffer from a place on, and the room that an answer's text needs.
use Rattle.std.specs.Prelude.{ℕ, suc, ◌+◌, ◌*◌, ◌≤◌, ◌≡◌, List, [], ◌∷◌, length, set}
use Rattle.model.specs.Questions.{Outcome, refused, accepted}
use Rattle.model.specs.Calls.{Counts, counts_in}
use Rattle.model.specs.Arrays.{rows_in}
use Rattle.model.specs.declared.Row.{Row}
use Rattle.model.specs.declared.Written.{Written}
use Rattle.text.specs.Text.{answer_text}

-- a buffer with these bytes from place `at` on
unfoldable pub put_at : List ℕ → ℕ → List ℕ → List ℕ
put_at out at [] = out
put_at out at (byte ∷ bytes) = put_at (set out at byte) (suc at) bytes

-- the buffer has the places for these bytes from place `at` on
pub record Room (out : List ℕ) (at : ℕ) (bytes : List ℕ) : Type 0 where
  pub fits : at + length bytes ≤ length out

-- these bytes were put into the buffer from place `at` on: what it holds afterwards, and the place after the bytes
pub record Put (before : List ℕ) (at : ℕ) (bytes after : List ℕ) (next : ℕ) : Type 0 where
  pub buffer : after ≡ put_at before at bytes
  pub end : next ≡ at + length bytes

-- the rows that an answer counts, none in a refusal
unfoldable pub row_count : Outcome Counts → ℕ
row_count (refused number index) = 0
row_count (accepted c) = c.rows

-- the text of an accepted query, with the first rows of an array as its rows
unfoldable pub accepted_text : List Row → Written → List ℕ
accepted_text rows written = answer_text (accepted (counts_in written)) (rows_in rows written.rows)

-- the places in which every answer of at most 64 rows fits: 64 for its first line, 32 for the line of a row
abbrev pub answer_room : ℕ
answer_room = 64 + 32 * 64
