-- `slot::ask_header` meets its contract: each test is the question's, and the first that fails refuses.
-- Assumes nothing.
use mathlib.Core.Bool.{true}
use mathlib.Core.Path.{◌≡◌, sym, ◌∙◌}
use native.Mathlib.Omega.{arith}
use borrow.Author.Tests.{le-leb, lt-leb}
use lib.Dec.{leb}
use lib.ListN.{length}
use Rattle.model.specs.Split.{most_rows}
use Rattle.model.specs.Slot.{slot_length, slot_kind}
use Rattle.model.specs.Questions.{ask, ask_room, outcome, header_marked, kind_known, slot_questions}
use Rattle.model.specs.Calls.{answer_case, number}
use Rattle.slot.proofs.ask_header.Goals as goal
use Rattle.slot.proofs.ask_header.Goals.{Else-not-header_marked, Else-slot-gt-MOST_KIND, Else-slot-lt-SLOT_LENGTH}

-- 1 is asked of the slot's length
pub returns-then-slot-lt-SLOT_LENGTH : goal.returns-then-slot-lt-SLOT_LENGTH
unfolding slot_questions outcome ask ask_room slot_length answer_case number
returns-then-slot-lt-SLOT_LENGTH c = rw (c.no.ensures, lt-leb 768 (length c.args.slot.now) (omega arith))

long : (c : Else-slot-lt-SLOT_LENGTH) → leb slot_length (length c.args.slot.now) ≡ true
unfolding slot_length
long c = le-leb 768 (length c.args.slot.now) (omega arith)

-- 11 is asked of the first two bytes
pub returns-then-not-header_marked : goal.returns-then-not-header_marked
unfolding slot_questions outcome ask ask_room answer_case number
returns-then-not-header_marked c =
    let at = goal.at.returns-then-not-header_marked c in
    rw (c.no-then-not-header_marked.ensures, long at.Else-slot-lt-SLOT_LENGTH, sym c.header_marked.ensures ∙ c.if-not-header_marked.true)

has_mark : (c : Else-not-header_marked) → header_marked c.args.slot.now ≡ true
has_mark c = sym c.header_marked.ensures ∙ c.if-not-header_marked.false

-- 12 is asked of the kind
pub returns-then-slot-gt-MOST_KIND : goal.returns-then-slot-gt-MOST_KIND
unfolding slot_questions outcome ask ask_room kind_known slot_kind answer_case number
returns-then-slot-gt-MOST_KIND c =
    let at = goal.at.returns-then-slot-gt-MOST_KIND c in
    rw (
      c.no-then-slot-gt-MOST_KIND.ensures,
      long at.Else-slot-lt-SLOT_LENGTH,
      has_mark at.Else-not-header_marked,
      lt-leb _ 4 c.if-slot-gt-MOST_KIND.true,
    )

known : (c : Else-slot-gt-MOST_KIND) → kind_known (slot_kind c.args.slot.now) ≡ true
unfolding kind_known slot_kind
known c = le-leb _ 4 c.if-slot-gt-MOST_KIND.false

-- 13 is asked of the row count
pub returns-then-count-gt-MOST_ROWS : goal.returns-then-count-gt-MOST_ROWS
unfolding slot_questions outcome ask ask_room most_rows answer_case number
returns-then-count-gt-MOST_ROWS c =
    let at = goal.at.returns-then-count-gt-MOST_ROWS c in
    rw (
      c.no-then-count-gt-MOST_ROWS.ensures,
      long at.Else-slot-lt-SLOT_LENGTH,
      has_mark at.Else-not-header_marked,
      known at.Else-slot-gt-MOST_KIND,
      lt-leb _ 64 (rw c.count.ensures at c.if-count-gt-MOST_ROWS.true),
    )

pub returns : goal.returns
unfolding slot_questions outcome ask ask_room most_rows answer_case
returns c =
    let at = goal.at.returns c in
    rw (
      long at.Else-slot-lt-SLOT_LENGTH,
      has_mark at.Else-not-header_marked,
      known at.Else-slot-gt-MOST_KIND,
      le-leb _ 64 (rw c.count.ensures at c.if-count-gt-MOST_ROWS.false),
    )
