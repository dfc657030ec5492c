-- `compare::with_segments` meets its contract. The invariant is that of the walk; the measure is the number of rows and segments that are
-- left. Assumes nothing.
use Prim.Native.Nat.{ℕ, ◌+◌, ◌*◌, ◌-◌, ◌≤◌, ◌<◌}
use mathlib.Core.Bool.{Bool, ◌&&◌, cond}
use mathlib.Core.List.{List, Memᴰ}
use mathlib.Core.Path.{◌≡◌, refl, sym, ap, ap₂, ◌∙◌, subst}
use native.Mathlib.Omega.{arith}
use borrow.Author.Tests.{lt-ltb, ltb-true}
use lib.Dec.{leb, eqb}
use Rattle.std.specs.Prelude.{Option}
use Rattle.model.specs.Common.{list_from}
use Rattle.model.specs.Spans.{Span}
use Rattle.model.specs.Slot.{slot_count, slot_row, slot_rows}
use Rattle.model.specs.Questions.{slot_questions}
use Rattle.model.specs.Calls.{row_span, row_of_span, segment_span, segment_of}
use Rattle.model.specs.Arrays.{segment_in, segments_in}
use Rattle.model.specs.Demands.{AllPass, Bytes}
use Rattle.model.specs.Room.{most_error}
use Rattle.model.specs.declared.Row.{Row}
use Rattle.model.specs.declared.Segment.{Segment}
use Rattle.theory.proofs.SlotLaws.{room_passed, few_passed}
use Rattle.theory.proofs.InOrder.{InOrder, rows_held, rows_in_order}
use Rattle.theory.proofs.Stored.{Held}
use Rattle.theory.proofs.SlotLaws.{length-list_from}
use Rattle.theory.proofs.Tests.{true≢false, and-true, true_and}
use Rattle.compare.specs.declared.Compared.{Compared}
use Rattle.compare.specs.declared.Front.{Front}
use Rattle.compare.specs.Found.{OfLog, Compares}
use Rattle.compare.specs.Fronts.{first_place, last_place, end_place, front_of}
use Rattle.compare.proofs.Ready.{segs_measured, segs_held, segs_in_order}
use Rattle.compare.proofs.Walking.{went_on, one_at_most, fronted, not_fronted, squares, Walk, begins_before, turned}
use Rattle.compare.proofs.Ends.{starts, apart, ended}
use Rattle.compare.proofs.with_segments.Goals as goal
use Rattle.compare.proofs.with_segments.Goals.{After-front_of, After-from-j, After-squared, In_ok-front, After-count-count, In-loop-i}

-- the slot and its rows
abbrev Slot : After-count-count → List ℕ
Slot c = c.args.slot.now

-- segment j
abbrev seg : After-count-count → ℕ → Span ℕ
seg c = segment_in c.args.segments.now

-- they are a log's
logged : (c : After-count-count) → OfLog (list_from 0 c.args.segments.now.count (seg c))
unfolding segments_in
logged c = c.requires.of_log

read : (c : After-count-count) → AllPass (slot_questions (Slot c))
read c = c.requires.all_pass

small : (c : After-count-count) → Bytes (Slot c)
small c i = omega (arith, c.type_inv.slot i)

-- as many as the header says
all_rows : (c : After-count-count) → list_from 0 c.count-count.result (slot_row (Slot c)) ≡ slot_rows (Slot c)
unfolding slot_rows slot_count
all_rows c = ap (λ (k : ℕ). list_from 0 k (slot_row (Slot c))) c.count-count.ensures

of_slot : (c : After-count-count) {found : Option Compared}
    → Compares (list_from 0 c.count-count.result (slot_row (Slot c))) (list_from 0 c.args.segments.now.count (seg c)) found
    → Compares (slot_rows (Slot c)) (segments_in c.args.segments.now) found
unfolding segments_in
of_slot c {found} =
    subst (λ (rows : List (Span ℕ)). Compares rows (list_from 0 c.args.segments.now.count (seg c)) found) (all_rows c)

few : (c : After-count-count) → (c.count-count.result ≤ 64) × (c.args.segments.now.count ≤ 255)
unfolding slot_count
few c =
    let n = c.args.segments.now.count in
    let segs = (segs_measured _ (logged c)).few in
    (omega (arith, few_passed (Slot c) (read c), c.count-count.ensures), omega (arith, segs, length-list_from 0 n (seg c)))

rows_order : (c : After-count-count) → InOrder (list_from 0 c.count-count.result (slot_row (Slot c)))
rows_order c = rw (all_rows c) (rows_in_order (Slot c) (small c) (read c))

held : (c : After-count-count) (s : Span ℕ) → Memᴰ s (list_from 0 c.count-count.result (slot_row (Slot c))) → Held s
held c s m = rows_held (Slot c) (small c) (read c) s (rw (all_rows c) at m)

pub count-count-requires : goal.count-count-requires
count-count-requires c = room_passed _ c.requires.all_pass

pub loop-i-init : goal.loop-i-init
loop-i-init c =
    starts (slot_row (Slot c)) (seg c) c.count-count.result c.args.segments.now.count (rows_order c) (segs_in_order _ (logged c))
    (segs_measured _ (logged c))

-- where a turn's loop began
abbrev begun : In-loop-i → After-count-count
begun c = (goal.at.In-loop-i c).After-count-count

going : (c : In-loop-i) → (c.loop-i.i < c.count-count.result) × (c.loop-i.j < c.args.segments.now.count)
going c =
    let both = and-true _ _ c.loop-i-test.true in
    (ltb-true _ _ both.0, ltb-true _ _ both.1)

pub row-row-requires : goal.row-row-requires
row-row-requires c =
    let t = (goal.at.row-row-requires c).In-loop-i in
    let (lt, lt') = going t in
    let (few_rows, few-segs) = few (begun t) in
    (room_passed _ (read (begun t)), omega arith)

pub at-segment-requires : goal.at-segment-requires
at-segment-requires c =
    let t = (goal.at.at-segment-requires c).In-loop-i in
    let (lt, lt') = going t in
    let (few_rows, few-segs) = few (begun t) in
    omega arith

-- a turn's row and segment
abbrev row_at : After-front_of → Span ℕ
row_at c = slot_row c.args.slot.now c.loop-i.i

abbrev seg_at : After-front_of → Span ℕ
seg_at c = segment_in c.args.segments.now c.loop-i.j

-- the front that was found, if there is one
front : (c : After-front_of) → c.front_of.result ≡ front_of (row_at c) (seg_at c) c.loop-i.from
unfolding row_span row_of_span segment_span segment_of
front c = c.front_of.ensures ∙ rw (c.at-segment.ensures, c.row-row.ensures)

pub returns-in_err-front : goal.returns-in_err-front
returns-in_err-front c =
    let t = (goal.at.returns-in_err-front c).In-loop-i in
    let b = begun t in
    let (lt, lt') = going t in
    let none = sym c.in_err-front.was ∙ front (goal.at.returns-in_err-front c).After-front_of in
    rw c.from_residual.ensures
    (of_slot b
    (apart (slot_row (Slot b)) (seg b) c.count-count.result c.args.segments.now.count (rows_order b) (held b) (segs_held _ (logged b))
    c.loop-i.i c.loop-i.j c.loop-i.from c.loop-i.reaches c.loop-i.error c.loop-i.invariant lt lt' (not_fronted _ _ _ none)))

-- the front of a turn that goes on
abbrev Fronted : In_ok-front → After-front_of
Fronted c = (goal.at.In_ok-front c).After-front_of

is_front : (c : In_ok-front)
    → let f = Fronted c in
    (first_place c.loop-i.from (row_at f) ≡ first_place c.loop-i.from (seg_at f))
    × (c.in_ok-front.front
    ≡ record {
      first = first_place c.loop-i.from (seg_at f);
      next = end_place (row_at f) (seg_at f) + 1;
      row_done = eqb (last_place (row_at f)) (end_place (row_at f) (seg_at f));
      segment_done = eqb (last_place (seg_at f)) (end_place (row_at f) (seg_at f));
    })
is_front c = fronted _ _ _ _ (sym c.in_ok-front.was ∙ front (Fronted c))

-- where it begins and ends
place : (c : In_ok-front)
    → let f = Fronted c in
    (c.in_ok-front.front.first ≡ first_place c.loop-i.from (seg_at f)) × (c.in_ok-front.front.next ≡ end_place (row_at f) (seg_at f) + 1)
place c =
    let is = (is_front c).1 in
    (ap (λ (x : Front). x.first) is, ap (λ (x : Front). x.next) is)

spread : (c : In_ok-front)
    → (c.in_ok-front.front.first ≤ c.in_ok-front.front.next) × (c.in_ok-front.front.next - c.in_ok-front.front.first ≤ 65536)
spread c =
    let t = (goal.at.In_ok-front c).In-loop-i in
    let b = begun t in
    let (lt, lt') = going t in
    let (first-is, next-is) = place c in
    let (before, most) =
    begins_before (slot_row (Slot b)) (seg b) c.count-count.result c.args.segments.now.count (held b) (segs_held _ (logged b))
    c.loop-i.i c.loop-i.j c.loop-i.from c.loop-i.reaches c.loop-i.error c.loop-i.invariant lt lt' (is_front c).0 in
    (omega arith, omega arith)

pub overflow_sub-from : goal.overflow_sub-from
overflow_sub-from c = (spread (goal.at.overflow_sub-from c).In_ok-front).0

-- the values at hand
values : (f : After-front_of)
    → (f.at-segment.result.value ≡ (seg_at f).value) × (f.row-row.result.value ≡ (row_at f).value)
unfolding segment_of row_of_span
values f = (ap (λ (s : Segment). s.value) f.at-segment.ensures, ap (λ (r : Row). r.value) f.row-row.ensures)

-- what the turn adds to the error
abbrev more : After-squared → ℕ
more c = c.from.result * c.squared.result

cost : (c : After-squared)
    → let f = (goal.at.After-squared c).After-front_of in
    more c ≡ (end_place (row_at f) (seg_at f) + 1 - first_place c.loop-i.from (seg_at f)) * squares (seg_at f).value (row_at f).value
cost c =
    let (first-is, next-is) = place (goal.at.After-squared c).In_ok-front in
    let (seg-value, row-value) = values (goal.at.After-squared c).After-front_of in
    ap₂ {C = ℕ} ◌*◌ (c.from.ensures ∙ ap₂ {C = ℕ} ◌-◌ next-is first-is) (c.squared.ensures ∙ ap₂ {C = ℕ} squares seg-value row-value)

-- the walk goes on, with fewer rows and segments left, and its error stays in range
on : (c : After-squared) (i' j' p' : ℕ) (reaches' : Bool)
    → let f = (goal.at.After-squared c).After-front_of in
    let b = (goal.at.After-squared c).After-count-count in
    let l = c.loop-i in
    let count = c.count-count.result in
    let n = c.args.segments.now.count in
    i' ≡ cond (eqb (last_place (row_at f)) (end_place (row_at f) (seg_at f))) (l.i + 1) l.i
    → j' ≡ cond (eqb (last_place (seg_at f)) (end_place (row_at f) (seg_at f))) (l.j + 1) l.j
    → p' ≡ end_place (row_at f) (seg_at f) + 1
    → reaches' ≡ l.reaches && leb (seg_at f).value (row_at f).value
    → Walk (slot_row (Slot b)) (seg b) count n i' j' p' reaches' (l.error + more c)
    × (count - i' + (n - j') < count - l.i + (n - l.j)) × (l.error + more c ≤ most_error)
on c i' j' p' reaches' at_row at-seg at_place reach =
    let b = (goal.at.After-squared c).After-count-count in
    let l = c.loop-i in
    let (lt, lt') = going (goal.at.After-squared c).In-loop-i in
    turned (slot_row (Slot b)) (seg b) c.count-count.result c.args.segments.now.count (held b) (segs_held _ (logged b))
    l.i l.j l.from l.reaches l.error l.invariant lt lt' (is_front (goal.at.After-squared c).In_ok-front).0 i' j' p' (more c) reaches' at_row at-seg at_place reach (cost c)

in_range : (c : After-squared) → c.loop-i.error + more c ≤ most_error
in_range c = (on c _ _ _ _ refl refl refl refl).2

pub overflow_mul-error : goal.overflow_mul-error
overflow_mul-error c = omega (arith, in_range (goal.at.overflow_mul-error c).After-squared)

pub overflow_add-error : goal.overflow_add-error
overflow_add-error c = omega (arith, in_range (goal.at.overflow_add-error c).After-squared)

pub overflow_add-j : goal.overflow_add-j
overflow_add-j c =
    let t = (goal.at.overflow_add-j c).In-loop-i in
    let (lt, lt') = going t in
    let (few_rows, few-segs) = few (begun t) in
    omega (arith, c.from-j.ensures, one_at_most c.in_ok-front.front.segment_done)

-- the next turn
next : (c : After-from-j)
    → let q = (goal.at.After-from-j c).After-squared in
    let b = (goal.at.After-from-j c).After-count-count in
    let l = c.loop-i in
    let count = c.count-count.result in
    let n = c.args.segments.now.count in
    let i = l.i + c.from-i.result in
    let j = l.j + c.from-j.result in
    Walk (slot_row (Slot b)) (seg b) count n i j c.in_ok-front.front.next
    (l.reaches && leb c.at-segment.result.value c.row-row.result.value) (l.error + more q)
    × (count - i + (n - j) < count - l.i + (n - l.j))
    × (l.error + more q ≤ most_error)
next c =
    let l = c.loop-i in
    let f = (goal.at.After-from-j c).In_ok-front in
    let is = (is_front f).1 in
    let (seg-value, row-value) = values (goal.at.After-from-j c).After-front_of in
    on (goal.at.After-from-j c).After-squared _ _ _ _
    (ap (λ x. l.i + x) c.from-i.ensures ∙ went_on _ l.i ∙ ap (λ (x : Front). cond x.row_done (l.i + 1) l.i) is)
    (ap (λ x. l.j + x) c.from-j.ensures ∙ went_on _ l.j ∙ ap (λ (x : Front). cond x.segment_done (l.j + 1) l.j) is) (place f).1
    (ap (λ (x : Bool). l.reaches && x) (ap₂ {C = Bool} leb seg-value row-value))

pub loop-i-smaller : goal.loop-i-smaller
loop-i-smaller c = (next (goal.at.loop-i-smaller c).After-from-j).1

pub loop-i-preserved : goal.loop-i-preserved
loop-i-preserved c = (next (goal.at.loop-i-preserved c).After-from-j).0

-- at the end something is found where nothing is left of either
pub returns : goal.returns
returns c =
    let b = (goal.at.returns c).After-count-count in
    rw c.then_some.ensures
    (of_slot b
    (ended (slot_row (Slot b)) (seg b) c.count-count.result c.args.segments.now.count (rows_order b) (held b) (segs_held _ (logged b))
    c.loop-i.i c.loop-i.j c.loop-i.from c.loop-i.reaches c.loop-i.error c.loop-i.invariant
    (λ lt lt'. true≢false (sym (true_and _ _ (lt-ltb _ _ lt) (lt-ltb _ _ lt')) ∙ c.loop-i-test.false))))
