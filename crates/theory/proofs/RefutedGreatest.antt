-- Wrong answers of kind 3 that the demands reject, each by the clause that its comment names. Log G by kind 3 has the segments 100,
-- 200, 210, 50 and 7; three rows have the least error 24,600 and four have 400. With nearest means in their place three rows would
-- have 14,943. Assumes nothing.
use Prim.Native.Nat.{ℕ, ◌≤◌}
use mathlib.Core.List.Memᴰ
use mathlib.Core.List.{List, [], ◌∷◌, map}
use mathlib.Core.Option.{Option, some}
use mathlib.Core.Path.{◌≡◌, refl}
use native.Mathlib.Omega.{arith}
use lib.IntN.{ℤ, pos, negsuc}
use lib.ListN.{replicate}
use Rattle.model.specs.Common.{list_from, number_at, bytes_of}
use Rattle.model.specs.Spans.{Span, group_count, frame_count, span_length, meets, holds}
use Rattle.model.specs.Log.{records, meeting, aggregate, greatest_kind, aggregated, value}
use Rattle.model.specs.Blocks.{empty, totals_of, add, totals, row_value}
use Rattle.model.specs.Split.{most_rows}
use Rattle.model.specs.Slot.{slot_length, by_bound, row_bytes, rows_bytes, used_bytes, slot_bytes, row_place, slot_mark, slot_kind, slot_count, slot_error, slot_row, slot_rows, value_in}
use Rattle.model.specs.Questions.{accepted, ask, ask_room, lent, each, marked, kind_known, group_known}
use Rattle.model.specs.Questions.{follows, in_order, row_known, row_questions, error_known, header_marked, slot_questions}
use Rattle.model.specs.Calls.{Counts, read_rows}
use Rattle.model.specs.Guarantee.{Choices, LeastOfFewest, BestOfLimit, BestOfShare}
use Rattle.model.specs.Fitting.{FitsFor, whole}
use Rattle.model.specs.Demands.{NeverShort, QueryPromise}
use Rattle.model.specs.declared.Bound.TheVariants.{Rows}
use Rattle.model.proofs.Tail.{walked, tail_walked}
use Rattle.model.proofs.Cases.{span, log_g, segments_g3, four_g3, runs_g3, bytes, query, worked_cases}
use Rattle.theory.proofs.Tests.{some_inj}
use Rattle.theory.proofs.Guarantee.{one_least_lem}
use Rattle.theory.proofs.Demands.{demand2}
use Rattle.theory.proofs.Refutations.{decoded, lists_of, best_g, least_of_three}

abbrev val_g3 : ℕ → ℕ → Option ℕ
val_g3 = value greatest_kind 1 log_g

abbrev lists_g3 : Choices (List (Span ℤ))
lists_g3 = lists_of greatest_kind

-- what the worked cases say of G by kind 3: three rows, and four
three_best : BestOfLimit lists_g3 3 24600 (map whole runs_g3)
three_best =
    let three = worked_cases.2.1.0.1 in
    best_g greatest_kind (Rows 3) (record { rows = runs_g3; error = 24600; weighed = 8 }) three.0 three.1

four_best : BestOfLimit lists_g3 4 400 (map whole four_g3)
four_best =
    let four = worked_cases.2.1.1.0.1 in
    best_g greatest_kind (Rows 4) (record { rows = four_g3; error = 400; weighed = 10 }) four.0 four.1

-- so the least error of the fewest rows is 24,600
least_g3 : LeastOfFewest lists_g3 24600
unfolding kind_known
least_g3 = least_of_three greatest_kind 24600 runs_g3 refl worked_cases.2.0.1.0 three_best refl

only_least_g3 : (L : ℕ) → LeastOfFewest lists_g3 L → L ≡ 24600
only_least_g3 L is = omega (arith, one_least_lem lists_g3 L 24600 is least_g3, one_least_lem lists_g3 24600 L least_g3 is)

-- ---- lists that do not fit

-- G in three rows, the first with this number
abbrev three_rows : ℤ → List (Span ℤ)
three_rows z = record { group = 0; first = 0; last = 6; value = z } ∷ map whole (span 0 9 10 50 ∷ span 1 0 0 7 ∷ [])

-- one below the greatest value, and a negative number (nowhereBelow)
pub one_below_greatest : FitsFor greatest_kind val_g3 (three_rows (pos 209)) → ⊥
unfolding group_count frame_count meets holds meeting aggregated aggregate value value_in
one_below_greatest f = omega (arith, f.nowhere_below refl 0 6 210 (pos 209) refl refl)

pub negative_row : FitsFor greatest_kind val_g3 (three_rows (negsuc 0)) → ⊥
unfolding group_count frame_count meets holds meeting aggregated aggregate value value_in
negative_row f = f.nowhere_below refl 0 6 210 (negsuc 0) refl refl

-- ---- a row limit

-- the nearest mean, 173, though its error is smaller (fits)
pub mean_not_best : BestOfLimit lists_g3 3 14943 (three_rows (pos 173)) → ⊥
unfolding group_count frame_count meets holds meeting aggregated aggregate value value_in
mean_not_best b = omega (arith, b.fits.nowhere_below refl 0 6 210 (pos 173) refl refl)

-- one above the greatest value, which fits (least)
pub above_greatest_not_best : BestOfLimit lists_g3 3 25127 (three_rows (pos 211)) → ⊥
above_greatest_not_best b =
    omega (arith, b.least (map whole runs_g3) three_best.fits three_best.count, three_best.has_error)

-- ---- a share

-- of the least error with nearest means (isLeast)
pub least_by_means : LeastOfFewest lists_g3 14943 → ⊥
least_by_means is = omega (arith, only_least_g3 14943 is)

-- p = 17: by that error five rows would be due, and four do (fewest)
pub five_rows_for_17 : BestOfShare lists_g3 17 0 (map whole segments_g3) → ⊥
five_rows_for_17 b =
    let error = four_best.has_error in
    b.fewest (map whole four_g3) four_best.fits (omega arith)
    (record { of = 24600; is_least = least_g3; met = omega arith })

-- p = 16: four rows exceed it (met)
pub four_rows_for_16 : BestOfShare lists_g3 16 400 (map whole four_g3) → ⊥
four_rows_for_16 b =
    let error = four_best.has_error in
    let of = only_least_g3 b.met.of b.met.is_least in
    let met = b.met.met in
    omega arith

-- ---- rows that fall short

needed : value greatest_kind 1 (records (bytes log_g)) 0 6 ≡ some 210
unfolding group_count frame_count meets meeting aggregated aggregate value
needed = rw decoded

-- G in three rows, the first one below what frame 6 needs
abbrev pub short_g3 : List (Span ℕ)
short_g3 = span 0 0 6 209 ∷ span 0 9 10 50 ∷ span 1 0 0 7 ∷ []

pub rows_fall_short : NeverShort (query greatest_kind (Rows 3)) (bytes log_g) short_g3 → ⊥
unfolding value_in holds meets
rows_fall_short never =
    let (r, is, enough) = never refl 0 6 210 needed in
    let same : r ≡ 209 = some_inj is refl in
    omega arith

-- a slot of these rows (neverShort)
short_read : read_rows (slot_bytes by_bound greatest_kind 24087 short_g3) ≡ short_g3
unfolding walked list_from number_at bytes_of slot_length row_bytes rows_bytes used_bytes slot_bytes row_place slot_mark slot_kind slot_count slot_error slot_row slot_rows ask lent each marked ask_room kind_known group_known most_rows follows in_order row_known row_questions error_known header_marked slot_questions read_rows
short_read = rw tail_walked

pub falls_short : (counts : Counts)
    → QueryPromise (query greatest_kind (Rows 3)) (bytes log_g) (replicate 768 0) (accepted counts)
    (slot_bytes by_bound greatest_kind 24087 short_g3)
    → ⊥
falls_short counts p = rows_fall_short (rw short_read at (p.never_short counts refl))

-- ---- demand 2

-- a row value above the only value of its block, and one below it (between)
only_value : (kind : ℕ) → (5 ≤ row_value kind (span 0 0 0 5 ∷ [])) × (row_value kind (span 0 0 0 5 ∷ []) ≤ 5)
unfolding totals empty add totals_of span_length
only_value kind =
    demand2.between kind 5 5 (span 0 0 0 5 ∷ []) (omega arith) (λ s m. rw (Memᴰ.eq_of_singleton m) (omega arith, omega arith))

pub row_above_block : (kind : ℕ) → row_value kind (span 0 0 0 5 ∷ []) ≡ 6 → ⊥
row_above_block kind e = omega (arith, (only_value kind).1)

pub row_below_least : (kind : ℕ) → row_value kind (span 0 0 0 5 ∷ []) ≡ 4 → ⊥
row_below_least kind e = omega (arith, (only_value kind).0)

-- loads 0 and 1
abbrev pub loads : List (Span ℕ)
loads = span 0 0 0 0 ∷ span 0 1 1 1 ∷ []

-- a row value of kind 3 below a value of its block (greatest)
pub row_below_block : row_value greatest_kind loads ≡ 0 → ⊥
row_below_block e = omega (arith, demand2.greatest loads (span 0 1 1 1) (Memᴰ.tail (Memᴰ.head refl)))
