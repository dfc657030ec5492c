-- From bytes to records, and from records to the values of frames.
use Rattle.std.specs.Prelude.{ℕ, zero, suc, ◌+◌, ◌-◌, ◌*◌, ◌/◌, min, max, Bool, ◌&&◌, not, cond, ltb, eqb, length, get_or, take, drop}
use mathlib.Core.List.{List, [], ◌∷◌, ◌++◌, foldr}
use Rattle.std.proofs.Math.Option.{Option, none, some}
use Rattle.model.specs.Common.{list_from, every, joined, number_at, bytes_of}
use Rattle.model.specs.Spans.{Span, group_count, frame_count, meets}

-- a record is 9 bytes: the mark 4C 44, group, first frame, last frame and load
unfoldable pub record_length : ℕ
record_length = 9

unfoldable pub record_bytes : Span ℕ → List ℕ
record_bytes r = 0x4C ∷ 0x44 ∷ r.group ∷ (bytes_of 2 r.first ++ bytes_of 2 r.last ++ bytes_of 2 r.value)

-- the record whose bytes begin at place `at`
unfoldable pub record_at : List ℕ → ℕ → Span ℕ
record_at bytes at =
    record {
      group = get_or bytes (at + 2) 0;
      first = number_at 2 bytes (at + 3);
      last = number_at 2 bytes (at + 5);
      value = number_at 2 bytes (at + 7);
    }

unfoldable pub record_count : List ℕ → ℕ
record_count log = length log / record_length

-- the records of a log, each with its load as value
unfoldable pub records : List ℕ → List (Span ℕ)
records log = list_from 0 (record_count log) (λ i. record_at log (record_length * i))

-- the nine bytes of the record with index i
unfoldable pub record_part : List ℕ → ℕ → List ℕ
record_part log i = take record_length (drop (record_length * i) log)

-- the records with index i and j have the same nine bytes
unfoldable pub twins : List ℕ → ℕ → ℕ → Bool
twins log i j = every (λ k. eqb (get_or log (record_length * i + k) 0) (get_or log (record_length * j + k) 0)) 0 record_length

-- no earlier record has the same nine bytes as the one with index i
unfoldable pub is_first : List ℕ → ℕ → Bool
is_first log i = every (λ j. not (twins log j i)) 0 i

-- of `count` records the first of equal ones and the others, in their order, by their indices
unfoldable pub firsts_of : List ℕ → ℕ → List ℕ
firsts_of log count = joined (λ i. cond (is_first log i) (i ∷ []) []) (list_from 0 count (λ i. i))

-- a log with the first of equal records and the others in their order
unfoldable pub without_twins : List ℕ → List ℕ
without_twins log = joined (record_part log) (firsts_of log (record_count log))

-- the loads of the records of group g that contain some frame of a to b
unfoldable pub meeting : List (Span ℕ) → ℕ → ℕ → ℕ → List ℕ
meeting [] g a b = []
meeting (r ∷ rs) g a b = cond (meets r g a b) (r.value ∷ meeting rs g a b) (meeting rs g a b)

unfoldable pub sum : List ℕ → ℕ
sum xs = foldr ◌+◌ 0 xs

-- one value from the loads x ∷ xs, by the kind: 0 their sum, 1 their count, 2 the least, 3 the greatest, 4 their mean in
-- hundredths: 100 times the sum divided by the count, rounded down. Other kinds are refused before a value is asked for.
unfoldable pub aggregate : ℕ → ℕ → List ℕ → ℕ
aggregate zero x xs = x + sum xs
aggregate (suc zero) x xs = suc (length xs)
aggregate (suc (suc zero)) x xs = foldr min x xs
aggregate (suc (suc (suc zero))) x xs = foldr max x xs
aggregate (suc (suc (suc (suc zero)))) x xs = 100 * (x + sum xs) / suc (length xs)
aggregate (suc (suc (suc (suc (suc k))))) x xs = 0

-- the kind of the greatest load
abbrev pub greatest_kind : ℕ
greatest_kind = 3

-- no load, no value
unfoldable pub aggregated : ℕ → List ℕ → Option ℕ
aggregated kind [] = none
aggregated kind (x ∷ xs) = some (aggregate kind x xs)

-- the value of frame f of group g with a memory of `width` frames: the aggregate over the group's records that contain at least one
-- of the last `width` frames, itself included, of which there is none before frame 0. None where there is no such record, so that
-- the frame is not covered, and none where there is no such group or frame.
unfoldable pub value : ℕ → ℕ → List (Span ℕ) → ℕ → ℕ → Option ℕ
value kind width rs g f =
    cond (ltb g group_count && ltb f frame_count) (aggregated kind (meeting rs g (f - (width - 1)) f)) none
