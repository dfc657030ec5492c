-- Any order of the log, shown of the definitions: what a frame and a stretch of frames are worth, kind by kind, of three records in each
-- of their six orders; the segments of log G in other orders; and logs of one length whose records are not the same. Assumes nothing.
use Prim.Native.Nat.{ℕ, ◌+◌}
use mathlib.Core.List.{List, [], ◌∷◌, Permᴰ}
use mathlib.Core.Option.{Option, some}
use mathlib.Core.Path.{◌≡◌, refl, ap, ap₂, ◌∙◌}
use native.Mathlib.Omega.{arith}
use Rattle.model.specs.Common.{sum_of, list_from, number_at, bytes_of}
use Rattle.model.specs.Spans.{Span, group_count, frame_count, meets, adjacent}
use Rattle.model.specs.Log.{record_length, record_bytes, record_at, record_count, records, meeting, sum, aggregate, aggregated, value}
use Rattle.model.specs.Segments.{join, fuse, place, frames_from, groups_from, segments_of, segments}
use Rattle.model.specs.Demands.{SameRecords}
use Rattle.model.proofs.Page.{horizon, short_page}
use Rattle.model.proofs.Cases.{All, span, bytes, segments_g, segments_g3}
use Rattle.model.proofs.TwinCases.{a, b}

-- a record of a lower load than the two others
abbrev c : Span ℕ
c = span 0 1 2 50

-- the aggregate of each kind over the records that meet the frames from one to another
abbrev worth : List (Span ℕ) → ℕ → ℕ → List (Option ℕ)
worth rs from to = list_from 0 5 (λ kind. aggregated kind (meeting rs 0 from to))

-- frame 2 lies in all three records, frames 3 to 5 meet two of them, and frame 5 one
abbrev Holds : List (Span ℕ) → Type 0
Holds rs =
    (worth rs 2 2 ≡ some 350 ∷ some 3 ∷ some 50 ∷ some 200 ∷ some 11666 ∷ [])
    × (worth rs 3 5 ≡ some 300 ∷ some 2 ∷ some 100 ∷ some 200 ∷ some 15000 ∷ [])
    × (worth rs 5 5 ≡ some 200 ∷ some 1 ∷ some 200 ∷ some 200 ∷ some 20000 ∷ [])

pub orders_worked : All Holds (
    (a ∷ b ∷ c ∷ []) ∷ (a ∷ c ∷ b ∷ []) ∷ (b ∷ a ∷ c ∷ []) ∷ (b ∷ c ∷ a ∷ []) ∷ (c ∷ a ∷ b ∷ []) ∷ (c ∷ b ∷ a ∷ []) ∷ []
    )
unfolding list_from meets meeting sum aggregate aggregated
orders_worked =
    ((refl, refl, refl), ((refl, refl, refl), ((refl, refl, refl), ((refl, refl, refl), ((refl, refl, refl), ((refl, refl, refl), tt))))))

-- log G with the last record first, and with its groups and frames mixed
abbrev Cut : List (Span ℕ) → Type 0
Cut log = (segments 0 1 log ≡ segments_g) × (segments 3 1 log ≡ segments_g3)

abbrev reversed_g : List (Span ℕ)
reversed_g = span 1 0 0 7 ∷ span 0 9 10 50 ∷ span 0 6 6 210 ∷ span 0 2 5 200 ∷ span 0 0 3 100 ∷ []

abbrev mixed_g : List (Span ℕ)
mixed_g = span 0 6 6 210 ∷ span 1 0 0 7 ∷ span 0 2 5 200 ∷ span 0 0 3 100 ∷ span 0 9 10 50 ∷ []

pub shuffled_g : All Cut (reversed_g ∷ mixed_g ∷ [])
unfolding horizon group_count frame_count meets adjacent meeting sum aggregate aggregated value join fuse place frames_from groups_from segments_of
shuffled_g =
    ((short_page 0 1 reversed_g refl, short_page 3 1 reversed_g refl), ((short_page 0 1 mixed_g refl, short_page 3 1 mixed_g refl), tt))

-- the same records have the same loads in all
total_order : {rs ss : List (Span ℕ)} → Permᴰ rs ss → sum_of (λ r. r.value) rs ≡ sum_of (λ r. r.value) ss
unfolding sum_of
total_order Permᴰ.nil = refl
total_order (Permᴰ.cons e p) = ap₂ ◌+◌ (ap (λ r. r.value) e) (total_order p)
total_order (Permᴰ.swap e f) = omega (arith, ap (λ r. r.value) e, ap (λ r. r.value) f)
total_order (Permᴰ.trans p q) = total_order p ∙ total_order q

-- logs of one length are not for that logs of the same records
pub other_records : SameRecords (bytes (a ∷ c ∷ [])) (bytes (b ∷ c ∷ [])) → ⊥
unfolding records record_count record_length record_at record_bytes list_from number_at bytes_of sum_of
other_records same = omega (arith, total_order same)
