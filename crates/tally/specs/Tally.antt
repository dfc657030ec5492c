-- The records of one group, and what they say of the frames a to b: the last frame before their next event behind frame a, the
-- loads of those that meet the frames, and the value of one frame.
use Rattle.std.specs.Prelude.{ℕ, ◌-◌, ◌*◌, ◌≤◌, min, Bool, ◌&&◌, cond, List, [], ◌∷◌, ◌≡◌, map, leb, ltb, eqb, length, get_or}
use Rattle.std.proofs.Math.Option.{Option}
use Rattle.model.specs.Common.{list_from}
use Rattle.model.specs.Spans.{Span}
use Rattle.model.specs.Log.{sum, aggregated}
use Rattle.tally.specs.declared.Own.{Own}
use Rattle.tally.specs.declared.Here.{Here}
use Rattle.tally.specs.declared.Group.{Group}

-- record i, from a list for each field
abbrev pub own_from : List ℕ → List ℕ → List ℕ → ℕ → Own
own_from firsts lasts loads i = record { first = get_or firsts i 0; last = get_or lasts i 0; load = get_or loads i 0 }

-- record i of the group in hand
abbrev pub own_in : Group → ℕ → Own
own_in g = own_from g.firsts g.lasts g.loads

-- all of them
abbrev pub owns_in : Group → List Own
owns_in g = list_from 0 g.count (own_in g)

-- the records of group g
unfoldable pub only_of : ℕ → List (Span ℕ) → List Own
only_of g [] = []
only_of g (r ∷ rs) =
    cond (eqb r.group g)
    (record { first = r.first; last = r.last; load = r.value } ∷ only_of g rs)
    (only_of g rs)

-- the record holds some frame of a to b
abbrev pub held : ℕ → ℕ → Own → Bool
held a b r = leb r.first b && leb a r.last

-- the loads of the records that do
unfoldable pub loads_at : ℕ → ℕ → List Own → List ℕ
loads_at a b [] = []
loads_at a b (r ∷ rs) = cond (held a b r) (r.load ∷ loads_at a b rs) (loads_at a b rs)

-- the loads of all, with a start in place of that of each record that does not
unfoldable pub loads_or : ℕ → ℕ → ℕ → List Own → List ℕ
loads_or start a b rs = map (λ r. cond (held a b r) r.load start) rs

-- a step that takes up a load, which is of 16 bits
abbrev pub TakesUp : (ℕ → ℕ → ℕ → Type 0) → ℕ → ℕ → ℕ → Type 0
TakesUp Takes found load next = (load ≤ 65535) × Takes found load next

-- the last frame up to which the record holds each frame from a on, or holds none of them
unfoldable pub stop_of : ℕ → Own → ℕ
stop_of a r = cond (ltb a r.first) (r.first - 1) (cond (leb a r.last) r.last 65535)

-- the same of all records: the last frame before the next event behind frame a, 65,535 if there is none
unfoldable pub stop_at : ℕ → List Own → ℕ
stop_at a [] = 65535
stop_at a (r ∷ rs) = min (stop_of a r) (stop_at a rs)

-- what is found of the frames a to b, field by field; and the sum of at most 128 loads of 16 bits is no greater than so many can
-- have
pub record Survey (a b : ℕ) (own : List Own) (here : Here) : Type 0 where
  pub stops : here.stop ≡ stop_at a own
  pub counts : here.count ≡ length (loads_at a b own)
  pub sums : here.sum ≡ sum (loads_at a b own)
  pub sum_le : here.sum ≤ 65535 * 128

-- the value of a frame by the records of its group alone
unfoldable pub own_value : ℕ → List Own → ℕ → ℕ → Option ℕ
own_value kind own g f = aggregated kind (loads_at f f own)
