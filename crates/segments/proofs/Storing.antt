-- The arrays that segments are made in: they hold joined spans, and one more span is stored behind them or widens the last.
-- Assumes nothing.
use Prim.Native.Nat.{ℕ, zero, suc, ◌+◌, ◌-◌, ◌≤◌, ◌<◌}
use mathlib.Core.Bool.{true, false}
use mathlib.Core.List.{List, [], ◌∷◌, ◌++◌}
use mathlib.Core.Path.{◌≡◌, refl, sym, ap, subst, ◌∙◌}
use native.Mathlib.Omega.{arith}
use lib.ListN.{length, set, length-append}
use Rattle.model.specs.Common.{list_from}
use Rattle.model.specs.Spans.{Span}
use Rattle.model.specs.Segments.{join}
use Rattle.model.specs.Arrays.{span_in, segments_in, segment_arrays}
use Rattle.model.specs.declared.Segments.{Segments}
use Rattle.theory.proofs.SlotLaws.{length-list_from}
use Rattle.theory.proofs.Lists.{list_from_snoc}
use Rattle.load_log.proofs.Columns.{column_snoc, column_again, column_more, segments_held}
use Rattle.segments.specs.Steps.{joins, joined, Made}
use Rattle.segments.proofs.Joining.{joins_last, Apart, Ends, no_end, end, ends, joined_joined, joined_append, joined_le, joined_apart, joins_last_none, joins_last-end, last_joined, last_apart}

pos_of_ne : (n : ℕ) → (n ≡ 0 → ⊥) → 0 < n
pos_of_ne zero ne = absurd (ne refl)
pos_of_ne (suc n) ne = omega arith

count_of : (s : Segments) → length (segments_in s) ≡ s.count
unfolding segments_in
count_of s = length-list_from 0 s.count _

-- segment i, read from the arrays
abbrev segment_of : Segments → ℕ → Span ℕ
segment_of s i = span_in s.groups s.firsts s.lasts s.values i

-- a span behind those of arrays concerns the last of them, if there is one
pub joins_last_in : (m : Segments) (s : Span ℕ) → (m.count ≡ 0 → ⊥)
    → joins_last (segments_in m) s ≡ joins (segment_of m (m.count - 1)) s
unfolding segments_in
joins_last_in m s some-made =
    let count : m.count ≡ suc (m.count - 1) = omega (arith, pos_of_ne m.count some-made) in
    ap (λ n. joins_last (list_from 0 n (segment_of m)) s) count
    ∙ ap (λ l. joins_last l s) (list_from_snoc (segment_of m) (m.count - 1))
    ∙ joins_last-end (list_from 0 (m.count - 1) (segment_of m)) (segment_of m (m.count - 1)) s

pub joins_last_none_in : (m : Segments) (s : Span ℕ) → m.count ≡ 0 → joins_last (segments_in m) s ≡ false
unfolding segments_in joins_last list_from
joins_last_none_in m s none_made = ap (λ n. joins_last (list_from 0 n (segment_of m)) s) none_made

-- arrays of joined spans are made
made_of : (l : List (Span ℕ)) → Made (segment_arrays (joined l))
made_of l = sym (ap segment_arrays (ap joined (segments_held (joined l)) ∙ joined_joined l))

module _ (made : Segments) (l : List (Span ℕ)) (held : made ≡ segment_arrays (joined l)) where
  pub made_by : Made made
  made_by = held ∙ made_of l ∙ ap (λ m. segment_arrays (joined (segments_in m))) (sym held)

  -- what comes behind the arrays comes behind the spans that they were made of
  pub made_behind : (r : List (Span ℕ)) → joined (segments_in made ++ r) ≡ joined (l ++ r)
  made_behind r = ap (λ m. joined (segments_in m ++ r)) held ∙ rw (segments_held (joined l)) (joined_append l r)

module _ (made : Segments) (holds : Made made) where
  made_joined : segments_in made ≡ joined (segments_in made)
  made_joined = ap segments_in holds ∙ segments_held (joined (segments_in made))

  made_arrays : made ≡ segment_arrays (segments_in made)
  made_arrays = holds ∙ ap segment_arrays (sym made_joined)

  made_apart : Apart (segments_in made)
  made_apart = subst Apart (sym made_joined) (joined_apart (segments_in made))

  -- what comes behind leaves room for what is made
  pub made_le : (r : List (Span ℕ)) → made.count ≤ length (joined (segments_in made ++ r))
  made_le r =
      omega (arith, count_of made, ap (λ l. length l) made_joined, joined_le (segments_in made) r)

  module _ (s : Span ℕ) where
    pub widened : joins_last (segments_in made) s ≡ true
        → ◌≡◌ {A = Segments}
        (record {
          groups = made.groups;
          firsts = made.firsts;
          lasts = set made.lasts (made.count - 1) s.last;
          values = made.values;
          count = made.count;
        })
        (segment_arrays (joined (segments_in made ++ (s ∷ []))))
    unfolding segment_arrays join
    widened e = by (ends (segments_in made)) made_arrays made_apart e
      where
        by : {l : List (Span ℕ)} → Ends l → made ≡ segment_arrays l → Apart l → joins_last l s ≡ true
            → ◌≡◌ {A = Segments}
            (record {
              groups = made.groups;
              firsts = made.firsts;
              lasts = set made.lasts (made.count - 1) s.last;
              values = made.values;
              count = made.count;
            })
            (segment_arrays (joined (l ++ (s ∷ []))))
        by no_end held apart e = absurd (joins_last_none s e)
        by (end l t) held apart e =
            let place : length (l ++ (t ∷ [])) - 1 ≡ length l = omega (arith, length-append l (t ∷ [])) in
            rw (held, last_joined l t s apart (sym (joins_last-end l t s) ∙ e), place) (λ i.
            record {
              groups = (column_snoc 255 (λ s. s.group) l t ∙ sym (column_snoc 255 (λ s. s.group) l (join t s))) i;
              firsts = (column_snoc 255 (λ s. s.first) l t ∙ sym (column_snoc 255 (λ s. s.first) l (join t s))) i;
              lasts = column_again 255 (λ s. s.last) l t (join t s) i;
              values = (column_snoc 255 (λ s. s.value) l t ∙ sym (column_snoc 255 (λ s. s.value) l (join t s))) i;
              count = (length-append l (t ∷ []) ∙ sym (length-append l (join t s ∷ []))) i;
            })

    module _ (apart : joins_last (segments_in made) s ≡ false) where
      pub free : (size : ℕ) → length (joined (segments_in made ++ (s ∷ []))) ≤ size → made.count < size
      free size le =
          omega (arith, count_of made, length-append (segments_in made) (s ∷ []), ap (λ l. length l) (last_apart (segments_in made) s made_apart apart))

      pub stored : made.count < 255
          → ◌≡◌ {A = Segments}
          (record {
            groups = set made.groups made.count s.group;
            firsts = set made.firsts made.count s.first;
            lasts = set made.lasts made.count s.last;
            values = set made.values made.count s.value;
            count = made.count + 1;
          })
          (segment_arrays (joined (segments_in made ++ (s ∷ []))))
      unfolding segment_arrays
      stored room = rw (last_apart (segments_in made) s made_apart apart) (at (segments_in made) made_arrays)
        where
          at : (l : List (Span ℕ)) → made ≡ segment_arrays l
              → ◌≡◌ {A = Segments}
              (record {
                groups = set made.groups made.count s.group;
                firsts = set made.firsts made.count s.first;
                lasts = set made.lasts made.count s.last;
                values = set made.values made.count s.value;
                count = made.count + 1;
              })
              (segment_arrays (l ++ (s ∷ [])))
          at l held =
              let fits : length l < 255 = subst (λ (m : Segments). m.count < 255) held room in
              rw held (λ i.
              record {
                groups = column_more 255 (λ s. s.group) l s fits i;
                firsts = column_more 255 (λ s. s.first) l s fits i;
                lasts = column_more 255 (λ s. s.last) l s fits i;
                values = column_more 255 (λ s. s.value) l s fits i;
                count = sym (length-append l (s ∷ [])) i;
              })
