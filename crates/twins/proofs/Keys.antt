-- Records that begin with the same byte are equal exactly if their keys are; where no key ahead has a key's remainder, none is equal; and the records that are kept, one after the other in a buffer. Assumes nothing.
use Prim.Native.Nat.{ℕ, zero, suc, ◌+◌, ◌-◌, ◌*◌, ◌%◌, ◌≤◌, ◌<◌}
use mathlib.Core.Bool.{Bool, true, false, not, cond, ◌&&◌}
use mathlib.Core.List.{List, [], ◌∷◌, ◌++◌, append_assoc, append-nil}
use mathlib.Core.Path.{◌≡◌, refl, sym, ap, ap₂, ◌∙◌}
use native.Mathlib.Nat.{add-zero, add-suc}
use native.Mathlib.Numerals.{add-one}
use native.Mathlib.Omega.{arith}
use borrow.Author.Tests.{eqb-true, eqb-false, eq-eqb, ne_eqb}
use borrow.Rule.Slice.PartMut.{put_mid}
use lib.Dec.{eqb}
use lib.ListN.{length, get_or, set, take, drop, replicate, take-append-drop, length-replicate, length-set, length-drop, length-append}
use lib.Seq.{take_at, drop-drop, drop-append-add}
use Rattle.model.specs.Common.{every, list_from, joined, number_at}
use Rattle.model.specs.Log.{record_length, record_part, twins, is_first, firsts_of}
use Rattle.model.specs.Questions.{refused, accepted, ask, outcome, twin_questions}
use Rattle.theory.proofs.Tests.{true≢false, cases, is_false}
use Rattle.theory.proofs.Lists.{list_from_snoc, after_set, copied_part}
use Rattle.theory.proofs.Every.{every_at, every_of, every_same}
use Rattle.theory.proofs.Twins.{length_part}
use Rattle.theory.proofs.Asking.{answer}
use Rattle.twins.specs.Keys.{Begun, key_of, new_in, Noted}

-- ---- tests of numbers

-- the first number, and those behind it
every_first : (test : ℕ → Bool) (from count : ℕ) → every test from (suc count) ≡ test from && every test (suc from) count
unfolding every
every_first test from count = refl

-- ---- equal bytes and equal numbers

-- two numbers are equal if their least bytes and the others are
byte_equal : (a b x y : ℕ) → a < 256 → b < 256 → eqb a b && eqb x y ≡ eqb (a + 256 * x) (b + 256 * y)
byte_equal a b x y small little =
    cases (eqb a b)
    (λ p. rw p
    (cases (eqb x y) (λ q. rw q (sym (eq-eqb (a + 256 * x) (b + 256 * y) (omega (arith, eqb-true a b p, eqb-true x y q)))))
    (λ q. rw q (sym (ne_eqb (a + 256 * x) (b + 256 * y) (λ e. eqb-false x y q (omega arith)))))))
    (λ p. rw p (sym (ne_eqb (a + 256 * x) (b + 256 * y) (λ e. eqb-false a b p (omega arith)))))

module _ (bytes : List ℕ) (known : (i : ℕ) → get_or bytes i 0 < 256) where
  -- so many bytes are equal exactly if the numbers in them are
  bytes_equal : (p q from count : ℕ)
      → every (λ k. eqb (get_or bytes (p + k) 0) (get_or bytes (q + k) 0)) from count
      ≡ eqb (number_at count bytes (p + from)) (number_at count bytes (q + from))
  unfolding every number_at
  bytes_equal p q from zero = refl
  bytes_equal p q from (suc count) =
      ap (λ (b : Bool). eqb (get_or bytes (p + from) 0) (get_or bytes (q + from) 0) && b) (bytes_equal p q (suc from) count)
      ∙ rw (add-suc p from, add-suc q from)
      (byte_equal (get_or bytes (p + from) 0) (get_or bytes (q + from) 0) (number_at count bytes (suc (p + from))) (number_at count bytes (suc (q + from))) (known (p + from)) (known (q + from)))

-- ---- equal records and equal keys

module _ (log : List ℕ) (known : (i : ℕ) → get_or log i 0 < 256) (count : ℕ) (begun : Begun log count) where
  -- each record begins with the same byte
  first_byte : (i : ℕ) → i < count → get_or log (9 * i + 0) 0 ≡ 0x4C
  unfolding record_length
  first_byte i lt = let here : 9 * i + 0 ≡ 9 * i = omega arith in rw here (begun i lt)

  -- so the other bytes tell
  twins_keys : (j i : ℕ) → j < count → i < count → twins log j i ≡ eqb (key_of log j) (key_of log i)
  unfolding twins key_of record_length
  twins_keys j i lt less =
      every_first (λ k. eqb (get_or log (9 * j + k) 0) (get_or log (9 * i + k) 0)) 0 8
      ∙ ap (λ (b : Bool). b && every (λ k. eqb (get_or log (9 * j + k) 0) (get_or log (9 * i + k) 0)) 1 8)
      (eq-eqb _ _ (first_byte j lt ∙ sym (first_byte i less)))
      ∙ bytes_equal log known (9 * j) (9 * i) 1 8

  -- a key is new exactly if its record is the first of its bytes
  pub new_first : (i : ℕ) → i < count → new_in log i ≡ is_first log i
  unfolding new_in is_first
  new_first i lt = every_same _ _ 0 i (λ j a b. ap not (sym (twins_keys j i (omega arith) lt)))

-- ---- the question

module _ (log : List ℕ) (i : ℕ) where
  -- a record that is not the first of its bytes is refused, and the first of them is passed
  pub twin_refused : is_first log i ≡ false → answer (twin_questions log i) ≡ refused 21 i
  unfolding twin_questions ask outcome
  twin_refused e = rw e

  pub twin_passed : is_first log i ≡ true → answer (twin_questions log i) ≡ accepted tt
  unfolding twin_questions ask outcome
  twin_passed e = rw e

-- ---- the places of remainders

-- zeros are zero everywhere
zeros_at : (n place : ℕ) → ◌≡◌ {A = ℕ} (get_or (replicate n 0) place 0) 0
zeros_at zero place = refl
zeros_at (suc n) zero = refl
zeros_at (suc n) (suc place) = zeros_at n place

-- no key is noted at first
pub none_noted : (log : List ℕ) → Noted log 0 (replicate 1021 0)
none_noted log =
    record {
      sized = length-replicate {A = ℕ} 1021 0;
      each = λ i lt. absurd (omega arith);
      within = λ place. omega (arith, zeros_at 1021 place);
    }

-- a key that is equal to one ahead of it is not new
pub old_key : (log : List ℕ) (i j : ℕ) → j < i → key_of log j ≡ key_of log i → new_in log i ≡ false
unfolding new_in
old_key log i j lt e =
    is_false _ (λ all. true≢false (sym (every_at _ 0 i all j (omega arith) (omega arith)) ∙ ap not (eq-eqb _ _ e)))

module _ (log : List ℕ) (count : ℕ) (firsts : List ℕ) (before : Noted log count firsts) where
  -- no key ahead has the remainder
  pub new_remainder : get_or firsts (key_of log count % 1021) 0 ≡ 0 → new_in log count ≡ true
  unfolding new_in
  new_remainder none =
      every_of _ 0 count
      (λ j a b. ap not (ne_eqb _ _ (λ e. before.each j (omega arith) (ap (λ (k : ℕ). get_or firsts (k % 1021) 0) e ∙ none))))

  -- the key's own remainder is noted
  pub noted_more : Noted log (count + 1) (set firsts (key_of log count % 1021) (count + 1))
  noted_more =
      let place = key_of log count % 1021 in
      let room : place < length firsts = omega (arith, before.sized) in
      record {
        sized = length-set firsts place (count + 1) ∙ before.sized;
        each = λ i lt. after_set (λ j f. f ≡ 0 → ⊥) firsts place (count + 1) room (λ e. omega arith) (key_of log i % 1021)
            (λ other. let earlier : i ≡ count → ⊥ = λ same. other (ap (λ (j : ℕ). key_of log j % 1021) same) in
            before.each i (omega arith));
        within = λ p. after_set (λ j f. f ≤ count + 1) firsts place (count + 1) room (omega arith) p
            (λ other. omega (arith, before.within p));
      }

  -- or it was
  pub noted_still : (get_or firsts (key_of log count % 1021) 0 ≡ 0 → ⊥) → Noted log (count + 1) firsts
  noted_still noted =
      record {
        sized = before.sized;
        each = λ i lt. cases (eqb i count) (λ e. rw (eqb-true i count e) noted)
            (λ e. before.each i (omega (arith, eqb-false i count e)));
        within = λ p. omega (arith, before.within p);
      }

-- ---- the records that are kept

-- of one list and another behind it
joined_append : {A B : Type 0} (h : A → List B) (xs ys : List A) → joined h (xs ++ ys) ≡ joined h xs ++ joined h ys
unfolding joined
joined_append h [] ys = refl
joined_append h (x ∷ xs) ys = rw (joined_append h xs ys) (sym (append_assoc (h x) (joined h xs) (joined h ys)))

-- the bytes of the records that are kept of the first `count`
unfoldable pub kept_so_far : List ℕ → ℕ → List ℕ
kept_so_far log count = joined (record_part log) (firsts_of log count)

-- the record with index i, or nothing
unfoldable pub kept_of : List ℕ → ℕ → Bool → List ℕ
kept_of log i chosen = cond chosen (record_part log i) []

-- one record more, or none
kept_more : (log : List ℕ) (count : ℕ) → kept_so_far log (count + 1) ≡ kept_so_far log count ++ kept_of log count (is_first log count)
unfolding kept_so_far firsts_of kept_of joined
kept_more log count =
    let one : ℕ → List ℕ = λ i. cond (is_first log i) (i ∷ []) [] in
    let more : joined one (list_from 0 (count + 1) (λ i. i)) ≡ joined one (list_from 0 count (λ i. i)) ++ one count =
    ap (joined one) (ap (λ (n : ℕ). list_from 0 n (λ i. i)) (add-one count) ∙ list_from_snoc (λ i. i) count)
    ∙ joined_append one (list_from 0 count (λ i. i)) (count ∷ [])
    ∙ rw append-nil in
    ap (joined (record_part log)) more
    ∙ joined_append (record_part log) (joined one (list_from 0 count (λ i. i))) (one count)
    ∙ cases (is_first log count) (λ e. rw (e, append-nil)) (λ e. rw e)

-- so at most nine are kept of it
length_kept : (log : List ℕ) (i : ℕ) → 9 * i + 9 ≤ length log → (chosen : Bool) → length (kept_of log i chosen) ≤ 9
unfolding kept_of
length_kept log i within true = omega (arith, length_part log i within)
length_kept log i within false = omega arith

-- a record is copied over the front of a buffer's part
pub part_put : (log : List ℕ) (i at : ℕ) (buffer bytes part : List ℕ) → 9 * i + 9 ≤ length log
    → bytes ≡ take (9 * i + 9 - 9 * i) (drop (9 * i) log)
    → part ≡ bytes ++ drop (length bytes) (take (length buffer - at) (drop at buffer))
    → put_mid at (length buffer - at) buffer part ≡ take at buffer ++ record_part log i ++ drop (at + 9) buffer
unfolding record_part record_length
part_put log i at buffer bytes part within read copied =
    let nine : 9 * i + 9 - 9 * i ≡ 9 = omega arith in
    let all : bytes ≡ record_part log i = read ∙ rw nine in
    copied_part at (length buffer) bytes buffer part refl copied
    ∙ rw (all, length_part log i within)

-- of the first `count` records those that are kept stand at the front of what a buffer held, and end at place `at`
pub record Written (log : List ℕ) (count : ℕ) (was buffer : List ℕ) (at : ℕ) : Type 0 where
  pub ended : at ≡ length (kept_so_far log count)
  pub few : at ≤ 9 * count
  pub written : buffer ≡ kept_so_far log count ++ drop at was

-- of no record nothing is written
pub written_none : (log was : List ℕ) → Written log 0 was was 0
unfolding kept_so_far firsts_of list_from joined
written_none log was = record { ended = refl; few = omega arith; written = refl }

module _ (log : List ℕ) (count : ℕ) (was buffer : List ℕ) (at : ℕ) (before : Written log count was buffer at) where
  -- the buffer is as long as it was
  pub written_length : 9 * count ≤ length was → length buffer ≡ length was
  written_length room =
      ap length before.written
      ∙ length-append (kept_so_far log count) (drop at was)
      ∙ omega (arith, before.ended, before.few, length-drop at was)

  -- a record more, or none
  pub written_more : 9 * count + 9 ≤ length log → (chosen : Bool) → chosen ≡ is_first log count → (next : ℕ) (after : List ℕ)
      → next ≡ at + length (kept_of log count chosen)
      → after ≡ take at buffer ++ kept_of log count chosen ++ drop next buffer
      → Written log (count + 1) was after next
  written_more within chosen first next after moved put =
      let kept = kept_of log count chosen in
      let more : kept_so_far log (count + 1) ≡ kept_so_far log count ++ kept = rw first (kept_more log count) in
      let front : take at buffer ≡ kept_so_far log count = rw before.written (take_at (kept_so_far log count) (drop at was) at (sym before.ended)) in
      let back : drop next buffer ≡ drop next was =
      rw (before.written, moved) (ap (λ (n : ℕ). drop (n + length kept) (kept_so_far log count ++ drop at was)) before.ended
      ∙ drop-append-add (kept_so_far log count) (drop at was) (length kept)
      ∙ drop-drop (length kept) at was) in
      record {
        ended = moved ∙ ap (λ (n : ℕ). n + length kept) before.ended ∙ sym (ap length more ∙ length-append (kept_so_far log count) kept);
        few = omega (arith, before.few, length_kept log count within chosen);
        written = put ∙ ap₂ {C = List ℕ} ◌++◌ (ap (λ (l : List ℕ). l ++ kept) front ∙ sym more) back;
      }

  -- the record, if it is the first of its bytes
  pub written_first : 9 * count + 9 ≤ length log → is_first log count ≡ true → (after : List ℕ)
      → after ≡ take at buffer ++ record_part log count ++ drop (at + 9) buffer → Written log (count + 1) was after (at + 9)
  unfolding kept_of
  written_first within first after put =
      written_more within true (sym first) (at + 9) after (rw (length_part log count within)) put

  -- and nothing, if it is not
  pub written_still : 9 * count + 9 ≤ length log → is_first log count ≡ false → Written log (count + 1) was buffer at
  unfolding kept_of
  written_still within twin =
      written_more within false (sym twin) at buffer (sym (add-zero at))
      (sym (ap (λ (l : List ℕ). l ++ drop at buffer) (append-nil (take at buffer)) ∙ take-append-drop at buffer))
