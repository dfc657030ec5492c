-- Spans in order, each with a frame: no frame lies in two of them, and what begins behind a frame does not contain it. The rows of a slot
-- that passes its questions are such spans, and so are segments. Assumes nothing.
use Prim.Native.Nat.{ℕ, suc, ◌≤◌, ◌<◌}
use mathlib.Core.Bool.{true, false, ◌&&◌}
use mathlib.Core.List.{List, [], ◌∷◌, Memᴰ}
use mathlib.Core.Logic.{inl, inr}
use mathlib.Core.Option.{none}
use mathlib.Core.Path.{◌≡◌, refl, sym, ap, ◌∙◌}
use native.Mathlib.Omega.{arith}
use lib.Dec.{leb, ltb, eqb}
use lib.ListN.{length, get_or}
use borrow.Author.Tests.{leb-true, ltb-true, eqb-true}
use Rattle.model.specs.Common.{number_at}
use Rattle.model.specs.Spans.{Span, group_count, frame_count, holds, nowhere}
use Rattle.model.specs.Slot.{slot_count, slot_row, slot_rows, value_in}
use Rattle.model.specs.Questions.{ask, group_known, most_value, row_known, follows, in_order, row_questions, slot_questions}
use Rattle.model.specs.Fitting.{hits}
use Rattle.model.specs.Demands.{AllPass, Bytes}
use Rattle.theory.proofs.Tests.{cases, and-true, holds_true, false_holds}
use Rattle.theory.proofs.Frames.{Heads, Chain, heads_map, From, Earlier}
use Rattle.theory.proofs.Converse.{member_list_from}
use Rattle.theory.proofs.Lists.{list_from_at}
use Rattle.theory.proofs.Refusals.{all_head, all_tail}
use Rattle.theory.proofs.SlotLaws.{length-list_from, rows_passed}
use Rattle.theory.proofs.Stored.{Held}

-- a chain from what is so of each element and of neighbours by number
pub chain_of : {A : Type 0} (P : A → Type 0) (R : A → A → Type 0) (d : A) (l : List A) → ((a : A) → Memᴰ a l → P a)
    → ((i : ℕ) → suc i < length l → R (get_or l i d) (get_or l (suc i) d)) → Chain P R l
chain_of P R d [] each next = tt
chain_of P R d (a ∷ []) each next = (each a (Memᴰ.head refl), tt, tt)
chain_of P R d (a ∷ b ∷ l) each next = (
  each a (Memᴰ.head refl),
  next 0 (omega arith),
  chain_of P R d (b ∷ l) (λ c m. each c (Memᴰ.tail m)) (λ i lt. next (suc i) (omega arith)),
)

module _ {A : Type 0} where
  abbrev pub Proper : Span A → Type 0
  Proper s = s.first ≤ s.last

  abbrev pub InOrder : List (Span A) → Type 0
  InOrder l = Chain Proper Earlier l

  -- what stands behind a span begins behind all that the span does
  from_later : (g f : ℕ) (s t : Span A) → Proper s → From g f s → Earlier s t → From g f t
  from_later g f s t p (inl a) (inl b) = inl (omega arith)
  from_later g f s t p (inl a) (inr b) = inl (omega arith)
  from_later g f s t p (inr a) (inl b) = inl (omega arith)
  from_later g f s t p (inr a) (inr b) = inr (omega arith, omega arith)

  from_free : (g f : ℕ) (s : Span A) → From g (suc f) s → holds s g f ≡ false
  from_free g f s (inl a) = false_holds s g f (λ i j k. omega arith)
  from_free g f s (inr a) = false_holds s g f (λ i j k. omega arith)

  -- spans that begin behind a frame do not contain it
  pub behind_free : (g f : ℕ) (l : List (Span A)) → InOrder l → Heads (From g (suc f)) l → hits l g f ≡ 0
  unfolding hits
  behind_free g f [] c h = refl
  behind_free g f (s ∷ l) c h =
      rw (from_free g f s h)
      (behind_free g f l c.2 (heads_map l (λ t e. from_later g (suc f) s t c.0 h e) c.1))

  -- no frame lies in two
  pub once : (g f : ℕ) (l : List (Span A)) → InOrder l → hits l g f ≤ 1
  unfolding hits
  once g f [] c = omega arith
  once g f (s ∷ l) c =
      cases (holds s g f)
      (λ e.
      let (in_group, from, to) = holds_true s g f e in
      let free = behind_free g f l c.2 (heads_map l (λ t. after t in_group to) c.1) in
      rw e (omega arith))
      (λ e. rw e (once g f l c.2))
    where
      after : (t : Span A) → s.group ≡ g → f ≤ s.last → Earlier s t → From g (suc f) t
      after t in_group to (inl a) = inl (omega arith)
      after t in_group to (inr a) = inr (omega arith, omega arith)

  -- a frame that no row contains has no number
  pub unhit_none : (g f : ℕ) (l : List (Span A)) → hits l g f ≡ 0 → value_in l g f ≡ none
  unfolding hits value_in
  unhit_none g f [] h = refl
  unhit_none g f (s ∷ l) h =
      cases (holds s g f) (λ e. absurd (omega (arith, rw e at h))) (λ e. rw e (unhit_none g f l (rw e at h)))

-- ---- the rows of a slot that passes its questions

follows_earlier : (s t : Span ℕ) → follows t s ≡ true → Earlier s t
unfolding follows
follows_earlier s t e =
    cases (ltb s.group t.group) (λ lt. inl (ltb-true _ _ lt))
    (λ ge.
    let both = and-true (eqb t.group s.group) (ltb s.last t.first) (rw ge at e) in
    inr (sym (eqb-true _ _ both.0), ltb-true _ _ both.1))

-- a number of two bytes
pub two_small : (bytes : List ℕ) → Bytes bytes → (i : ℕ) → number_at 2 bytes i < 65536
unfolding number_at
two_small bytes small i = omega (arith, small i, small (suc i))

module _ (slot : List ℕ) (small : Bytes slot) (all : AllPass (slot_questions slot)) where
  -- row i can be held
  pub row_held : (i : ℕ) → i < slot_count slot → Held (slot_row slot i)
  unfolding row_questions ask row_known group_known group_count frame_count slot_row
  row_held i lt =
      let known = all_head _ _ (all_tail _ _ (rows_passed slot all i lt)) in
      let r = slot_row slot i in
      let p = and-true (leb r.group 7 && leb r.first r.last) (leb r.value most_value) known in
      let q = and-true (leb r.group 7) (leb r.first r.last) p.0 in
      let group = leb-true r.group 7 q.0 in
      (omega arith, leb-true r.first r.last q.1, two_small slot small _, leb-true r.value most_value p.1)

  -- each can be held
  pub rows_held : (r : Span ℕ) → Memᴰ r (slot_rows slot) → Held r
  unfolding slot_rows
  rows_held r m =
      let (i, from, to, same) = member_list_from (slot_row slot) 0 (slot_count slot) r m in
      rw same (row_held i (omega arith))

  pub rows_in_order : InOrder (slot_rows slot)
  unfolding slot_rows row_questions ask in_order
  rows_in_order =
      chain_of Proper Earlier nowhere (slot_rows slot) (λ r m. (rows_held r m).1)
      (λ i lt.
      let count = length-list_from 0 (slot_count slot) (slot_row slot) in
      let here : get_or (slot_rows slot) i nowhere ≡ slot_row slot i =
      list_from_at (slot_row slot) nowhere 0 (slot_count slot) i (omega arith) ∙ ap (slot_row slot) (omega arith) in
      let next : get_or (slot_rows slot) (suc i) nowhere ≡ slot_row slot (suc i) =
      list_from_at (slot_row slot) nowhere 0 (slot_count slot) (suc i) (omega arith) ∙ ap (slot_row slot) (omega arith) in
      rw (here, next)
      (follows_earlier (slot_row slot i) (slot_row slot (suc i))
      (all_head _ _ (all_tail _ _ (all_tail _ _ (rows_passed slot all (suc i) (omega arith)))))))
