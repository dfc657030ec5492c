-- The exchange: joining adjacent pieces of equal value never hurts. A labelling cuts a list of pieces into parts and gives
-- each part one label; where two neighbours have the same value, both can be given the cheaper of their two labels, with no
-- more parts and no more cost. So of any labelling of pieces there is one of the joined pieces that is no worse.
-- Assumes nothing.
use Prim.Native.Nat.{ℕ, suc, ◌+◌, ◌*◌, ◌-◌, ◌≤◌, ◌<◌}
use mathlib.Core.Bool.{true, false, ◌&&◌}
use mathlib.Core.List.{List, [], ◌∷◌, foldr, Memᴰ}
use mathlib.Core.Logic.{◌⊎◌, inl, inr, ⊎_map}
use mathlib.Core.Path.{◌≡◌, refl, sym, ap, subst, ◌∙◌}
use native.Mathlib.Omega.{arith}
use native.Mathlib.Nat.{add-mul, mul-le-mul_left}
use lib.Dec.{leb}
use borrow.Author.Tests.{leb-true, leb-false}
use Rattle.model.specs.Spans.{Span, span_length, adjacent}
use Rattle.model.specs.Segments.{join, fuse}
use Rattle.theory.proofs.Tests.{cases, and-true, adjacent_true, true_adjacent}
use Rattle.theory.proofs.Cost.{Cost}

-- a labelling of pieces: its first label, its number of parts, and what it costs at most. A part may end after any piece and
-- must end where the next piece is not adjacent.
pub data Labelling {V' L : Type 0} (C : Cost V' L) : List (Span V') → L → ℕ → ℕ → Type 0 where
  one : {p : Span V'} {z : L} {c : ℕ} → C.ok p.value z → span_length p * C.cost p.value z ≤ c
      → Labelling C (p ∷ []) z 1 c
  stay : {p q : Span V'} {ps : List (Span V')} {z : L} {k b c : ℕ} → C.ok p.value z → adjacent p q ≡ true
      → Labelling C (q ∷ ps) z k b → span_length p * C.cost p.value z + b ≤ c → Labelling C (p ∷ q ∷ ps) z k c
  turn : {p q : Span V'} {ps : List (Span V')} {z y : L} {k b c : ℕ} → C.ok p.value z
      → Labelling C (q ∷ ps) y k b → span_length p * C.cost p.value z + b ≤ c → Labelling C (p ∷ q ∷ ps) z (suc k) c

-- the length of a join is the sum of the lengths, each weighed with the same number
join_weighs : {A : Type 0} (s t : Span A) (x : ℕ) → s.first ≤ s.last → suc s.last ≡ t.first → t.first ≤ t.last
    → span_length (join s t) * x ≡ span_length s * x + span_length t * x
unfolding span_length join
join_weighs s t x a b c =
    let e : suc t.last - s.first ≡ (suc s.last - s.first) + (suc t.last - t.first) = omega arith in
    rw e (add-mul _ _ x)

module _ {V' L : Type 0} (C : Cost V' L) where
  -- the first label is allowed for the first piece
  first_ok : {t : Span V'} {ts : List (Span V')} {z : L} {k b : ℕ} → Labelling C (t ∷ ts) z k b → C.ok t.value z
  first_ok (one ok le) = ok
  first_ok (stay ok adj rest le) = ok
  first_ok (turn ok rest le) = ok

  -- another first piece with the same end, under the same first label
  refit : {t : Span V'} {ts : List (Span V')} {z : L} {k b : ℕ} → Labelling C (t ∷ ts) z k b → (s : Span V')
      → s.group ≡ t.group → s.last ≡ t.last → C.ok s.value z → (c : ℕ)
      → span_length s * C.cost s.value z + b ≤ c + span_length t * C.cost t.value z → Labelling C (s ∷ ts) z k c
  refit (one ok le) s g l ok' c le' = one {p = s} {c = c} ok' (omega arith)
  refit (stay {p = t} {q = q} ok adj rest le) s g l ok' c le' =
      let a = adjacent_true t q adj in
      stay {p = s} {c = c} ok' (true_adjacent s q (g ∙ a.0) (ap suc l ∙ a.1)) rest (omega arith)
  refit (turn ok rest le) s g l ok' c le' = turn {p = s} {c = c} ok' rest (omega arith)

  -- a cost that is no less
  pub afford : {t : Span V'} {ts : List (Span V')} {z : L} {k b c : ℕ} → Labelling C (t ∷ ts) z k b → b ≤ c
      → Labelling C (t ∷ ts) z k c
  afford {t} {c = c} l le = refit l t refl refl (first_ok l) c (omega arith)

  -- another first piece under another label: one part more at most
  relabel : {t : Span V'} {ts : List (Span V')} {z : L} {k b : ℕ} → Labelling C (t ∷ ts) z k b → (s : Span V') (y : L)
      → C.ok s.value y → (c : ℕ) → span_length s * C.cost s.value y + b ≤ c + span_length t * C.cost t.value z
      → (j : ℕ) × Labelling C (s ∷ ts) y j c × (j ≤ suc k)
  relabel (one ok le) s y ok' c le' = (1, one {p = s} {c = c} ok' (omega arith), omega arith)
  relabel (stay {k = k} ok adj rest le) s y ok' c le' = (suc k, turn {p = s} {c = c} ok' rest (omega arith), omega arith)
  relabel (turn {k = k} ok rest le) s y ok' c le' = (suc k, turn {p = s} {c = c} ok' rest (omega arith), omega arith)

  -- a labelling of a list that begins where p does, no worse than one with first label z, K parts and cost c: it has fewer
  -- parts, or the same first label and no more parts
  record NoWorse (p : Span V') (l : List (Span V')) (z : L) (K c : ℕ) : Type 0 where
    head : Span V'
    tail : List (Span V')
    list : l ≡ head ∷ tail
    group : head.group ≡ p.group
    first : head.first ≡ p.first
    ordered : head.first ≤ head.last
    label : L
    parts : ℕ
    labelling : Labelling C (head ∷ tail) label parts c
    fewer : (parts < K) ⊎ ((label ≡ z) × (parts ≤ K))

  -- a list by its first piece, which begins where p does
  begins : {p : Span V'} {z : L} {K c : ℕ} {ts : List (Span V')} (t : Span V') → t.group ≡ p.group
      → t.first ≡ p.first → t.first ≤ t.last → (x : L) (j : ℕ) → Labelling C (t ∷ ts) x j c
      → (j < K) ⊎ ((x ≡ z) × (j ≤ K)) → NoWorse p (t ∷ ts) z K c
  begins {ts = ts} t in_group at_first ordered x j l f =
      record {
        head = t;
        tail = ts;
        list = refl;
        group = in_group;
        first = at_first;
        ordered = ordered;
        label = x;
        parts = j;
        labelling = l;
        fewer = f;
      }

  -- one piece
  alone : (p : Span V') (z : L) (c : ℕ) → C.ok p.value z → p.first ≤ p.last
      → span_length p * C.cost p.value z ≤ c → NoWorse p (fuse C.same p []) z 1 c
  unfolding fuse
  alone p z c ok ordered le = begins p refl refl ordered z 1 (one ok le) (inr (refl, omega arith))

  module _ (p t : Span V') (ts : List (Span V')) (z y : L) (k K b c : ℕ) (ok : C.ok p.value z)
      (p-ordered : p.first ≤ p.last) (t-ordered : t.first ≤ t.last) (rest : Labelling C (t ∷ ts) y k b)
      (le : span_length p * C.cost p.value z + b ≤ c) where
    -- a piece before a list that it is not joined to
    apart : (k < K) ⊎ ((y ≡ z) × (k ≤ K) × (adjacent p t ≡ true)) → NoWorse p (p ∷ t ∷ ts) z K c
    apart (inl lt) = begins p refl refl p-ordered z (suc k) (turn ok rest le) (inr (refl, lt))
    apart (inr same) =
        begins p refl refl p-ordered z k
        (stay ok same.2 (subst (λ (x : L). Labelling C (t ∷ ts) x k b) same.0 rest) le) (inr (refl, same.1))

    -- a piece joined to the first of a list
    joined : adjacent p t ≡ true → p.value ≡ t.value → (k < K) ⊎ ((y ≡ z) × (k ≤ K))
        → NoWorse p (join p t ∷ ts) z K c
    unfolding join
    joined adj e fewer = cases (leb (C.cost p.value y) (C.cost p.value z)) kept (λ d. changed d fewer)
      where
        made : (x : L) (j : ℕ) → Labelling C (join p t ∷ ts) x j c → (j < K) ⊎ ((x ≡ z) × (j ≤ K))
            → NoWorse p (join p t ∷ ts) z K c
        made = let a = adjacent_true p t adj in begins (join p t) refl refl (omega arith)

        -- under a label that is no dearer for the second piece than its own
        bound : (x : L) → span_length p * C.cost p.value x ≤ span_length p * C.cost p.value z
            → span_length t * C.cost p.value x ≤ span_length t * C.cost p.value y
            → span_length (join p t) * C.cost p.value x + b ≤ c + span_length t * C.cost t.value y
        bound x h i =
            let a = adjacent_true p t adj in
            let v : span_length t * C.cost t.value y ≡ span_length t * C.cost p.value y =
            ap (λ (w : V'). span_length t * C.cost w y) (sym e) in
            rw (join_weighs p t (C.cost p.value x) p-ordered a.1 t-ordered) (omega arith)

        kept : leb (C.cost p.value y) (C.cost p.value z) ≡ true → NoWorse p (join p t ∷ ts) z K c
        kept d =
            made y k
            (refit rest (join p t) (adjacent_true p t adj).0 refl (subst (λ (v : V'). C.ok v y) (sym e) (first_ok rest)) c
            (bound y (mul-le-mul_left (span_length p) (leb-true _ _ d)) (omega arith)))
            fewer

        changed : leb (C.cost p.value y) (C.cost p.value z) ≡ false → (k < K) ⊎ ((y ≡ z) × (k ≤ K))
            → NoWorse p (join p t ∷ ts) z K c
        changed d (inl lt) =
            let dear : C.cost p.value z < C.cost p.value y = leb-false _ _ d in
            let r = relabel rest (join p t) z ok c (bound z (omega arith) (mul-le-mul_left (span_length t) (omega arith))) in
            made z r.0 r.1 (inr (refl, omega arith))
        changed d (inr same) =
            let dear : C.cost p.value z < C.cost p.value y = leb-false _ _ d in
            let eq : C.cost p.value y ≡ C.cost p.value z = ap (C.cost p.value) same.0 in
            absurd (omega arith)

    -- a piece before a list, joined to it or not
    fused : (k < K) ⊎ ((y ≡ z) × (k ≤ K) × (adjacent p t ≡ true)) → NoWorse p (fuse C.same p (t ∷ ts)) z K c
    unfolding fuse
    fused fewer =
        cases (adjacent p t && C.same p.value t.value)
        (λ d. let a = and-true _ _ d in
        rw d (joined a.0 (C.same_eq _ _ a.1) (⊎_map (λ lt. lt) (λ s. (s.0, s.1)) fewer)))
        (λ d. rw d (apart fewer))

  -- a piece p, under label z, before pieces that begin with q and are joined already
  module _ (p q : Span V') (l : List (Span V')) (z y : L) (k K b c : ℕ) (ok : C.ok p.value z)
      (ordered : p.first ≤ p.last) (le : span_length p * C.cost p.value z + b ≤ c) where
    before : NoWorse q l y k b → (k < K) ⊎ ((y ≡ z) × (k ≤ K) × (adjacent p q ≡ true))
        → NoWorse p (fuse C.same p l) z K c
    before r same =
        rw r.list
        (fused p r.head r.tail z r.label r.parts K b c ok ordered r.ordered r.labelling le
        (both r.fewer same))
      where
        both : (r.parts < k) ⊎ ((r.label ≡ y) × (r.parts ≤ k)) → (k < K) ⊎ ((y ≡ z) × (k ≤ K) × (adjacent p q ≡ true))
            → (r.parts < K) ⊎ ((r.label ≡ z) × (r.parts ≤ K) × (adjacent p r.head ≡ true))
        both (inl a) (inl d) = inl (omega arith)
        both (inl a) (inr d) = inl (omega arith)
        both (inr a) (inl d) = inl (omega arith)
        both (inr a) (inr d) =
            let t = adjacent_true p q d.2 in
            inr (a.0 ∙ d.0, omega arith, true_adjacent p r.head (t.0 ∙ sym r.group) (t.1 ∙ sym r.first))

  -- a labelling of pieces, and one of the joined pieces that is no worse
  exchange_from : {p : Span V'} {ps : List (Span V')} {z : L} {k c : ℕ}
      → ((s : Span V') → Memᴰ s (p ∷ ps) → s.first ≤ s.last) → Labelling C (p ∷ ps) z k c
      → NoWorse p (foldr (fuse C.same) [] (p ∷ ps)) z k c
  exchange_from ordered (one {p = p} {z = z} {c = c} ok le) = alone p z c ok (ordered p (Memᴰ.head refl)) le
  exchange_from ordered (stay {p = p} {q = q} {ps = ps} {z = z} {k = k} {b = b} {c = c} ok adj rest le) =
      before p q (foldr (fuse C.same) [] (q ∷ ps)) z z k k b c ok (ordered p (Memᴰ.head refl)) le
      (exchange_from (λ s m. ordered s (Memᴰ.tail m)) rest) (inr (refl, omega arith, adj))
  exchange_from ordered (turn {p = p} {q = q} {ps = ps} {z = z} {y = y} {k = k} {b = b} {c = c} ok rest le) =
      before p q (foldr (fuse C.same) [] (q ∷ ps)) z y k (suc k) b c ok (ordered p (Memᴰ.head refl)) le
      (exchange_from (λ s m. ordered s (Memᴰ.tail m)) rest) (inl (omega arith))

  -- the pieces joined: no more parts and no more cost
  pub exchange : {ps : List (Span V')} {z : L} {k c : ℕ} → ((s : Span V') → Memᴰ s ps → s.first ≤ s.last)
      → Labelling C ps z k c → (y : L) × (j : ℕ) × Labelling C (foldr (fuse C.same) [] ps) y j c × (j ≤ k)
  exchange {ps = []} ordered l = elim l [ ]
  exchange {ps = p ∷ ps} {z} {k} {c} ordered l =
      let r = exchange_from ordered l in
      (r.label, r.parts, rw r.list r.labelling, no_more r.fewer)
    where
      no_more : {j : ℕ} {A : Type 0} → (j < k) ⊎ (A × (j ≤ k)) → j ≤ k
      no_more (inl lt) = omega arith
      no_more (inr s) = s.1
