-- A slot against its log: it is accepted exactly if its rows fit the log for its kind, with its error as their squared error; whatever
-- fits passes; and any order of the log gives the same answer. Assumes nothing.
use Prim.Native.Nat.{ℕ, ◌≤◌, ◌<◌}
use mathlib.Core.Bool.{Bool, true, false, ◌&&◌, ◌||◌, and-false, cond}
use mathlib.Core.List.Memᴰ
use mathlib.Core.List.{List, [], ◌∷◌, ◌++◌, map, Memᴰ}
use mathlib.Core.Logic.{⊎_elim}
use mathlib.Core.Option.{Option, none, some}
use mathlib.Core.Path.{◌≡◌, refl, sym, ap, ◌∙◌}
use native.Mathlib.Omega.{arith}
use lib.Dec.{leb, ltb, eqb}
use lib.IntN.{ℤ, pos}
use lib.ListN.{length, get_or}
use borrow.Author.Tests.{leb-true, leb-false, le-leb, lt-ltb, ltb-true, eqb-true, eq-eqb}
use Rattle.model.specs.Common.{every}
use Rattle.model.specs.Spans.{Span, group_count, frame_count, meets, holds}
use Rattle.model.specs.Log.{records, greatest_kind, value}
use Rattle.model.specs.Slot.{slot_length, by_bound, by_windows, slot_bytes, slot_mark, slot_kind, slot_count, slot_error, slot_row, slot_rows, value_in}
use Rattle.model.specs.Questions.{Question, accepted, refused, ask, ask_room, marked, outcome, log_questions, header_marked, slot_questions, ask_width, width_known}
use Rattle.model.specs.Calls.{Header, read_outcome, read_rows}
use Rattle.model.specs.Fitting.{hits, due, Fits, NowhereBelow, whole}
use Rattle.model.specs.Check.{every_frame, covered_alike, not_below, same_cover, never_below, against_questions, bounded_questions, check_questions, check_outcome}
use Rattle.model.specs.Demands.{AllPass, Bytes, Storable, Reads, Shuffled, lists_for, Agrees}
use Rattle.theory.proofs.Tests.{true≢false, cases, and-true, true_and, none≢some, some_inj, holds_true}
use Rattle.theory.proofs.Every.{every_at, every_of}
use Rattle.theory.proofs.Refusals.{all_nil, all_cons, all_head, all_tail, all_append, all_left, all_right, outcome_accepted, all_outcome, outcome_behind, all_lent}
use Rattle.theory.proofs.SlotLaws.{length-list_from, round_trip_lem}
use Rattle.theory.proofs.Frames.{value_inside}
use Rattle.theory.proofs.Labels.{labelled_frame}
use Rattle.theory.proofs.Converse.{value_in_member}
use Rattle.theory.proofs.Answer.{whole_value}
use Rattle.theory.proofs.Stored.{Held}
use Rattle.theory.proofs.InOrder.{InOrder, once, unhit_none, rows_held, rows_in_order}
use Rattle.theory.proofs.Order.{value_order}

-- ---- every frame

pub every_frame_lem : (test : ℕ → ℕ → Bool) → every_frame test ≡ true → (g f : ℕ) → g < group_count → f < frame_count → test g f ≡ true
unfolding every_frame
every_frame_lem test all g f in_groups in_frames =
    every_at (test g) 0 frame_count (every_at (λ g. every (test g) 0 frame_count) 0 group_count all g (omega arith) (omega arith)) f
    (omega arith) (omega arith)

pub each_frame : (test : ℕ → ℕ → Bool) → ((g f : ℕ) → g < group_count → f < frame_count → test g f ≡ true) → every_frame test ≡ true
unfolding every_frame
each_frame test each =
    every_of (λ g. every (test g) 0 frame_count) 0 group_count
    (λ g a b. every_of (test g) 0 frame_count (λ f c d. each g f (omega arith) (omega arith)))

-- ---- one frame

-- a frame is covered as it lies in rows exactly if it lies in as many as it is due, where it lies in at most one
pub alike_exact : (rows : List (Span ℕ)) (g f : ℕ) (o : Option ℕ) → hits rows g f ≤ 1 → covered_alike o (value_in rows g f) ≡ true
    → hits rows g f ≡ due o
unfolding covered_alike due
alike_exact rows g f o most alike =
    cases (leb 1 (hits rows g f))
    (λ t. let (z, is) = labelled_frame g f rows (leb-true 1 (hits rows g f) t) in by_some z o (rw is at alike) (omega (arith, leb-true 1 (hits rows g f) t)))
    (λ t. let none-hit : hits rows g f ≡ 0 = zero_of t in by_none o (rw (unhit_none g f rows none-hit) at alike) none-hit)
  where
    zero_of : leb 1 (hits rows g f) ≡ false → hits rows g f ≡ 0
    zero_of t = omega (arith, leb-false 1 (hits rows g f) t)

    by_some : (z : ℕ) (o : Option ℕ) → covered_alike o (some z) ≡ true → hits rows g f ≡ 1 → hits rows g f ≡ due o
    by_some z none e is = absurd (true≢false (sym e))
    by_some z (some v) e is = is

    by_none : (o : Option ℕ) → covered_alike o none ≡ true → hits rows g f ≡ 0 → hits rows g f ≡ due o
    by_none none e is = is
    by_none (some v) e is = absurd (true≢false (sym e))

pub exact_alike : (rows : List (Span ℕ)) (g f : ℕ) (o : Option ℕ) → hits rows g f ≡ due o → covered_alike o (value_in rows g f) ≡ true
unfolding covered_alike due
exact_alike rows g f none e = rw (unhit_none g f rows e)
exact_alike rows g f (some v) e = let (z, is) = labelled_frame g f rows (omega arith) in rw is

-- rows that hold whole numbers contain what the slot's rows contain, with their numbers
hits_whole : (g f : ℕ) (rows : List (Span ℕ)) → hits (map whole rows) g f ≡ hits rows g f
unfolding hits whole holds meets
hits_whole g f [] = refl
hits_whole g f (r ∷ rows) = rw (hits_whole g f rows)

proper_whole : (rows : List (Span ℕ)) → ((r : Span ℕ) → Memᴰ r rows → r.first ≤ r.last)
    → (r : Span ℤ) → Memᴰ r (map whole rows) → r.first ≤ r.last
unfolding whole
proper_whole [] proper r m = absurd (Memᴰ.not-nil m)
proper_whole (s ∷ rows) proper r m =
    ⊎_elim (λ e. rw e (proper s (Memᴰ.head refl))) (proper_whole rows (λ t n. proper t (Memᴰ.tail n)) r)
    (Memᴰ.cases_cons m)

value_whole : (g f : ℕ) (rows : List (Span ℕ)) (r : ℕ) → value_in rows g f ≡ some r → value_in (map whole rows) g f ≡ some (pos r)
unfolding value_in whole holds meets
value_whole g f [] r e = absurd (none≢some refl e)
value_whole g f (s ∷ rows) r e =
    cases (holds s g f) (λ t. rw t (ap (λ (x : ℕ). some (pos x)) (some_inj refl (rw t at e))))
    (λ t. rw t (value_whole g f rows r (rw t at e)))

-- ---- the three questions, and the words of demand 3

-- rows in order among the groups and frames, against the values of frames there
module _ (kind width : ℕ) (rs rows : List (Span ℕ)) where
  abbrev val : ℕ → ℕ → Option ℕ
  val = value kind width rs

  outside : (g f : ℕ) → (g < group_count → f < frame_count → ⊥) → val g f ≡ none
  outside g f far = by (val g f) refl
    where
      by : (o : Option ℕ) → val g f ≡ o → val g f ≡ none
      by none e = e
      by (some v) e = let i = value_inside kind width rs g f v e in absurd (far i.0 i.1)

  module _ (order : InOrder rows) (held : (r : Span ℕ) → Memᴰ r rows → Held r) where
    free : (g f : ℕ) → (g < group_count → f < frame_count → ⊥) → hits rows g f ≡ 0
    free g f far =
        cases (leb 1 (hits rows g f))
        (λ t.
        let (z, is) = labelled_frame g f rows (leb-true 1 (hits rows g f) t) in
        let (r, m, holds-it, same) = value_in_member g f rows z is in
        let (in_group, from, to) = holds_true r g f holds-it in
        let (group, proper, last, small) = held r m in
        absurd (far (omega arith) (omega arith)))
        (λ t. omega (arith, leb-false 1 (hits rows g f) t))

    covers : same_cover val rows ≡ true → Fits val (map whole rows)
    unfolding same_cover due
    covers same =
        record {
          ordered = proper_whole rows (λ r m. (held r m).1);
          exact = λ g f. hits_whole g f rows ∙ exact_at g f;
        }
      where
        exact_at : (g f : ℕ) → hits rows g f ≡ due (val g f)
        exact_at g f =
            cases (ltb g group_count && ltb f frame_count)
            (λ t.
            let (in_groups, in_frames) = and-true (ltb g group_count) (ltb f frame_count) t in
            alike_exact rows g f (val g f) (once g f rows order)
            (every_frame_lem _ same g f (ltb-true _ _ in_groups) (ltb-true _ _ in_frames)))
            (λ t.
            let far : g < group_count → f < frame_count → ⊥ =
            λ a b. true≢false (sym (true_and _ _ (lt-ltb _ _ a) (lt-ltb _ _ b)) ∙ t) in
            free g f far ∙ sym (ap due (outside g f far)))

  covered : Fits val (map whole rows) → same_cover val rows ≡ true
  unfolding same_cover
  covered fits = each_frame _ (λ g f a b. exact_alike rows g f (val g f) (sym (hits_whole g f rows) ∙ fits.exact g f))

  above : never_below val rows ≡ true → NowhereBelow val (map whole rows)
  unfolding never_below not_below
  above never g f v z e label =
      let (r, is, same) = whole_value rows g f z label in
      let (in_groups, in_frames) = value_inside kind width rs g f v e in
      rw same (leb-true v r (rw (e, is, not_below) at (every_frame_lem _ never g f in_groups in_frames)))

  never_below_lem : NowhereBelow val (map whole rows) → never_below val rows ≡ true
  unfolding never_below not_below
  never_below_lem high = each_frame _ (λ g f a b. by g f (val g f) (value_in rows g f) refl refl)
    where
      by : (g f : ℕ) (o p : Option ℕ) → val g f ≡ o → value_in rows g f ≡ p → not_below (val g f) (value_in rows g f) ≡ true
      by g f none p e is = rw (e, not_below)
      by g f (some v) none e is = rw (e, is, not_below)
      by g f (some v) (some r) e is = rw (e, is, not_below) (le-leb v r (high g f v (pos r) e (value_whole g f rows r is)))

-- ---- a slot that is accepted

-- the mark of a slot by a bound is one of a slot's
pub bound_marked : (slot : List ℕ) → marked slot 0 0x50 by_bound ≡ true → header_marked slot ≡ true
unfolding header_marked
bound_marked slot e = rw e

marked_bound : (slot : List ℕ) → header_marked slot ≡ true → slot_mark slot ≡ by_bound → marked slot 0 0x50 by_bound ≡ true
unfolding header_marked marked slot_mark
marked_bound slot e is = by (eqb (get_or slot 0 0) 0x50) (rw is at e)
  where
    by : (first : Bool) → (first && true) || (first && false) ≡ true → first && eqb (get_or slot 1 0) by_bound ≡ true
    by true e = rw is
    by false e = e

-- what a log and a slot that pass their questions have
module _ (width : ℕ) (log slot : List ℕ) where
  abbrev against : List Question
  against = against_questions (slot_kind slot) (slot_error slot) (slot_rows slot) (value (slot_kind slot) width (records log))

  -- all questions are passed exactly if 25, the log's, the slot's with the mark of a bound, and 22 to 24 are
  pub in_parts : AllPass (check_questions width log slot)
      → (width_known width ≡ true) × AllPass (log_questions log) × AllPass (slot_questions slot) × (slot_mark slot ≡ by_bound) × AllPass against
  unfolding check_questions bounded_questions slot_questions ask ask_width marked slot_mark
  in_parts all =
      let behind = all_tail _ _ (all_tail _ _ all) in
      let own = all_right (log_questions log) _ behind in
      let bounded = all_left (bounded_questions slot) against own in
      let mark = all_head _ _ bounded in (
        all_head _ _ (all_tail _ _ all),
        all_left (log_questions log) _ behind,
        all_cons _ _ (all_head _ _ all) (all_cons _ _ (bound_marked slot mark) (all_tail _ _ bounded)),
        eqb-true _ _ (and-true (eqb (get_or slot 0 0) 0x50) (eqb (get_or slot 1 0) by_bound) mark).1,
        all_right (bounded_questions slot) against own,
      )

  from_parts : width_known width ≡ true → AllPass (log_questions log) → AllPass (slot_questions slot) → slot_mark slot ≡ by_bound
      → AllPass against
      → AllPass (check_questions width log slot)
  unfolding check_questions bounded_questions slot_questions ask ask_width
  from_parts known logged read mark rest =
      let behind = all_tail _ _ read in
      all_cons _ _ (all_head _ _ read)
      (all_cons _ _ known
      (all_append (log_questions log) _ logged
      (all_append (bounded_questions slot) against
      (all_cons _ _ (marked_bound slot (all_head _ _ behind) mark) (all_tail _ _ behind)) rest)))

  -- a slot that passes its questions is read to what it holds
  reads_own : AllPass (slot_questions slot) → slot_mark slot ≡ by_bound → Reads slot by_bound (slot_kind slot) (slot_error slot) (slot_rows slot)
  unfolding read_outcome read_rows slot_rows
  reads_own read mark =
      record {
        header = all_outcome (slot_questions slot) _ read ∙ rw (mark, length-list_from 0 (slot_count slot) (slot_row slot));
        body = all_lent (slot_questions slot) (slot_rows slot) [] read;
      }

  -- an accepted slot agrees with its log
  pub accepted_agrees : Bytes slot → check_outcome width log slot ≡ accepted tt → Agrees width log slot
  unfolding check_outcome against_questions ask
  accepted_agrees small e =
      let (known, logged, read, mark, rest) = in_parts (outcome_accepted (check_questions width log slot) tt tt e).0 in
      let kind = slot_kind slot in
      let rows = slot_rows slot in
      let rs = records log in
      record {
        kind = kind;
        error = slot_error slot;
        rows = rows;
        known = known;
        log_passes = logged;
        reads = reads_own read mark;
        fits =
            record {
              covers = covers kind width rs rows (rows_in_order slot small read) (rows_held slot small read) (all_head _ _ rest);
              nowhere_below = λ is. above kind width rs rows (rw (eq-eqb kind greatest_kind is) at (all_head _ _ (all_tail _ _ rest)));
            };
        has_error = sym (eqb-true _ _ (all_head _ _ (all_tail _ _ (all_tail _ _ rest))));
      }

  -- and one that agrees is accepted
  pub agrees_accepted : Agrees width log slot → check_outcome width log slot ≡ accepted tt
  unfolding check_outcome against_questions ask read_outcome read_rows
  agrees_accepted a =
      let (read, header) = outcome_accepted (slot_questions slot) _ _ a.reads.header in
      let mark : slot_mark slot ≡ by_bound = sym (ap (λ (h : Header). h.mark) header) in
      let kind : a.kind ≡ slot_kind slot = ap (λ (h : Header). h.kind) header in
      let error : a.error ≡ slot_error slot = ap (λ (h : Header). h.error) header in
      let rows : a.rows ≡ slot_rows slot = sym a.reads.body ∙ all_lent (slot_questions slot) (slot_rows slot) [] read in
      let fits = rw (kind, rows) at a.fits in
      let same = rw (kind, rows, error) at a.has_error in
      let rs = records log in
      all_outcome (check_questions width log slot) tt
      (from_parts a.known a.log_passes read mark
      (all_cons _ _ (covered (slot_kind slot) width rs (slot_rows slot) fits.covers)
      (all_cons _ _
      (cases (eqb (slot_kind slot) greatest_kind)
      (λ t. rw t (never_below_lem (slot_kind slot) width rs (slot_rows slot) (fits.nowhere_below (eqb-true _ _ t)))) (λ t. rw t))
      (all_cons _ _ (eq-eqb _ _ (sym same)) all_nil))))

  -- a slot by windows is refused as 11, once width and log have passed
  pub not_by_windows_lem : slot_length ≤ length slot → width_known width ≡ true → AllPass (log_questions log) → slot_mark slot ≡ by_windows
      → check_outcome width log slot ≡ refused 11 0
  unfolding check_outcome check_questions bounded_questions ask_room ask_width ask outcome marked slot_mark
  not_by_windows_lem long known logged mark =
      rw (le-leb slot_length (length slot) long, known)
      (outcome_behind (log_questions log) _ tt logged ∙ rw (mark, and-false (eqb (get_or slot 0 0) 0x50)))

-- whatever fits passes
pub whatever_fits_lem : (width : ℕ) (log rest : List ℕ) (kind error : ℕ) (rows : List (Span ℕ)) → width_known width ≡ true
    → AllPass (log_questions log) → Storable by_bound kind error rows → (lists_for kind width log).fits (map whole rows)
    → (lists_for kind width log).error (map whole rows) ≡ error
    → check_outcome width log (slot_bytes by_bound kind error rows ++ rest) ≡ accepted tt
whatever_fits_lem width log rest kind error rows known logged storable fits same =
    agrees_accepted width log (slot_bytes by_bound kind error rows ++ rest)
    (record {
      kind = kind;
      error = error;
      rows = rows;
      known = known;
      log_passes = logged;
      reads = round_trip_lem by_bound kind error rows rest storable;
      fits = fits;
      has_error = same;
    })

-- any order of the log gives the same answer
pub check_any_order : (width : ℕ) (log other slot : List ℕ) → Shuffled log other
    → check_outcome width log slot ≡ check_outcome width other slot
unfolding check_outcome check_questions outcome ask_room ask_width ask
check_any_order width log other slot both =
    let behind : (ℕ → ℕ → Option ℕ) → List Question =
    λ val. bounded_questions slot ++ against_questions (slot_kind slot) (slot_error slot) (slot_rows slot) val in
    ap (λ o. cond (leb slot_length (length slot)) (cond (width_known width) o (refused 25 0)) (refused 1 0))
    (outcome_behind (log_questions log) _ tt both.passes
    ∙ ap (λ val. outcome (behind val) tt) (value_order (slot_kind slot) both.same_records width)
    ∙ sym (outcome_behind (log_questions other) _ tt both.other_passes))
