-- What is found or read fits into a lent list, and with it in the first places the list is what the call leaves. Assumes nothing.
use Prim.Native.Nat.{ℕ, ◌-◌, ◌≤◌}
use mathlib.Core.List.{List, [], ◌++◌, map}
use mathlib.Core.Path.{◌≡◌, sym, ap, ◌∙◌}
use native.Mathlib.Omega.{arith}
use borrow.Author.Tests.{leb-true, le-leb}
use lib.ListN.{length, take, drop, replicate, length-map}
use lib.Seq.{take_at}
use Rattle.model.specs.Spans.{Span, nowhere}
use Rattle.model.specs.Split.{most_rows}
use Rattle.model.specs.Slot.{slot_count, slot_row, slot_rows}
use Rattle.model.specs.Questions.{refused, accepted, ask, ask_room, outcome, most_segments, segments_questions, slot_questions}
use Rattle.model.specs.Calls.{segment_of, log_segments, segments_outcome, filled_list}
use Rattle.model.specs.Calls.{row_of_span, Header, header_of, read_outcome, read_rows, read_list_questions, read_list_outcome, read_list}
use Rattle.model.specs.Arrays.{segments_in, segment_arrays, row_array}
use Rattle.model.specs.Demands.{AllPass}
use Rattle.model.specs.declared.Row.{Row}
use Rattle.model.specs.declared.Segment.{Segment}
use Rattle.model.specs.declared.Segments.{Segments}
use Rattle.theory.proofs.Asking.{file_passed}
use Rattle.theory.proofs.Count.{segment_count}
use Rattle.theory.proofs.Refusals.{all_cons, all_head, all_tail, all_outcome, outcome_accepted, all_lent, refused_lent}
use Rattle.theory.proofs.SlotLaws.{length-list_from}
use Rattle.load_log.proofs.Columns.{segments_held}

-- ---- segments

module _ (kind width : ℕ) (log : List ℕ) (list : List Segment) where
  -- a call that is refused leaves the list
  pub refused_segments : {n i : ℕ} → segments_outcome kind width log (length list) ≡ refused n i → list ≡ filled_list kind width log list
  unfolding segments_outcome filled_list
  refused_segments {n} {i} e = sym (refused_lent (segments_questions kind width log (length list)) _ n i _ list e)

  module _ (segments : Segments) (says : segments_outcome kind width log (length list) ≡ accepted segments.count) (is : segments ≡ segment_arrays (log_segments kind width log)) where
    passes_all : AllPass (segments_questions kind width log (length list))
    unfolding segments_outcome
    passes_all = (outcome_accepted (segments_questions kind width log (length list)) _ _ says).0

    -- the segments fit
    pub segments_fit : (segments.count ≤ most_segments) × (segments.count ≤ length list)
    unfolding segments_questions ask_room ask segment_arrays log_segments
    segments_fit =
        let few = segment_count kind width log (file_passed log (all_tail _ _ (all_tail _ _ (all_tail _ _ passes_all)))) in
        let room = leb-true most_segments (length list) (all_head _ _ passes_all) in
        rw is (few, omega (arith, few, room))

    -- and fill the list
    pub segments_fill : map segment_of (segments_in segments) ++ drop segments.count list ≡ filled_list kind width log list
    unfolding filled_list segment_arrays
    segments_fill =
        rw (is, segments_held (log_segments kind width log)) (sym (all_lent (segments_questions kind width log (length list)) _ list passes_all))

-- ---- rows

-- the rows of an array, in the first places of a list
taken : (list : List Row) (rows : List (Span ℕ)) (count : ℕ) → length rows ≡ count
    → take count (row_array rows) ++ drop count list ≡ map row_of_span rows ++ drop (length rows) list
unfolding row_array
taken list rows count e =
    rw (← e)
    (ap (λ l. l ++ drop (length rows) list)
    (take_at (map row_of_span rows) (replicate (64 - length rows) (row_of_span nowhere)) (length rows) (length-map rows row_of_span)))

module _ (slot : List ℕ) (list : List Row) (room : most_rows ≤ length list) where
  -- a slot that is refused leaves the list
  pub refused_list : {n i : ℕ} → read_outcome slot ≡ refused n i
      → (refused n i ≡ read_list_outcome slot (length list)) × (list ≡ read_list slot list)
  unfolding read_outcome read_list_outcome read_list read_list_questions outcome ask_room ask
  refused_list {n} {i} e =
      let asked : read_list_outcome slot (length list) ≡ refused n i = rw (le-leb most_rows (length list) room) e in
      (sym asked, sym (refused_lent (read_list_questions slot (length list)) _ n i _ list asked))

  module _ (header : Header) (rows : List Row) (reads : read_outcome slot ≡ accepted header) (holds : rows ≡ row_array (read_rows slot)) where
    passes : AllPass (slot_questions slot)
    unfolding read_outcome
    passes = (outcome_accepted (slot_questions slot) _ header reads).0

    same : header ≡ header_of slot
    unfolding read_outcome
    same = (outcome_accepted (slot_questions slot) _ header reads).1

    all_passes : AllPass (read_list_questions slot (length list))
    unfolding read_list_questions ask_room ask
    all_passes = all_cons _ _ (le-leb most_rows (length list) room) passes

    -- the rows fit into the list and into the array
    pub few : header.rows ≤ 64
    unfolding slot_questions ask most_rows
    few = rw same (leb-true (slot_count slot) 64 (all_head _ _ (all_tail _ _ (all_tail _ _ (all_tail _ _ passes)))))

    -- what is said is what the reader said
    pub said : accepted header ≡ read_list_outcome slot (length list)
    unfolding read_list_outcome
    said = ap accepted same ∙ sym (all_outcome (read_list_questions slot (length list)) (header_of slot) all_passes)

    -- and the list holds them
    pub filled : take header.rows rows ++ drop header.rows list ≡ read_list slot list
    unfolding read_list read_rows slot_rows
    filled =
        let held = holds ∙ ap row_array (all_lent (slot_questions slot) (slot_rows slot) [] passes) in
        rw (held, same) (taken list (slot_rows slot) (slot_count slot) (length-list_from 0 (slot_count slot) (slot_row slot)))
        ∙ sym (all_lent (read_list_questions slot (length list)) _ list all_passes)
