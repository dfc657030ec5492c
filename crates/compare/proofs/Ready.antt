-- What a slot and segments have that pass their questions: both are in order, and can be held. Assumes nothing.
use Prim.Native.Nat.{ℕ}
use mathlib.Core.List.{List, Memᴰ}
use borrow.Author.Tests.{eqb-true}
use lib.Dec.{eqb}
use Rattle.model.specs.Spans.{Span, group_count, frame_count, nowhere}
use Rattle.model.specs.Log.{records, value}
use Rattle.model.specs.Segments.{segments}
use Rattle.model.specs.Blocks.{segment_at}
use Rattle.model.specs.Calls.{log_segments}
use Rattle.model.specs.Room.{Measured}
use Rattle.theory.proofs.Asking.{file_passed}
use Rattle.theory.proofs.Bounds.{logs_measured}
use Rattle.theory.proofs.Frames.{Earlier, ordered, value_inside, segmentation}
use Rattle.theory.proofs.InOrder.{chain_of, Proper, InOrder}
use Rattle.theory.proofs.Stored.{Held}
use Rattle.compare.specs.Found.{OfLog}

module _ (segs : List (Span ℕ)) (is : OfLog segs) where
  pub segs_measured : Measured segs
  segs_measured = let (kind, width, log, passed, same) = is in rw same (logs_measured kind width log (file_passed log passed))

  pub segs_held : (s : Span ℕ) → Memᴰ s segs → Held s
  unfolding log_segments segments
  segs_held s m =
      let (kind, width, log, passed, same) = is in
      let rs = records log in
      let (proper, group, last) = ordered eqb eqb-true (value kind width rs) group_count frame_count (value_inside kind width rs) s (rw same at m) in
      (group, proper, last, segs_measured.low_values s m)

  pub segs_in_order : InOrder segs
  unfolding log_segments segment_at
  segs_in_order =
      let (kind, width, log, passed, same) = is in
      rw same
      (chain_of Proper Earlier nowhere (log_segments kind width log) (segmentation kind width (records log)).ordered (segmentation kind width (records log)).sorted)
