-- Load is conserved: for kind 0, length × value summed over the segments is length × load summed over the records. A frame's
-- value is the sum of the loads of the records that contain it, and each record's frames all lie inside, so that both are the
-- sum over all frames. Assumes nothing.
use Prim.Native.Nat.{ℕ, suc, ◌+◌, ◌*◌, ◌≤◌, ◌<◌}
use mathlib.Core.Bool.{cond}
use mathlib.Core.List.{List, [], ◌∷◌, Memᴰ}
use mathlib.Core.Path.{◌≡◌, refl, ◌∙◌, ap}
use native.Mathlib.Omega.{arith}
use lib.Dec.{eqb}
use borrow.Author.Tests.{leb-true, lt-ltb, eqb-true}
use Rattle.model.specs.Common.{sum_of, number_at}
use Rattle.model.specs.Spans.{Span, group_count, frame_count, span_length, meets, holds}
use Rattle.model.specs.Log.{record_length, record_at, record_count, records, meeting, sum, aggregate, aggregated, value}
use Rattle.model.specs.NoMemory.{plain_value}
use Rattle.model.specs.Segments.{segments}
use Rattle.model.specs.Questions.{ask, group_known, span_questions, record_questions, file_questions}
use Rattle.model.specs.Calls.{log_segments}
use Rattle.model.specs.Demands.{AllPass, Bytes}
use Rattle.theory.proofs.Tests.{cases, true_and}
use Rattle.theory.proofs.Sums.{sum_of_cong, over_frames_cong, over_frames-sum_of, over_frames-holds}
use Rattle.theory.proofs.Frames.{worth, segments_weigh}
use Rattle.theory.proofs.Converse.{member_list_from}
use Rattle.theory.proofs.Refusals.{all_head, all_tail, all_at}
use Rattle.theory.proofs.Memory.{value_one}

-- ---- the value of a frame

-- the loads that meet a frame, summed over the records
meeting_sum : (rs : List (Span ℕ)) (g f : ℕ)
    → sum (meeting rs g f f) ≡ sum_of (λ r. cond (holds r g f) r.value 0) rs
unfolding meeting sum sum_of holds
meeting_sum [] g f = refl
meeting_sum (r ∷ rs) g f =
    let ih = meeting_sum rs g f in
    cases (meets r g f f) (λ e. rw e (omega arith)) (λ e. rw e (omega arith))

-- a frame inside is worth the loads of the records that contain it
value_sum : (rs : List (Span ℕ)) (g f : ℕ) → g < group_count → f < frame_count
    → worth (λ v. v) (value 0 1 rs g f) ≡ sum_of (λ r. cond (holds r g f) r.value 0) rs
unfolding plain_value sum worth aggregated aggregate
value_sum rs g f a b =
    ap (worth (λ v. v)) (value_one 0 rs g f)
    ∙ rw (true_and _ _ (lt-ltb g group_count a) (lt-ltb f frame_count b)) (summed (meeting rs g f f) ∙ meeting_sum rs g f)
  where
    summed : (l : List ℕ) → worth (λ v. v) (aggregated 0 l) ≡ sum l
    summed [] = refl
    summed (x ∷ xs) = refl

-- records that lie inside
loads_conserved : (rs : List (Span ℕ))
    → ((r : Span ℕ) → Memᴰ r rs → (r.group < group_count) × (r.last < frame_count))
    → sum_of (λ s. span_length s * s.value) (segments 0 1 rs) ≡ sum_of (λ r. span_length r * r.value) rs
unfolding segments
loads_conserved rs inside =
    segments_weigh eqb eqb-true (value 0 1 rs) group_count frame_count (λ v. v)
    ∙ over_frames_cong group_count frame_count _ _ (value_sum rs)
    ∙ over_frames-sum_of group_count frame_count (λ g f r. cond (holds r g f) r.value 0) rs
    ∙ sum_of_cong _ _ rs
    (λ r m. over_frames-holds group_count frame_count r.value r (inside r m).0 (inside r m).1)

-- ---- the records of a log

-- two bytes hold a frame's number
two_bytes : (bytes : List ℕ) (i : ℕ) → Bytes bytes → number_at 2 bytes i < frame_count
unfolding number_at frame_count
two_bytes bytes i small = omega (arith, small i, small (suc i))

-- a record whose group is known lies inside
record_inside : (log : List ℕ) → Bytes log → (i : ℕ) → AllPass (record_questions log i)
    → ((record_at log (record_length * i)).group < group_count) × ((record_at log (record_length * i)).last < frame_count)
unfolding record_at record_questions span_questions ask group_known group_count
record_inside log small i all =
    let known : (record_at log (record_length * i)).group ≤ 7 = leb-true _ _ (all_head _ _ (all_tail _ _ all)) in
    (omega arith, two_bytes log (record_length * i + 5) small)

-- demand 2, `conserved`
pub conserved : (log : List ℕ) → Bytes log → AllPass (file_questions log)
    → sum_of (λ s. span_length s * s.value) (log_segments 0 1 log) ≡ sum_of (λ r. span_length r * r.value) (records log)
unfolding log_segments records file_questions
conserved log small all =
    loads_conserved (records log)
    (λ r m.
    let x = member_list_from (λ i. record_at log (record_length * i)) 0 (record_count log) r m in
    let asked = all_at (record_questions log) 0 (record_count log) (all_tail _ _ (all_tail _ _ all)) in
    rw x.3 (record_inside log small x.0 (asked x.0 x.1 x.2)))
