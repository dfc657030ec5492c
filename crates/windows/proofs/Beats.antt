-- Windows every so many frames: each begins at a frame, and those ahead of the one that holds a frame end before it. Assumes
-- nothing.
use Prim.Native.Nat.{ℕ, suc, ◌+◌, ◌-◌, ◌*◌, ◌/◌, ◌≤◌, ◌<◌}
use native.Mathlib.Nat.{mul-le-mul_left, le-div_iff_mul-le, le_of_lt}
use native.Mathlib.Omega.{arith}
use Rattle.model.specs.Spans.{frame_count}
use Rattle.model.specs.Windows.{beat, beat_count}
use Rattle.theory.proofs.Windows.{beat_begins}

module _ (length start : ℕ) (some_frames : 0 < length) where
  module _ (stop : ℕ) (from : start ≤ stop) where
    -- the window that holds the frame after `stop`, where there is such a frame
    pub next_within : stop < 65535 → (stop + 1 - start) / length ≤ beat_count length start
    unfolding frame_count
    next_within before =
        let next = (stop + 1 - start) / length in
        let whole : next * length ≤ stop + 1 - start = (le-div_iff_mul-le {x = next} some_frames).0 (omega arith) in
        omega (arith, (beat_begins length start next some_frames).1 (omega arith))

    pub next_ended : (k : ℕ) → k < (stop + 1 - start) / length → (beat length start k).last ≤ stop
    unfolding beat
    next_ended k lt =
        let whole : suc k * length ≤ stop + 1 - start = (le-div_iff_mul-le {x = suc k} some_frames).0 lt in
        omega arith

  -- a later window begins later
  pub later_begun : (i k : ℕ) → i < k → (beat length start i).first ≤ (beat length start k).first
  unfolding beat
  later_begun i k lt = omega (arith, mul-le-mul_left length (le_of_lt lt))

  -- a window is from a first frame to a last one
  pub beat_forward : (i : ℕ) → i < beat_count length start → (beat length start i).first ≤ (beat length start i).last
  unfolding beat frame_count
  beat_forward i lt = omega (arith, (beat_begins length start i some_frames).0 lt)

  -- no window ends behind the last frame
  pub all_ended : (k : ℕ) → (beat length start k).last ≤ 65535
  unfolding beat frame_count
  all_ended k = omega arith
