-- Laws of bytes put into a buffer: one piece of text after another is both together. Assumes nothing.
use Prim.Native.Nat.{ℕ, suc, ◌+◌, ◌-◌, ◌≤◌}
use mathlib.Core.Path.{◌≡◌, refl, sym, ap, subst, ◌∙◌}
use mathlib.Core.List.{List, [], ◌∷◌, ◌++◌}
use native.Mathlib.Omega.{arith}
use native.Mathlib.Nat.{add-zero, add-suc, suc-add}
use lib.ListN.{length, take, drop, set, length-append, length-set}
use lib.Seq.{sets, sets-eq, take_at}
use Rattle.theory.proofs.Lists.{copied_part}
use Rattle.text.specs.Put.{put_at, Room, Put}

pub length-put_at : (out : List ℕ) (at : ℕ) (bytes : List ℕ) → length (put_at out at bytes) ≡ length out
unfolding put_at
length-put_at out at [] = refl
length-put_at out at (b ∷ bytes) = length-put_at (set out at b) (suc at) bytes ∙ length-set out at b

pub put_at-append : (out : List ℕ) (at : ℕ) (a b : List ℕ)
    → put_at out at (a ++ b) ≡ put_at (put_at out at a) (at + length a) b
unfolding put_at
put_at-append out at [] b = rw (add-zero at)
put_at-append out at (x ∷ a) b =
    rw (add-suc at (length a), ← suc-add at (length a)) (put_at-append (set out at x) (suc at) a b)

-- a run of stores
put_at_sets : (out : List ℕ) (at : ℕ) (bytes : List ℕ) → put_at out at bytes ≡ sets out at bytes
unfolding put_at
put_at_sets out at [] = refl
put_at_sets out at (b ∷ bytes) = put_at_sets (set out at b) (suc at) bytes

-- the buffer up to the place after the bytes, where they are put from its start on
pub take-put_at : (out bytes : List ℕ) → length bytes ≤ length out → take (length bytes) (put_at out 0 bytes) ≡ bytes
take-put_at out bytes fits =
    rw (put_at_sets out 0 bytes, sets-eq bytes out 0 (omega arith))
    (take_at bytes (drop (0 + length bytes) out) (length bytes) refl)

-- bytes copied over the part of a buffer from place `at` on are put there
pub put_copied : {out : List ℕ} {at : ℕ} {bytes part : List ℕ} {next : ℕ} → Room out at bytes
    → part ≡ bytes ++ drop (length bytes) (take (length out - at) (drop at out))
    → next ≡ at + length bytes
    → Put out at bytes (take at out ++ (part ++ drop (length out - at) (drop at out))) next
put_copied {out} {at} {bytes} {part} room copied behind =
    record {
      buffer =
          copied_part at (length out) bytes out part refl copied
          ∙ sym (put_at_sets out at bytes ∙ sets-eq bytes out at room.fits);
      end = behind;
    }

-- the room for a piece of text is there where it is for all
pub room_first : {out : List ℕ} {at : ℕ} {a t : List ℕ} (b : List ℕ) → a ++ b ≡ t → Room out at t → Room out at a
room_first {a = a} b whole room = record { fits = omega (arith, length-append a b, ap length whole) }

module _ {out : List ℕ} {at : ℕ} {a after : List ℕ} {next : ℕ} (p : Put out at a after next) where
  pub put_length : length after ≡ length out
  put_length = ap length p.buffer ∙ length-put_at out at a

  -- the room that is left for the rest
  pub room_then : {b t : List ℕ} → a ++ b ≡ t → Room out at t → Room after next b
  room_then {b} whole room =
      record { fits = omega (arith, put_length, p.end, length-append a b, ap length whole) }

  -- a piece of text and then the rest is all
  pub put_then : {b t last : List ℕ} {end : ℕ} → a ++ b ≡ t → Put after next b last end → Put out at t last end
  put_then {b} whole q =
      record {
        buffer = q.buffer ∙ rw (← whole, p.buffer, p.end) (sym (put_at-append out at a b));
        end = q.end ∙ rw (← whole, p.end) (omega (arith, length-append a b));
      }

-- bytes put from the buffer's start on are what it holds up to the place after them
pub put_whole : {out text after : List ℕ} {next : ℕ} → Room out 0 text → Put out 0 text after next
    → (next ≤ length after) × (take next after ≡ text)
put_whole {out} {text} {next = next} room p =
    let e : next ≡ length text = omega (arith, p.end) in
    let fits : length text ≤ length out = omega (arith, room.fits) in
    (omega (arith, put_length p), rw (e, p.buffer) (take-put_at out text fits))

-- no bytes
pub put_nothing : (out : List ℕ) (at : ℕ) → Put out at [] out at
unfolding put_at
put_nothing out at = record { buffer = refl; end = sym (add-zero at) }

-- what is left to put, from the present buffer and place on, completes what was to be put
pub record Left (before : List ℕ) (at : ℕ) (whole out : List ℕ) (next : ℕ) (rest : List ℕ) : Type 0 where
  pub room : Room out next rest
  pub completes : (last : List ℕ) (end : ℕ) → Put out next rest last end → Put before at whole last end

pub left_all : {before : List ℕ} {at : ℕ} {whole rest : List ℕ} → rest ≡ whole → Room before at whole
    → Left before at whole before at rest
left_all {before} {at} e room =
    record { room = rw e room; completes = λ last end p. subst (λ t. Put before at t last end) e p }

pub left_less : {before : List ℕ} {at : ℕ} {whole out : List ℕ} {next : ℕ} {rest a after : List ℕ} {then : ℕ} {b : List ℕ}
    → Left before at whole out next rest → Put out next a after then → a ++ b ≡ rest → Left before at whole after then b
left_less left p e =
    record {
      room = room_then p e left.room;
      completes = λ last end q. left.completes last end (put_then p e q);
    }

pub left_none : {before : List ℕ} {at : ℕ} {whole out : List ℕ} {next : ℕ} {rest : List ℕ} → rest ≡ []
    → Left before at whole out next rest → Put before at whole out next
left_none {out = out} {next} e left =
    left.completes out next (rw e (put_nothing out next))
