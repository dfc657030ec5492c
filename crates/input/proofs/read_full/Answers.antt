-- The bytes of a read stand behind those of the reads before it.
use Rattle.std.proofs.Common.{◌≡◌, ℕ, ◌+◌, ◌-◌, ◌≤◌, List, ◌++◌, length, take, drop, ap, sym, ◌∙◌, rules, append_assoc}
use Rattle.std.proofs.lemmas.List.{take-append-le, length-take-le}
use Rattle.std.proofs.Math.Seq.{take-append-add}
use Rattle.std.specs.Prelude.{Option, None, Some}
use Rattle.std.specs.Io.KnownBytes.{Consumes}
use borrow.Rule.Slice.PartMut.{put_mid}
use Rattle.input.proofs.read_full.Goals as goal

consumes_more : (a b c : Option (List ℕ)) (xs ys : List ℕ) → Consumes a b xs → Consumes b c ys → Consumes a c (xs ++ ys)
consumes_more None b c xs ys h k = tt
consumes_more (Some x) None c xs ys h k = absurd h
consumes_more (Some x) (Some y) None xs ys h k = absurd k
consumes_more (Some x) (Some y) (Some z) xs ys h k = h ∙ ap (λ l. xs ++ l) k ∙ sym (append_assoc xs ys z)

-- the bytes so far and those of a part behind them
take_more : (n m size : ℕ) (buffer part : List ℕ) → n ≤ length buffer → m ≤ length part
    → take (n + m) (put_mid n size buffer part) ≡ take n buffer ++ take m part
take_more n m size buffer part within some =
    let front = take n buffer in
    let all = length-take-le n buffer within in
    ap (λ (k : ℕ). take (k + m) (put_mid n size buffer part)) (sym all)
    ∙ take-append-add front (part ++ drop size (drop n buffer)) m
    ∙ ap (λ l. front ++ l) (take-append-le m part (drop size (drop n buffer)) some)

pub loop-n-preserved : goal.loop-n-preserved
loop-n-preserved g c =
    let l = c.loop-n in
    let size = length l.buffer - l.n in
    let some = c.in_ok-more.ensures.bound.0 in
    let all = take_more l.n c.in_ok-more.more size l.buffer c.read.new.buf l.invariant.within some in
    record {
      within = search rules;
      taken = rw all (consumes_more _ _ _ _ _ l.invariant.taken c.in_ok-more.ensures.bytes.0);
    }
