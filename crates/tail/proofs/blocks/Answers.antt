-- `tail::blocks` meets its contract. The invariant of both loops: the two words that gather are zero exactly if the bytes so far are.
-- Assumes nothing.
use Prim.Native.Nat.{ℕ, ◌+◌, ◌*◌}
use mathlib.Core.Path.{◌≡◌, refl, ap, ◌∙◌}
use native.Mathlib.Omega.{arith}
use Rattle.model.specs.Common.{number_at}
use Rattle.model.specs.Questions.{zeros}
use Rattle.tail.proofs.Gathered.{or_zero, gathered_two}
use Rattle.tail.proofs.blocks.Goals as goal

pub loop-k-init : goal.loop-k-init
unfolding zeros
loop-k-init c = refl

pub loop-j-init : goal.loop-j-init
loop-j-init c = c.loop-k.invariant ∙ ap (zeros c.args.bytes.now c.args.at) (omega arith)

-- two words more
pub loop-j-preserved : goal.loop-j-preserved
loop-j-preserved c =
    let size = 64 * c.loop-k.k + 16 * c.loop-j.j in
    let bytes = c.args.bytes.now in
    let e : c.eight-first.result ≡ number_at 8 bytes (c.args.at + size) = c.eight-first.ensures ∙ ap (number_at 8 bytes) (omega arith) in
    let f : c.eight-second.result ≡ number_at 8 bytes (c.args.at + size + 8) = c.eight-second.ensures ∙ ap (number_at 8 bytes) (omega arith) in
    gathered_two 8 bytes c.args.at size c.loop-j.first c.loop-j.second _ _ e f c.loop-j.invariant
    ∙ ap (zeros bytes c.args.at) (omega arith)

pub loop-k-preserved : goal.loop-k-preserved
loop-k-preserved c = c.loop-j.invariant ∙ ap (zeros c.args.bytes.now c.args.at) (omega arith)

pub returns : goal.returns
returns c =
    or_zero c.loop-k.first c.loop-k.second
    ∙ c.loop-k.invariant
    ∙ ap (λ (k : ℕ). zeros c.args.bytes.now c.args.at (64 * k)) (omega arith)
