-- `tail::words` meets its contract. The invariant: the words so far, or-ed together, are zero exactly if their bytes are. Assumes nothing.
use Prim.Native.Nat.{ℕ, ◌*◌}
use mathlib.Core.Path.{refl, ap, ◌∙◌}
use native.Mathlib.Omega.{arith}
use Rattle.model.specs.Questions.{zeros}
use Rattle.tail.proofs.Gathered.{gathered}
use Rattle.tail.proofs.words.Goals as goal

pub loop-k-init : goal.loop-k-init
unfolding zeros
loop-k-init c = refl

pub loop-k-preserved : goal.loop-k-preserved
loop-k-preserved c =
    gathered 8 c.args.bytes.now c.args.at (8 * c.loop-k.k) c.loop-k.any _ c.eight-any.ensures c.loop-k.invariant
    ∙ ap (zeros c.args.bytes.now c.args.at) (omega arith)

pub returns : goal.returns
returns c =
    c.loop-k.invariant ∙ ap (λ (k : ℕ). zeros c.args.bytes.now c.args.at (8 * k)) (omega arith)
