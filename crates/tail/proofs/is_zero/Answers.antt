-- `tail::is_zero` meets its contract: the blocks, the words behind them and the odd bytes are all there is. Assumes nothing.
use mathlib.Core.Bool.{Bool, ◌&&◌}
use mathlib.Core.Path.{sym, ap, ap₂, ◌∙◌}
use native.Mathlib.Omega.{arith}
use Rattle.model.specs.Questions.{zeros}
use Rattle.tail.proofs.Gathered.{or_zero, zeros_listed, zeros_parts}
use Rattle.tail.proofs.is_zero.Goals as goal

pub returns : goal.returns
returns c =
    let a = c.args in
    ap₂ {C = Bool} ◌&&◌
    (or_zero c.blocks-2.result c.words.result ∙ ap₂ {C = Bool} ◌&&◌ c.blocks-2.ensures c.words.ensures)
    (c.singly.ensures ∙ zeros_listed _ a.bytes.now _ (omega arith) ∙ ap (zeros a.bytes.now _) (omega arith))
    ∙ sym (zeros_parts _ _ a.bytes.now a.from a.to (omega arith))
