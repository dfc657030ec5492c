-- `layout::store` meets its contract. Assumes nothing.
use mathlib.Core.Path.{◌≡◌, sym, ◌∙◌}
use borrow.Author.Rules.{rules}
use lib.ListN.{length}
use Rattle.layout.proofs.store.Goals as goal

pub returns : goal.returns
returns c =
    let a = c.args in
    let size : length a.bytes ≡ 768 = sym (search rules) in
    c.copy.ensures ∙ rw size
