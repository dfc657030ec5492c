-- `rules::scenes_are_known` meets its contract: 1 to 16 scenes, of which each is known. Assumes nothing.
use mathlib.Core.Bool.{and-false}
use mathlib.Core.Path.{refl, ◌∙◌}
use native.Mathlib.Omega.{arith}
use borrow.Author.Rules.{rules}
use borrow.Author.Tests.{lt-leb, tests}
use Rattle.std.proofs.lemmas.Iterator.{YieldsList-from_range}
use Rattle.std.proofs.lemmas.Iterator.Search.{all_from_yields_List}
use Rattle.model.specs.Questions.{scene_known, scenes_known, most_scenes}
use Rattle.rules.proofs.Known.{all_known}
use Rattle.rules.proofs.scenes_are_known.Goals as goal

pub returns-in-1-to-16 : goal.returns-in-1-to-16
returns-in-1-to-16 c =
    let q = c.args.query.now in
    all_from_yields_List (scene_known q.firsts q.lasts) _ _ _ c.all.ensures.ran (YieldsList-from_range 0 c.args.count c.args.count refl (omega arith))
    (λ x b p k. search (rules, tests))
    ∙ all_known q.firsts q.lasts c.args.count (omega arith) (omega arith)

pub returns-in_default : goal.returns-in_default
unfolding scenes_known most_scenes
returns-in_default c = rw (lt-leb 1 c.args.count (omega arith))

pub returns-in_default-2 : goal.returns-in_default-2
unfolding scenes_known most_scenes
returns-in_default-2 c = rw (lt-leb c.args.count 16 (omega arith), and-false)
