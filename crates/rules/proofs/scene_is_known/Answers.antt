-- `rules::scene_is_known` meets its contract, of the first scene and of a later one. Assumes nothing.
use native.Mathlib.Omega.{arith}
use Rattle.rules.proofs.Known.{first_scene, later_scene}
use Rattle.rules.proofs.scene_is_known.Goals as goal

pub returns-then-i-eq0 : goal.returns-then-i-eq0
returns-then-i-eq0 c = first_scene c.args.query.now.firsts c.args.query.now.lasts c.args.i (omega arith) c.if-i-eq0.true

pub returns : goal.returns
returns c = later_scene c.args.query.now.firsts c.args.query.now.lasts c.args.i (omega arith) c.if-i-eq0.false
