-- `windows::count_windows` meets its contract, rule by rule. Assumes nothing.
use mathlib.Core.Logic.{inl, inr}
use mathlib.Core.Path.{sym, ◌∙◌}
use Rattle.model.specs.Windows.{window_count}
use Rattle.windows.proofs.Rules.{some_frames, beat_count_lem, scene_count}
use Rattle.windows.proofs.count_windows.Goals as goal

pub count_beats-requires : goal.count_beats-requires
count_beats-requires c = some_frames c.args.query.now _ _ c.in-Every.is c.requires

pub returns-in-Rows : goal.returns-in-Rows
unfolding window_count
returns-in-Rows c = elim c.in-Rows.is [ inl p ↦ rw p.1 | inr p ↦ rw p.1 ]

pub returns-in-Every : goal.returns-in-Every
returns-in-Every c = c.count_beats.ensures ∙ sym (beat_count_lem c.args.query.now _ _ c.in-Every.is)

pub returns-in-Scenes : goal.returns-in-Scenes
returns-in-Scenes c = sym (scene_count c.args.query.now _ c.in-Scenes.is)
