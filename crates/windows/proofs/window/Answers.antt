-- `windows::window` meets its contract, rule by rule. Assumes nothing.
use Prim.Native.Nat.{◌<◌}
use mathlib.Core.Logic.{inl, inr}
use mathlib.Core.Path.{sym, ◌∙◌}
use native.Mathlib.Omega.{arith}
use Rattle.model.specs.Windows.{scene, window_at}
use Rattle.windows.proofs.Rules.{some_frames, beat_count_lem, beat_at, few_scenes, scene_count, scene_at}
use Rattle.windows.proofs.window.Goals as goal
use Rattle.windows.proofs.window.Goals.{In-Scenes}

-- there is a place for the scene
place : (c : In-Scenes) → c.args.i < 16
place c =
    let q = c.args.query.now in
    let e = c.in-Scenes.is in
    omega (arith, few_scenes q _ e c.requires.0, scene_count q _ e, c.requires.1)

pub beat-requires : goal.beat-requires
beat-requires c =
    let q = c.args.query.now in
    let e = c.in-Every.is in
    (some_frames q _ _ e c.requires.0, omega (arith, c.requires.1, beat_count_lem q _ _ e))

pub offset_bounds-query-i : goal.offset_bounds-query-i
offset_bounds-query-i c = omega (arith, place c)

pub bounds-query-i : goal.bounds-query-i
bounds-query-i c = place (goal.at.bounds-query-i c).In-Scenes

pub offset_bounds-query-i-in-Scenes : goal.offset_bounds-query-i-in-Scenes
offset_bounds-query-i-in-Scenes c = omega (arith, place (goal.at.offset_bounds-query-i-in-Scenes c).In-Scenes)

pub bounds-query-i-in-Scenes : goal.bounds-query-i-in-Scenes
bounds-query-i-in-Scenes c = place (goal.at.bounds-query-i-in-Scenes c).In-Scenes

pub returns-in-Rows : goal.returns-in-Rows
unfolding window_at scene
returns-in-Rows c = elim c.in-Rows.is [ inl p ↦ rw (p.1, window_at) | inr p ↦ rw (p.1, window_at) ]

pub returns-in-Every : goal.returns-in-Every
returns-in-Every c = c.beat.ensures ∙ sym (beat_at c.args.query.now _ _ c.in-Every.is c.args.i)

pub returns-in-Scenes : goal.returns-in-Scenes
unfolding scene
returns-in-Scenes c = sym (scene_at c.args.query.now _ c.in-Scenes.is c.args.i)
