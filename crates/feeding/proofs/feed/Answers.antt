-- `feeding::feed` meets its contract, by how far the player has come.
use Prim.Native.Nat.{◌≤◌}
use mathlib.Core.Path.{refl, subst}
use lib.ListN.{length, take}
use Rattle.playback.specs.Playback.{playing, fed}
use Rattle.feeding.proofs.Stages.{over_fed, stage_told, left_told, front_of}
use Rattle.telling.specs.Answers.{Held}
use Rattle.telling.specs.declared.Player.{Player}
use Rattle.feeding.proofs.feed.Goals as goal

pub returns-in-Over : goal.returns-in-Over
returns-in-Over c =
    rw (c.in-Over.is, c.ended.ensures) (over_fed _ _ _)

pub returns-in-Playing : goal.returns-in-Playing
unfolding fed
returns-in-Playing c =
    let size = c.in-Playing.size in
    let st = c.in-Playing.state in
    let buffer = c.args.program.now in
    let held : size ≤ length buffer = subst (λ (a : Player). Held a buffer) c.in-Playing.is c.requires.1.0 in
    rw c.in-Playing.is
    (record {
      told = c.play.ensures;
      program = refl;
      stage = stage_told (take size buffer) buffer _ _ (front_of size buffer held) c.play.ensures;
      left = left_told (playing (take size buffer) st) _ c.play.ensures;
    })
