-- `telling::play` meets its contract. The loop's invariant: so much text is written, and what is left of the window comes to the rest.
use Prim.Native.Nat.{◌-◌}
use mathlib.Core.Path.{◌≡◌}
use lib.ListN.{length, drop}
use Rattle.playback.specs.Playback.{played}
use Rattle.telling.proofs.Turns.{Going}
use Rattle.telling.proofs.play.Given as goal

abbrev pub invariant-loop-a : goal.invariant-loop-a
invariant-loop-a l = (length l.out ≡ length l.initial.out) × Going l.program l.window (played l.program l.initial.state (drop l.start l.window)) l.initial.out l.out l.at l.state l.to

abbrev pub decreases-loop-a : goal.decreases-loop-a
decreases-loop-a l = length l.window - l.at
