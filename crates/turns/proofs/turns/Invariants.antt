-- `turns::turns` meets its contract. The loop's invariant: the blocks read so far, what is left of them, and what the code keeps.
use Rattle.turns.proofs.Going.{Going}
use Rattle.turns.specs.Arrays.{arrays}
use Prim.Native.Nat.{◌-◌}
use Rattle.turns.proofs.turns.Given as goal

abbrev pub invariant-loop-i : goal.invariant-loop-i
invariant-loop-i l = Going l.elapsed l.marks l.n l.s l.start (arrays l.initial.bits l.initial.words l.initial.ticks l.initial.pins) (arrays l.bits l.words l.ticks l.pins) l.own l.asked l.steps l.memory l.at l.i

abbrev pub decreases-loop-i : goal.decreases-loop-i
decreases-loop-i l = l.n - l.i
