-- `gathering::gather` meets its contract: each turn reads one line, and the reading ends at the alarms or at a bad line.
use Prim.Native.Nat.{◌-◌}
use lib.ListN.{length}
use Rattle.gathering.proofs.Gathers.{Turn}
use Rattle.gathering.proofs.gather.Given as goal

abbrev pub invariant-loop-line : goal.invariant-loop-line
invariant-loop-line l = Turn l.text l.room l.at l.i l.to l.kept

abbrev pub decreases-loop-line : goal.decreases-loop-line
decreases-loop-line l = length l.text - l.at
