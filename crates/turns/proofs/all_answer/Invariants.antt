-- `turns::all_answer` meets its contract: each turn asks one block more.
use Rattle.program.specs.Trial.{all_answer}
use Prim.Native.Nat.{◌≤◌}
use mathlib.Core.Path.{◌≡◌}
use lib.Dec.{eqb}
use Rattle.turns.proofs.all_answer.Given as goal

abbrev pub invariant-loop-i : goal.invariant-loop-i
invariant-loop-i l = (l.silent ≤ l.i) × (eqb l.silent 0 ≡ all_answer l.i l.asked l.own)
