-- `storing::put_each` meets its contract. The loop's invariant: those passed are put.
use Prim.Native.Nat.{◌+◌, ◌*◌, ◌≤◌}
use lib.ListN.{take}
use Rattle.storing.specs.Each.{PutEach}
use Rattle.storing.proofs.put_each.Given as goal

abbrev pub invariant-loop-value : goal.invariant-loop-value
invariant-loop-value g l = (l.p ≤ l.at + 3 * l.value-index) × PutEach (goal.F-post g l.number_of) (take l.value-index l.values) l.initial.out l.at l.out l.p
