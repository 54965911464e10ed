-- `alarm_line::put_names` meets its contract. The loop's invariant: what is left to put makes the whole.
use Prim.Native.Nat.{◌-◌}
use Rattle.alarm_line.proofs.Putting.{Going}
use Rattle.alarm_line.proofs.put_names.Given as goal

abbrev pub invariant-loop-i : goal.invariant-loop-i
invariant-loop-i l = Going l.line l.at l.count l.initial.out l.to l.out l.p l.q (l.count - l._i)
