-- `storing::put_number` meets its contract. The loop's invariant: the groups that are left make the whole.
use Prim.Native.Nat.{◌+◌, ◌-◌}
use Rattle.wire.specs.Number.{groups_of}
use Rattle.storing.proofs.Rest.{Rest}
use Rattle.storing.proofs.put_number.Given as goal

abbrev pub invariant-loop-i : goal.invariant-loop-i
invariant-loop-i l = Rest (groups_of (3 - l.i) l.left) l.out (l.at + l.i) (groups_of 3 l.v) l.initial.out l.at
