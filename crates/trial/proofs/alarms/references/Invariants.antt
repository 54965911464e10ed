-- `trial::alarms::references` meets its contract. The loop's invariant: the word so far, and the weight of what is left, make the whole.
use Rattle.trial.proofs.AlarmWord.{Walk}
use Prim.Native.Nat.{◌-◌}
use Rattle.trial.proofs.alarms.references.Given as goal

abbrev pub invariant-loop : goal.invariant-loop
invariant-loop l = Walk l.bits l.marks l.n l.s l.start l.word l.weight l.at (l.n - l.counter)
