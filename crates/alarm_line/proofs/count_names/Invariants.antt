-- `alarm_line::count_names` meets its contract. The loop's invariant: what is counted and what is found from here on make the whole.
use Rattle.alarm_line.proofs.Counting.{Going}
use Rattle.alarm_line.proofs.count_names.Given as goal

abbrev pub invariant-loop-n : goal.invariant-loop-n
invariant-loop-n l = Going l.line l.at l.p l.n
