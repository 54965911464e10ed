-- `lining::find_kind` meets its contract. The loop's invariant: the first kind from k on is the first of all.
use Prim.Native.Nat.{◌-◌}
use mathlib.Core.Path.{◌≡◌}
use Rattle.numbers.specs.Types.{kind_count}
use Rattle.layout.specs.Heads.{kind_from, kind_at}
use Rattle.lining.proofs.find_kind.Given as goal

abbrev pub invariant-loop-k : goal.invariant-loop-k
invariant-loop-k l = kind_from (kind_count - l.k) l.k l.line l.at ≡ kind_at l.line l.at
