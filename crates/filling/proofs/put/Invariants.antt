-- `filling::put` meets its contract. The loop's invariant: what is left of the text, put after what is put already, is the whole.
use mathlib.Core.Path.{◌≡◌}
use Prim.Native.Nat.{◌+◌}
use lib.ListN.{drop}
use lib.Seq.{sets}
use Rattle.filling.proofs.put.Given as goal

abbrev pub invariant-loop-i : goal.invariant-loop-i
invariant-loop-i l = sets l.initial.out l.at l.text ≡ sets l.out (l.at + l.i) (drop l.i l.text)
