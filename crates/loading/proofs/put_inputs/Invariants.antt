-- `loading::put_inputs` meets its contract: behind off and on, each turn makes the new front longer by one input bit.
use Rattle.copies.specs.Copies.{over}
use Rattle.loading.specs.Inputs.{input_bits}
use Prim.Native.Nat.{◌+◌}
use mathlib.Core.Path.{◌≡◌}
use Rattle.loading.proofs.put_inputs.Given as goal

abbrev pub invariant-loop-i : goal.invariant-loop-i
invariant-loop-i l = l.to ≡ over (l.i + 2) (input_bits l.bits) l.initial.to
