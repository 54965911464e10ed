-- `loading::load_bits` meets its contract: behind the inputs, each turn makes the new front longer by one output.
use Rattle.image.specs.Image.{is_on}
use Rattle.copies.specs.Copies.{over}
use lib.ListN.{take, drop}
use mathlib.Core.List.{◌++◌, map}
use mathlib.Core.Path.{◌≡◌}
use Rattle.loading.proofs.load_bits.Given as goal

abbrev pub invariant-loop-i : goal.invariant-loop-i
invariant-loop-i l = l.to ≡ take 34 l.initial.to ++ over l.i (map is_on l.outputs) (drop 34 l.initial.to)
