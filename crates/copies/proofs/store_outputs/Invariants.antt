-- `copies::store_outputs` meets its contract: each turn makes the new front longer by one, and what stands behind it stays.
use Rattle.copies.specs.Copies.{over}
use Rattle.terms.specs.Bits.{digit}
use lib.ListN.{drop}
use mathlib.Core.List.{map}
use mathlib.Core.Path.{◌≡◌}
use Rattle.copies.proofs.store_outputs.Given as goal

abbrev pub invariant-loop-i : goal.invariant-loop-i
invariant-loop-i l = l.to ≡ over l.i (map digit (drop 34 l.bits)) l.initial.to
