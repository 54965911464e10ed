-- `spelling::skip_spaces` meets its contract. The loop's invariant: the spaces from here on end where those from the start do.
use Prim.Native.Nat.{◌-◌}
use mathlib.Core.Path.{◌≡◌}
use lib.ListN.{length}
use Rattle.spelling.specs.Spelling.{after_spaces}
use Rattle.spelling.proofs.skip_spaces.Given as goal

abbrev pub invariant-loop-p : goal.invariant-loop-p
invariant-loop-p l = after_spaces l.text l.p ≡ after_spaces l.text l.at

abbrev pub decreases-loop-p : goal.decreases-loop-p
decreases-loop-p l = length l.text - l.p
