-- Two numbers of 32 bits are the same exactly if their bits are.
use mathlib.Core.Path.{◌≡◌}
use native.Mathlib.Omega.{arith}
use lib.Dec.{eqb}
use lib.IntN.{ℤ}
use mir.Syntax.{w32}
use mir.Val.{SFits, of_z}
use Rattle.std.proofs.lemmas.Grind.{common_steps}
use Rattle.analog.specs.Analog.{same}

pub same_bits : (a b : ℤ) → SFits w32 a → SFits w32 b → eqb (of_z w32 a) (of_z w32 b) ≡ same a b
unfolding same
same_bits a b f g = grind (arith, common_steps)
