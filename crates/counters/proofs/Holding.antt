-- A number saturated to 16 bits is held to the word range.
use mathlib.Core.Path.{◌≡◌}
use native.Mathlib.Omega.{arith}
use lib.IntN.{ℤ, pos, negsuc}
use Rattle.std.specs.Int.{saturate_to_bits}
use Rattle.terms.specs.Words.{hold_word}

pub saturated : (z : ℤ) → saturate_to_bits 15 z ≡ hold_word z
unfolding hold_word
saturated (pos n) = grind arith
saturated (negsuc n) = grind arith
