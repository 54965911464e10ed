-- What bit references below the outputs read as (ours): off, on and the inputs, in an array.
use Rattle.std.specs.Prelude.{Bool, true, false, List, ◌∷◌, ℕ}
use Rattle.terms.specs.Bits.{bit_of}
use Rattle.image.specs.Image.{listed}

-- off, on and the input bits: what bit references below 34 read as, in the order of their numbers
unfoldable pub input_bits : ℕ → List Bool
input_bits bits = false ∷ true ∷ listed 32 0 (bit_of bits)
