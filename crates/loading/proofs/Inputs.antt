-- Off, on and the input bits: how many they are, and what stands where. Assumes nothing.
use mathlib.Core.Path.{◌≡◌, refl, ap}
use mathlib.Core.Bool.{Bool, true, false}
use mathlib.Core.List.{List, [], ◌∷◌}
use Prim.Native.Nat.{ℕ, suc, ◌+◌, ◌≤◌, ◌<◌}
use native.Mathlib.Nat.{zero-add}
use native.Mathlib.Omega.{arith}
use lib.ListN.{length, get_or, set}
use Rattle.terms.specs.Bits.{bit_of}
use Rattle.image.proofs.Listed.{listed_long, listed_at}
use Rattle.copies.specs.Copies.{over}
use Rattle.loading.specs.Inputs.{input_bits}

pub inputs_length : (bits : ℕ) → length (input_bits bits) ≡ 34
unfolding input_bits
inputs_length bits = ap (λ (n : ℕ). suc (suc n)) (listed_long 32 0 (bit_of bits))

pub input_at : (bits i : ℕ) → i < 32 → get_or (input_bits bits) (i + 2) false ≡ bit_of bits i
unfolding input_bits
input_at bits i h =
    let e : i + 2 ≡ suc (suc i) = omega arith in
    rw (e, listed_at 32 0 (bit_of bits) i false h, zero-add i)

-- off and on, put first
pub off_and_on : (bits : ℕ) (l : List Bool) → 2 ≤ length l → set (set l 0 false) 1 true ≡ over 2 (input_bits bits) (set (set l 0 false) 1 true)
unfolding input_bits
off_and_on bits [] h = absurd (omega arith)
off_and_on bits (x ∷ []) h = absurd (omega arith)
off_and_on bits (x ∷ y ∷ l) h = refl
