-- Bits and the numbers that are made of them.
use Rattle.std.specs.Prelude.{Bool, List, [], ◌∷◌, ℕ, ◌+◌, ◌*◌, ◌/◌, ◌%◌, ◌^◌, eqb}
use Rattle.terms.specs.Choice.{pick}

-- 1 for on, 0 for off
abbrev pub digit : Bool → ℕ
digit b = pick b 1 0

-- bit k of a word
abbrev pub bit_of : ℕ → ℕ → Bool
bit_of word k = eqb (word / 2 ^ k % 2) 1

-- bits as one number, "first lowest": the last pins of a block, the alarm word
abbrev pub packed : List Bool → ℕ
packed [] = 0
packed (b ∷ bs) = digit b + 2 * packed bs
