-- Which blocks are asked for their words: what a reading that cannot look ahead keeps for refusal 3 (ours).
use Rattle.std.specs.Prelude.{List, [], ◌∷◌, ℕ, set}
use Rattle.numbers.specs.Blocks.{Word, analog, word_of, constant, Content, word_refs}

-- a list with 1 at the number of each block that was asked for its word, after these references too
abbrev pub asks : List Word → List ℕ → List ℕ
asks [] l = l
asks (analog i ∷ ws) l = asks ws l
asks (word_of i ∷ ws) l = asks ws (set l i 1)
asks (constant n ∷ ws) l = asks ws l

-- after those of some fields
abbrev pub asking : List Content → List ℕ → List ℕ
asking cs l = asks (word_refs cs) l
