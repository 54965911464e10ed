-- Document 01, "Numbers of refusal": 3, by the references of a program that was read.
use Rattle.std.specs.Prelude.{Bool, true, ◌&&◌, List, [], ◌∷◌, ℕ, length, get_or, ltb}
use Rattle.terms.specs.Choice.{every}
use Rattle.numbers.specs.Blocks.{Bit, off, on, input, output, Word, analog, word_of, constant, Block, refs_pass}
use Rattle.kinds.specs.Kinds.{kind_of}
use Rattle.program.specs.Program.{Program}

-- every reference of a block, and of a program, passes its test: `b` tests bit references and `w` words
abbrev pub block_passes : (Bit → Bool) → (Word → Bool) → Block → Bool
block_passes b w x = refs_pass b w x.fields

unfoldable pub all_pass : (Bit → Bool) → (Word → Bool) → Program → Bool
all_pass b w p = every (block_passes b w) p.blocks && every b p.alarms

-- "a reference to a block not in the program", where its blocks are of these kinds
abbrev pub bit_there : List ℕ → Bit → Bool
bit_there ks off = true
bit_there ks on = true
bit_there ks (input i) = true
bit_there ks (output i) = ltb i (length ks)

-- "or to the word of a kind without one"
abbrev pub word_there : List ℕ → Word → Bool
word_there ks (analog i) = true
word_there ks (word_of i) = ltb i (length ks) && (kind_of (get_or ks i 0)).has_word
word_there ks (constant n) = true

abbrev pub kinds_of : List Block → List ℕ
kinds_of [] = []
kinds_of (b ∷ bs) = b.kind ∷ kinds_of bs

-- no reference of the program is astray
unfoldable pub all_there : Program → Bool
all_there p = all_pass (bit_there (kinds_of p.blocks)) (word_there (kinds_of p.blocks)) p
