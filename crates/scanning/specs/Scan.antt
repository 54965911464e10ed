-- Document 01, "One scan".
use Rattle.std.specs.Prelude.{Bool, true, false, List, map, ℕ, zero, suc, ◌+◌, ℤ, pos, get_or, set}
use Rattle.numbers.specs.Blocks.{Bit, off, on, input, output, Word, analog, word_of, constant, Block, block_of}
use Rattle.place.specs.declared.Place.{Place}
use Rattle.place.specs.Places.{fresh_place}
use Rattle.terms.specs.Bits.{packed, bit_of}
use Rattle.terms.specs.Words.{constant_of}
use Rattle.rules.specs.Rules.{ruled, steps_of}

-- "a 16-bit elapsed, one 32-bit number, an array of eight 16-bit words"
pub record Inputs : Type 0 where
  pub elapsed : ℕ
  pub bits : ℕ
  pub words : List ℤ

-- the same, from the parameters of a call
abbrev pub inputs : ℕ → ℕ → List ℤ → Inputs
inputs e bits words = record { elapsed = e; bits = bits; words = words }

abbrev pub input_bit : Inputs → ℕ → Bool
input_bit x i = bit_of x.bits i

abbrev pub place_of : List Place → ℕ → Place
place_of ps k = get_or ps k fresh_place

-- what references read as, with the places as they stand
abbrev pub read_bit : Inputs → List Place → Bit → Bool
read_bit x ps off = false
read_bit x ps on = true
read_bit x ps (input i) = input_bit x i
read_bit x ps (output k) = (place_of ps k).out

abbrev pub read_word : Inputs → List Place → Word → ℤ
read_word x ps (analog i) = get_or x.words i (pos 0)
read_word x ps (word_of k) = (place_of ps k).word
read_word x ps (constant n) = constant_of n

-- "Blocks run in ascending number. A reference to a lower block reads this scan's output or word, to itself or a higher one the last scan's."
-- The places after the first n blocks: block n then reads this scan's places below it, and the last scan's from itself on.
unfoldable pub scan_to : Inputs → List Block → ℕ → List Place → List Place
scan_to x bs zero ps = ps
scan_to x bs (suc n) ps =
    let qs = scan_to x bs n ps in
    set qs n (ruled (read_bit x qs) (read_word x qs) x.elapsed (block_of bs n) (place_of qs n))

-- the steps of the first n blocks
unfoldable pub steps_to : Inputs → List Block → ℕ → List Place → ℕ
steps_to x bs zero ps = 0
steps_to x bs (suc n) ps = steps_to x bs n ps + steps_of (read_bit x (scan_to x bs n ps)) (block_of bs n).fields

-- "the alarm references are read, giving the alarm word (bits at and above the alarm count are zero)"
unfoldable pub alarm_word : Inputs → List Place → List Bit → ℕ
alarm_word x ps rs = packed (map (read_bit x ps) rs)
