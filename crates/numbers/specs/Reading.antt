-- Document 01, "Numbers of refusal": what stands at a number of a program.
use Rattle.std.specs.Prelude.{List, [], ◌∷◌, Bool, true, not, ℕ, get_or, eqb}
use Rattle.terms.specs.Choice.{pick}
use Rattle.terms.specs.Refusals.{bad_number, cut_number, outside, astray}
use Rattle.wire.specs.Number.{Num, Got, Bad, Cut}
use Rattle.wire.specs.Number.{number_at}
use Rattle.wire.specs.Reading.{Read, got, fault}
use Rattle.numbers.specs.Blocks.{Bit, off, on, input, output, Word, analog, word_of, constant, refs_pass}
use Rattle.numbers.specs.Types.{allowed, said_by}

-- "Only after the whole is read come 3": the program is read once with every reference let through, and then again by the marks of its blocks.
-- A block's mark is 0, not in the program; 1, in it; 2, in it and of a kind with a word.
abbrev pub Marks : Type 0
Marks = List ℕ

abbrev pub bit_marked : Marks → Bit → Bool
bit_marked m off = true
bit_marked m on = true
bit_marked m (input i) = true
bit_marked m (output i) = not (eqb (get_or m i 0) 0)

abbrev pub word_marked : Marks → Word → Bool
word_marked m (analog i) = true
word_marked m (word_of i) = eqb (get_or m i 0) 2
word_marked m (constant n) = true

-- whether what a number of a type refers to is marked
unfoldable pub marked : Marks → ℕ → ℕ → Bool
marked m ty v = refs_pass (bit_marked m) (word_marked m) (said_by ty v ∷ [])

-- "1 before 2 at one number", L2: "8 stands where 1 stood", and 3 last; "the place is the offset of the number's first byte"
abbrev pub judged : Marks → ℕ → ℕ → ℕ → Num → Read ℕ
judged m ty before at Bad = fault bad_number at
judged m ty before at Cut = fault cut_number at
judged m ty before at (Got v next) =
    pick (allowed ty before v)
    (pick (marked m ty v) (got v next) (fault astray at))
    (fault outside at)

-- the number of a type at a place, after the setting `before`
unfoldable pub typed_at : Marks → ℕ → ℕ → List ℕ → ℕ → Read ℕ
typed_at m ty before s at = judged m ty before at (number_at s at)
