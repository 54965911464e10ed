-- Document 01, "Program bytes": the numbers that a program may hold, by their types, and what each says.
use Rattle.std.specs.Prelude.{List, [], ◌∷◌, Bool, false, not, ◌&&◌, ℕ, ◌-◌, get_or, ltb, leb, eqb}
use Rattle.terms.specs.Choice.{pick}
use Rattle.numbers.specs.Blocks.{Bit, off, on, input, output, Word, analog, word_of, constant, Content, bit, word, number, tree}

-- The types of number in a program; which number stands for which type is ours.
-- a bit reference
abbrev pub pin : ℕ
pin = 0

-- a word reference
abbrev pub word_pin : ℕ
word_pin = 1

-- "A setting marked ± is carried as value + 32,768 in 0..65,535."
abbrev pub plus_minus : ℕ
plus_minus = 2

-- "Times and the CN preset: 0..32,767."
abbrev pub time : ℕ
time = 3

-- "Unit: 0, 1, 2 for 1, 10, 100 ticks."
abbrev pub unit : ℕ
unit = 4

-- priority or mode, 0/1
abbrev pub either_way : ℕ
either_way = 5

-- relation 0..5
abbrev pub relation : ℕ
relation = 6

-- "OG with B = 0 (at B)": ± but not 0
abbrev pub divisor : ℕ
divisor = 7

-- "FL with on and off both 0 (at off)": a time, not 0 after an on time of 0
abbrev pub off_time : ℕ
off_time = 8

-- "block count (1..200)"
abbrev pub block_count : ℕ
block_count = 9

-- a kind of the table of kinds
abbrev pub kind_number : ℕ
kind_number = 10

-- "alarm count (0..32)"
abbrev pub alarm_count : ℕ
alarm_count = 11

-- a node of an expression: an operator 0..5, or 6 + a bit reference
abbrev pub node_number : ℕ
node_number = 12

-- how many types of number there are
abbrev pub number_types : ℕ
number_types = 13

-- how many kinds of block there are
abbrev pub kind_count : ℕ
kind_count = 13

-- each type's numbers are below this, in the order of the types
abbrev pub limits : List ℕ
limits = 234 ∷ 66536 ∷ 65536 ∷ 32768 ∷ 3 ∷ 2 ∷ 6 ∷ 65536 ∷ 32768 ∷ 201 ∷ kind_count ∷ 33 ∷ 240 ∷ []

-- the exceptions: the gap 208..999 of a word reference, and the numbers that are not allowed; `before` is the setting before
unfoldable pub excepted : ℕ → ℕ → ℕ → Bool
excepted ty before v =
    pick (eqb ty word_pin) (leb 208 v && ltb v 1000)
    (pick (eqb ty divisor) (eqb v 32768)
    (pick (eqb ty off_time) (eqb before 0 && eqb v 0)
    (pick (eqb ty block_count) (eqb v 0)
    false)))

-- whether v may stand as a number of type ty after the setting `before`
unfoldable pub allowed : ℕ → ℕ → ℕ → Bool
allowed ty before v = ltb v (get_or limits ty 0) && not (excepted ty before v)

-- what a number says as a bit reference, as a word reference, in a field of a type
unfoldable pub bit_ref : ℕ → Bit
bit_ref r = pick (eqb r 0) off (pick (eqb r 1) on (pick (ltb r 34) (input (r - 2)) (output (r - 34))))

unfoldable pub word_ref : ℕ → Word
word_ref r = pick (ltb r 8) (analog r) (pick (ltb r 208) (word_of (r - 8)) (constant r))

unfoldable pub content_of : ℕ → ℕ → Content
content_of ty v = pick (eqb ty pin) (bit (bit_ref v)) (pick (eqb ty word_pin) (word (word_ref v)) (number v))

-- what a number of a type says by itself: a node of 6 or more is a bit reference
unfoldable pub said_by : ℕ → ℕ → Content
said_by ty v = pick (eqb ty node_number) (pick (ltb v 6) (number v) (bit (bit_ref (v - 6)))) (content_of ty v)

-- what a field is to the next as the setting before it: a reference or an expression is 0, so that a renumbered one is the same
abbrev pub setting_of : Content → ℕ
setting_of (bit b) = 0
setting_of (word w) = 0
setting_of (number n) = n
setting_of (tree t) = 0
