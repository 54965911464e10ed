-- Request L4, "Whole programs as a listing": how the value of a field is written. Each value has one text.
use Rattle.std.specs.Prelude.{ℕ, ◌+◌, ◌-◌, Bool, not, ◌&&◌, ◌||◌, List, ◌∷◌, get_or, ltb, leb, eqb}
use Rattle.terms.specs.Choice.{pick}
use Rattle.filling.specs.Filling.{decimal}
use Rattle.numbers.specs.Blocks.{Word, analog, word_of, constant}
use Rattle.numbers.specs.Types.{pin, word_pin, plus_minus, divisor, limits, bit_ref, word_ref}
use Rattle.shown.specs.Show.{in_digits, name_of}

-- the bytes, in ASCII: - A W
abbrev pub minus : ℕ
minus = 45

abbrev pub letter_a : ℕ
letter_a = 65

abbrev pub letter_w : ℕ
letter_w = 87

-- "Constants are signed decimals": of a number that is carried as value + bias
unfoldable pub signed : ℕ → ℕ → List ℕ
signed bias v = pick (ltb v bias) (minus ∷ decimal (bias - v)) (decimal (v - bias))

-- 01: "1,000..66,535 the constant (value − 33,768)"
abbrev pub constant_bias : ℕ
constant_bias = 33768

-- "analog words A01..A08, and W000..W199 is the word of a block"
unfoldable pub word_name : Word → List ℕ
word_name (analog i) = letter_a ∷ in_digits 2 (i + 1)
word_name (word_of k) = letter_w ∷ in_digits 3 k
word_name (constant n) = signed constant_bias n

-- 01: "A setting marked ± is carried as value + 32,768"; any other as it is
unfoldable pub bias_of : ℕ → ℕ
bias_of ty = pick (eqb ty plus_minus || eqb ty divisor) 32768 0

-- the text of the number v in a field of a type
unfoldable pub value_text : ℕ → ℕ → List ℕ
value_text ty v = pick (eqb ty pin) (name_of (bit_ref v)) (pick (eqb ty word_pin) (word_name (word_ref v)) (signed (bias_of ty) v))

-- "a decimal outside its field's range" is none: the numbers that have a text in a field of a type. B = 0 of OG has one, and so have two times of 0 of
-- FL: 01 refuses them by itself.
unfoldable pub in_field : ℕ → ℕ → Bool
in_field ty v = ltb v (get_or limits ty 0) && not (eqb ty word_pin && (leb 208 v && ltb v 1000))
