-- What stands at a place of a line as a value (ours; Values says what is good).
use Rattle.std.specs.Prelude.{ℕ, zero, suc, ◌+◌, ◌*◌, ◌-◌, ◌&&◌, List, length, get_or, leb, eqb, Option, None, Some}
use Rattle.terms.specs.Choice.{pick}
use Rattle.wire.specs.Number.{byte_at}
use Rattle.filling.specs.Filling.{decimal}
use Rattle.numbers.specs.Types.{pin, word_pin, limits}
use Rattle.grammar.specs.Machine.{is_digit}
use Rattle.spelling.specs.Spelling.{Digits}
use Rattle.spelling.specs.Spelling.{Got as DigitsGot, Bad as DigitsBad}
use Rattle.spelling.specs.Spelling.{Named}
use Rattle.spelling.specs.Spelling.{Bit, NoName}
use Rattle.spelling.specs.Spelling.{digits_at, name_at}
use Rattle.values.specs.declared.Run.{Run}
use Rattle.values.specs.Values.{minus, letter_a, letter_w, constant_bias, bias_of}

-- a field's number as it is carried and the place behind its text, or no value; and how the code answers it
pub data Value : Type 0 where
  Got : ℕ → ℕ → Value
  Bad : Value

abbrev pub as_value : Value → Option (ℕ × ℕ)
as_value (Got n next) = Some (n, next)
as_value Bad = None

-- how many digits stand from a place on, and their number; c of them, of number n, stand before it, and no more than `left` are looked at
unfoldable pub run_at : ℕ → ℕ → ℕ → List ℕ → ℕ → Run
run_at zero c n s at = record { count = c; number = n }
run_at (suc left) c n s at =
    pick (is_digit (byte_at s at)) (run_at left (c + 1) (10 * n + (byte_at s at - 48)) s (at + 1)) (record { count = c; number = n })

-- digits that are the decimal of a number up to `most`: then the number and the place behind them
unfoldable pub plain_of : ℕ → ℕ → Run → Value
plain_of most at r = pick (eqb r.count (length (decimal r.number)) && leb r.number most) (Got r.number (at + r.count)) Bad

unfoldable pub plain_at : ℕ → List ℕ → ℕ → Value
plain_at most s at = plain_of most at (run_at 6 0 0 s at)

-- what is carried of a decimal: added to the bias, or taken from it; there is no −0
abbrev pub above : ℕ → Value → Value
above bias (Got n next) = Got (bias + n) next
above bias Bad = Bad

abbrev pub below : ℕ → Value → Value
below bias (Got n next) = pick (eqb n 0) Bad (Got (bias - n) next)
below bias Bad = Bad

-- a decimal from −down to up
unfoldable pub signed_at : ℕ → ℕ → ℕ → List ℕ → ℕ → Value
signed_at bias down up s at =
    pick (eqb (byte_at s at) minus) (below bias (plain_at down s (at + 1))) (above bias (plain_at up s at))

-- a word: by its letter, or a constant
abbrev pub analog_of : Digits → Value
analog_of (DigitsGot n next) = Got (n - 1) next
analog_of (DigitsBad at) = Bad

abbrev pub word_of_block : Digits → Value
word_of_block (DigitsGot n next) = Got (n + 8) next
word_of_block (DigitsBad at) = Bad

unfoldable pub word_at : List ℕ → ℕ → Value
word_at s at =
    pick (eqb (byte_at s at) letter_a) (analog_of (digits_at 2 0 1 8 s (at + 1)))
    (pick (eqb (byte_at s at) letter_w) (word_of_block (digits_at 3 0 0 199 s (at + 1)))
    (signed_at constant_bias 32768 32767 s at))

abbrev pub bit_of : Named → Value
bit_of (Bit r next) = Got r next
bit_of (NoName at) = Bad

-- the value at a place, of a field of a type
unfoldable pub value_at : ℕ → List ℕ → ℕ → Value
value_at ty s at =
    pick (eqb ty pin) (bit_of (name_at s at))
    (pick (eqb ty word_pin) (word_at s at)
    (signed_at (bias_of ty) (bias_of ty) (get_or limits ty 0 - 1 - bias_of ty) s at))
