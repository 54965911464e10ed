-- Document 01, "Program bytes" and "One scan": the words that numbers of a program carry, and the range of a word.
use Rattle.std.specs.Prelude.{ℕ, ℤ, pos, negsuc, ◌-ℤ◌}
use Rattle.std.specs.Int.Signed.{lt_z}
use Rattle.terms.specs.Choice.{pick}

-- "A setting marked ± is carried as value + 32,768"
abbrev pub signed : ℕ → ℤ
signed n = pos n -ℤ pos 32768

-- "the constant (value − 33,768)"
abbrev pub constant_of : ℕ → ℤ
constant_of n = pos n -ℤ pos 33768

-- "stops at −32768 and 32767"; "held to the word range"
unfoldable pub hold_word : ℤ → ℤ
hold_word z = pick (lt_z z (negsuc 32767)) (negsuc 32767) (pick (lt_z (pos 32767) z) (pos 32767) z)
