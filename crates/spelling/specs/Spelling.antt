-- Request L1: what stands at a place of a formula's text: spaces, a name, an operator between the items of a list. Ours; the grammar says what is good.
use Rattle.std.specs.Prelude.{ℕ, zero, suc, ◌+◌, ◌*◌, ◌-◌, List, [], ◌∷◌, ◌&&◌, drop, eqb, Option, None, Some, Result, Ok, Err}
use Rattle.terms.specs.Choice.{pick}
use Rattle.wire.specs.Number.{byte_at}
use Rattle.grammar.specs.Grammar.{space, bang, ampersand, letter_b, letter_i, caret, bar, digit, Level, or_list, xor_list, and_list, part}
use Rattle.grammar.specs.Machine.{may_be, is_digit}

-- how many spaces a text begins with, and the place behind those from a place on
abbrev pub leading : List ℕ → ℕ
leading [] = 0
leading (x ∷ xs) = pick (eqb x space) (suc (leading xs)) 0

unfoldable pub after_spaces : List ℕ → ℕ → ℕ
after_spaces s at = at + leading (drop at s)

-- a number and the place behind it, or the first place that no such number has; and how the code answers it
pub data Digits : Type 0 where
  Got : ℕ → ℕ → Digits
  Bad : ℕ → Digits

abbrev pub as_digits : Digits → Result (ℕ × ℕ) ℕ
as_digits (Got n next) = Ok (n, next)
as_digits (Bad at) = Err at

-- a number that is n so far, with k digits to come from a place on, which is from `least` to `most` in the end; or the place where it cannot be
unfoldable pub digits_at : ℕ → ℕ → ℕ → ℕ → List ℕ → ℕ → Digits
digits_at zero n least most s at = Got n at
digits_at (suc k) n least most s at =
    pick (is_digit (byte_at s at) && may_be least most k (10 * n + (byte_at s at - 48)))
    (digits_at k (10 * n + (byte_at s at - 48)) least most s (at + 1))
    (Bad at)

-- a bit reference and the place behind its name, or the first place that no name has; and how the code answers it
pub data Named : Type 0 where
  Bit : ℕ → ℕ → Named
  NoName : ℕ → Named

abbrev pub as_named : Named → Result (ℕ × ℕ) ℕ
as_named (Bit r next) = Ok (r, next)
as_named (NoName at) = Err at

-- the bit reference of a name whose number is n, where that of number 0 would be `base`
abbrev pub named : ℕ → Digits → Named
named base (Got n next) = Bit (base + n) next
named base (Bad at) = NoName at

-- "Names are I01..I32 (I01 is input bit 0), B000..B199, `0`, `1`."; input bit 0 is reference 2, block 0 is reference 34
unfoldable pub name_at : List ℕ → ℕ → Named
name_at s at =
    pick (eqb (byte_at s at) (digit 0)) (Bit 0 (at + 1))
    (pick (eqb (byte_at s at) (digit 1)) (Bit 1 (at + 1))
    (pick (eqb (byte_at s at) letter_i) (named 1 (digits_at 2 0 1 32 s (at + 1)))
    (pick (eqb (byte_at s at) letter_b) (named 34 (digits_at 3 0 0 199 s (at + 1)))
    (NoName at))))

-- the levels by number, as the code has them, and back
abbrev pub number_of : Level → ℕ
number_of or_list = 0
number_of xor_list = 1
number_of and_list = 2
number_of part = 3

abbrev pub level_of : ℕ → Level
level_of zero = or_list
level_of (suc zero) = xor_list
level_of (suc (suc zero)) = and_list
level_of (suc (suc (suc n))) = part

-- an operator of two parts and the place behind it; nothing of the level; or the place behind a `!` where neither `&` nor `|` stands. And how the code
-- answers it
pub data Sign : Type 0 where
  Of : ℕ → ℕ → Sign
  Nothing : Sign
  Broken : ℕ → Sign

abbrev pub as_sign : Sign → Result (Option (ℕ × ℕ)) ℕ
as_sign (Of o next) = Ok (Some (o, next))
as_sign Nothing = Ok None
as_sign (Broken at) = Err at

-- an operator of one level where one of another is looked for
abbrev pub of_level : ℕ → ℕ → ℕ → ℕ → Sign
of_level level its o next = pick (eqb level its) (Of o next) Nothing

-- after a part, `!` begins `!&` or `!|`
unfoldable pub banged_at : ℕ → List ℕ → ℕ → Sign
banged_at level s at =
    pick (eqb (byte_at s at) ampersand) (of_level level (number_of and_list) 4 (at + 1))
    (pick (eqb (byte_at s at) bar) (of_level level (number_of or_list) 5 (at + 1))
    (Broken at))

-- the operator of a level at a place; nothing of that level; or a `!` with neither `&` nor `|` behind it
unfoldable pub sign_at : ℕ → List ℕ → ℕ → Sign
sign_at level s at =
    pick (eqb (byte_at s at) ampersand) (of_level level (number_of and_list) 1 (at + 1))
    (pick (eqb (byte_at s at) caret) (of_level level (number_of xor_list) 3 (at + 1))
    (pick (eqb (byte_at s at) bar) (of_level level (number_of or_list) 2 (at + 1))
    (pick (eqb (byte_at s at) bang) (banged_at level s (at + 1))
    Nothing)))
