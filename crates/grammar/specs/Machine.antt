-- Ours, and part of no promise: an acceptor of the same texts, byte by byte. The places of bad bytes are found through it.
use Rattle.std.specs.Prelude.{ℕ, zero, suc, ◌+◌, ◌*◌, ◌-◌, ◌≡◌, List, [], ◌∷◌, Bool, ◌&&◌, length, drop, ltb, leb, eqb}
use Rattle.terms.specs.Choice.{pick}
use Rattle.wire.specs.Facts.{Stands}
use Rattle.grammar.specs.Grammar.{space, bang, ampersand, opening, closing, letter_b, letter_i, caret, bar, digit, most_open}

-- inside d parentheses: a part is wanted; one is had; a `!` stands behind one; or in a name, where more digits are to come than `left`, of a number
-- that is n so far and may be from `least` to `most`
pub data State : Type 0 where
  want had banged : ℕ → State
  digits : (left n least most d : ℕ) → State
  dead : State

-- how many numbers have k digits
unfoldable pub tens : ℕ → ℕ
tens zero = 1
tens (suc k) = 10 * tens k

-- a number that is n so far, with k digits to come, may still be from `least` to `most`
unfoldable pub may_be : ℕ → ℕ → ℕ → ℕ → Bool
may_be least most k n = leb (n * tens k) most && ltb least (n * tens k + tens k)

unfoldable pub is_digit : ℕ → Bool
is_digit x = leb (digit 0) x && leb x (digit 9)

-- k digits are to come, and then a name is had
unfoldable pub to_come : ℕ → ℕ → ℕ → ℕ → ℕ → State
to_come zero n least most d = had d
to_come (suc k) n least most d = digits k n least most d

unfoldable pub in_number : ℕ → ℕ → ℕ → ℕ → ℕ → ℕ → State
in_number k n least most d x =
    pick (is_digit x && may_be least most k (10 * n + (x - 48))) (to_come k (10 * n + (x - 48)) least most d) dead

unfoldable pub closes : ℕ → State
closes zero = dead
closes (suc d) = had d

unfoldable pub step : State → ℕ → State
step (want d) x =
    pick (eqb x space) (want d)
    (pick (eqb x bang) (want d)
    (pick (eqb x opening) (pick (ltb d most_open) (want (suc d)) dead)
    (pick (eqb x (digit 0)) (had d)
    (pick (eqb x (digit 1)) (had d)
    (pick (eqb x letter_i) (to_come 2 0 1 32 d)
    (pick (eqb x letter_b) (to_come 3 0 0 199 d)
    dead))))))
step (had d) x =
    pick (eqb x space) (had d)
    (pick (eqb x bang) (banged d)
    (pick (eqb x ampersand) (want d)
    (pick (eqb x caret) (want d)
    (pick (eqb x bar) (want d)
    (pick (eqb x closing) (closes d)
    dead)))))
step (banged d) x = pick (eqb x ampersand) (want d) (pick (eqb x bar) (want d) dead)
step (digits k n least most d) x = in_number k n least most d x
step dead x = dead

-- the whole text is passed over, or it stops at a place
pub data Seen : Type 0 where
  whole : Seen
  stop : ℕ → Seen

abbrev pub ended : State → ℕ → Seen
ended (want d) at = stop at
ended (had zero) at = whole
ended (had (suc d)) at = stop at
ended (banged d) at = stop at
ended (digits k n least most d) at = stop at
ended dead at = stop at

abbrev pub alive : State → ℕ → Seen → Seen
alive (want d) at r = r
alive (had d) at r = r
alive (banged d) at r = r
alive (digits k n least most d) at r = r
alive dead at r = stop at

unfoldable pub scan : State → ℕ → List ℕ → Seen
scan st at [] = ended st at
scan st at (x ∷ xs) = alive (step st x) at (scan (step st x) (at + 1) xs)

-- what becomes of a text from a place on
unfoldable pub from : List ℕ → State → ℕ → Seen
from s st at = scan st at (drop at s)

-- the text w stands in s from a place up to another
pub record Spans (s : List ℕ) (at : ℕ) (w : List ℕ) (next : ℕ) : Type 0 where
  pub stands : Stands w s at
  pub end : next ≡ at + length w
