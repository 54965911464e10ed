-- Request L4, "Whole programs as a listing": the text that an expression is exported as, and what holds of it. The grammar is that of L1.
use Rattle.std.specs.Prelude.{ℕ, zero, suc, ◌+◌, ◌*◌, ◌/◌, ◌%◌, ◌<◌, ◌≤◌, ◌≡◌, Bool, true, List, [], ◌∷◌, ◌++◌, length, ltb, leb, eqb}
use Rattle.terms.specs.Choice.{pick, every}
use Rattle.wire.specs.Reading.{got}
use Rattle.numbers.specs.Blocks.{Bit, off, on, input, output, Expr, ref, inv, gate, nodes}
use Rattle.numbers.specs.Reading.{Marks}
use Rattle.nodes.specs.Reading.{most_deep, expr_at}
use Rattle.grammar.specs.Grammar.{space, bang, ampersand, opening, closing, letter_b, letter_i, caret, bar, digit, or_list, xor_list, and_list, part, Formula}
use Rattle.writing.specs.Expressions.{depth, Proper}
use Rattle.spelling.specs.Spelling.{number_of}

-- a number in just k decimal digits
abbrev pub in_digits : ℕ → ℕ → List ℕ
in_digits zero n = []
in_digits (suc k) n = in_digits k (n / 10) ++ (digit (n % 10) ∷ [])

-- "Names are I01..I32 (I01 is input bit 0), B000..B199, `0`, `1`."
unfoldable pub name_of : Bit → List ℕ
name_of off = digit 0 ∷ []
name_of on = digit 1 ∷ []
name_of (input n) = letter_i ∷ in_digits 2 (n + 1)
name_of (output n) = letter_b ∷ in_digits 3 n

-- the sign of an operator of two parts, by its node number: 1 AND, 2 OR, 3 XOR, 4 NAND, 5 NOR
unfoldable pub sign_of : ℕ → List ℕ
sign_of o =
    pick (eqb o 1) (ampersand ∷ [])
    (pick (eqb o 2) (bar ∷ [])
    (pick (eqb o 3) (caret ∷ [])
    (pick (eqb o 4) (bang ∷ ampersand ∷ [])
    (bang ∷ bar ∷ []))))

-- the level of the list whose items it stands between
unfoldable pub list_of : ℕ → ℕ
list_of o =
    pick (eqb o 1) (number_of and_list)
    (pick (eqb o 2) (number_of or_list)
    (pick (eqb o 3) (number_of xor_list)
    (pick (eqb o 4) (number_of and_list)
    (number_of or_list))))

-- "one space on both sides of an operator of two parts" (docs/LISTING.md)
abbrev pub between : ℕ → List ℕ → List ℕ → List ℕ
between o v w = v ++ (space ∷ (sign_of o ++ (space ∷ w)))

abbrev pub enclosed : Bool → List ℕ → List ℕ
enclosed b text = pick b (opening ∷ (text ++ (closing ∷ []))) text

-- where a list or a part of a level is asked for: an operator of a looser level stands in parentheses; its left part may be of its own level, its
-- right part is of the next tighter one
abbrev pub show_at : ℕ → Expr → List ℕ
show_at level (ref b) = name_of b
show_at level (inv t) = bang ∷ show_at (number_of part) t
show_at level (gate o a b) = enclosed (ltb (list_of o) level) (between o (show_at (list_of o) a) (show_at (suc (list_of o)) b))

-- the text of a whole expression
abbrev pub show : Expr → List ℕ
show t = show_at (number_of or_list) t

-- how many opening parentheses a text has
abbrev pub opens : List ℕ → ℕ
opens [] = 0
opens (x ∷ xs) = pick (eqb x opening) 1 0 + opens xs

-- "Export puts the fewest parentheses that keep the reading"
pub record ShowFacts : Type 0 where
  -- what is shown of an expression reads as that expression, and as no other
  pub reads_back : (t : Expr) → Proper t → depth t ≤ most_deep → Formula (show t) t
  pub only : (t u : Expr) → Formula (show t) u → Proper t → depth t ≤ most_deep → t ≡ u
  -- no text with this reading has fewer parentheses
  pub fewest : (s : List ℕ) (t : Expr) → Formula s t → opens (show t) ≤ opens s
  -- what is read can be shown: a text, whatever its size; the bytes of a program, of which none is deeper than allowed
  pub read_proper : (s : List ℕ) (t : Expr) → Formula s t → Proper t
  pub accepted_proper :
      (m : Marks) (levels left : ℕ) (s : List ℕ) (at : ℕ) (t : Expr) (next : ℕ) → expr_at m levels left s at ≡ got t next →
      Proper t × (depth t ≤ levels)
  -- its text is short and stays in its line
  pub short : (level : ℕ) (t : Expr) → length (show_at level t) < 5 * nodes t
  pub no_line_end : (level : ℕ) (t : Expr) → every (leb 32) (show_at level t) ≡ true
