-- Request L1, "Formulas typed as text": the grammar, written on its own. It says which texts are formulas and as which tree each reads, and
-- nothing of how a text is read. A text is a list of bytes.
use Rattle.std.specs.Prelude.{ℕ, suc, ◌+◌, ◌*◌, ◌<◌, List, [], ◌∷◌, ◌++◌, replicate}
use Rattle.numbers.specs.Blocks.{Bit, off, on, input, output, Expr, ref, inv, gate}

-- the bytes, in ASCII: space ! & ( ) B I ^ | and the digit d
abbrev pub space : ℕ
space = 32

abbrev pub bang : ℕ
bang = 33

abbrev pub ampersand : ℕ
ampersand = 38

abbrev pub opening : ℕ
opening = 40

abbrev pub closing : ℕ
closing = 41

abbrev pub letter_b : ℕ
letter_b = 66

abbrev pub letter_i : ℕ
letter_i = 73

abbrev pub caret : ℕ
caret = 94

abbrev pub bar : ℕ
bar = 124

abbrev pub digit : ℕ → ℕ
digit d = 48 + d

-- n spaces
abbrev pub spaces : ℕ → List ℕ
spaces n = replicate n space

-- the text w is the number n in k decimal digits
pub data Decimal : ℕ → ℕ → List ℕ → Type 0 where
  no_digits : Decimal 0 0 []
  one_more : {k n : ℕ} {w : List ℕ} (d : ℕ) → d < 10 → Decimal k n w → Decimal (suc k) (10 * n + d) (w ++ (digit d ∷ []))

-- "Names are I01..I32 (I01 is input bit 0), B000..B199, `0`, `1`."
pub data Name : List ℕ → Bit → Type 0 where
  name_0 : Name (digit 0 ∷ []) off
  name_1 : Name (digit 1 ∷ []) on
  name_I : {n : ℕ} {w : List ℕ} → n < 32 → Decimal 2 (n + 1) w → Name (letter_i ∷ w) (input n)
  name_B : {n : ℕ} {w : List ℕ} → n < 200 → Decimal 3 n w → Name (letter_b ∷ w) (output n)

-- "An or-list is made of xor-lists, these of and-lists, whose parts .."
pub data Level : Type 0 where
  or_list xor_list and_list part : Level

pub data MadeOf : Level → Level → Type 0 where
  xor_lists : MadeOf or_list xor_list
  and_lists : MadeOf xor_list and_list
  parts : MadeOf and_list part

-- "Operators from tightest to loosest are `!`; `&` and `!&` (NAND); `^`; `|` and `!|` (NOR).": those of two parts, each with the list whose items it
-- stands between and its node number
pub data Operator : Level → ℕ → List ℕ → Type 0 where
  and_sign : Operator and_list 1 (ampersand ∷ [])
  nand_sign : Operator and_list 4 (bang ∷ ampersand ∷ [])
  xor_sign : Operator xor_list 3 (caret ∷ [])
  or_sign : Operator or_list 2 (bar ∷ [])
  nor_sign : Operator or_list 5 (bang ∷ bar ∷ [])

-- "parentheses nest at most 16"
abbrev pub most_open : ℕ
most_open = 16

-- inside `around` parentheses the text is a list or a part of this level, and reads as the tree.
-- "Spaces may stand at both ends and around names, operators and parentheses, never inside one.": a part has those before it and those behind it.
pub data Reads : ℕ → Level → List ℕ → Expr → Type 0 where
  -- a list of one item
  alone : {around : ℕ} {list item : Level} {w : List ℕ} {t : Expr} → MadeOf list item → Reads around item w t → Reads around list w t
  -- "The two-part ones group to the left": before the operator stands a list, behind it one item
  joined :
      {around o : ℕ} {list item : Level} {v sign w : List ℕ} {t u : Expr} → MadeOf list item → Reads around list v t → Operator list o sign →
      Reads around item w u → Reads around list (v ++ (sign ++ w)) (gate o t u)
  named : {around : ℕ} {w : List ℕ} {b : Bit} (m n : ℕ) → Name w b → Reads around part (spaces m ++ (w ++ spaces n)) (ref b)
  -- "`!` may stand before any part, another `!` too"
  negated : {around : ℕ} {w : List ℕ} {t : Expr} (m : ℕ) → Reads around part w t → Reads around part (spaces m ++ (bang ∷ w)) (inv t)
  -- "whose parts may hold an or-list in parentheses again"
  grouped :
      {around : ℕ} {w : List ℕ} {t : Expr} (m n : ℕ) → around < most_open → Reads (suc around) or_list w t →
      Reads around part (spaces m ++ (opening ∷ (w ++ (closing ∷ spaces n)))) t

-- a good text, and the tree that it reads as
abbrev pub Formula : List ℕ → Expr → Type 0
Formula s t = Reads 0 or_list s t
