-- What a program is, once it is read: references, expressions, the contents of fields, blocks.
-- Everything above the reader speaks of these, never of bytes.
use Rattle.std.specs.Prelude.{Bool, ◌&&◌, List, [], ◌∷◌, ◌++◌, ℕ, ◌+◌, get_or}
use Rattle.terms.specs.Choice.{every}

-- "Bit reference: 0 off, 1 on, 2..33 input bit 0..31, 34..233 output of block 0..199."
pub data Bit : Type 0 where
  off : Bit
  on : Bit
  input : ℕ → Bit
  output : ℕ → Bit

-- "Word reference: 0..7 analog A01..A08, 8..207 word of block 0..199, 1,000..66,535 the constant (value − 33,768)."
-- A constant is kept as it is carried.
pub data Word : Type 0 where
  analog : ℕ → Word
  word_of : ℕ → Word
  constant : ℕ → Word

-- "An expression is written operator first: 0 NOT (one part), 1 AND, 2 OR, 3 XOR, 4 NAND, 5 NOR (two parts), 6 + r the bit reference r."
pub data Expr : Type 0 where
  ref : Bit → Expr
  inv : Expr → Expr
  gate : ℕ → Expr → Expr → Expr

-- what a field holds; a setting marked ± is kept as it is carried
pub data Content : Type 0 where
  bit : Bit → Content
  word : Word → Content
  number : ℕ → Content
  tree : Expr → Content

pub record Block : Type 0 where
  pub kind : ℕ
  pub fields : List Content

-- block i of a list; where there is none, a BL without an expression
abbrev pub no_block : Block
no_block = record { kind = 0; fields = [] }

abbrev pub block_of : List Block → ℕ → Block
block_of bs i = get_or bs i no_block

-- The references of fields, in reading order: of a bit pin, of an expression its leaves, and those of words.
abbrev pub leaves : Expr → List Bit
leaves (ref b) = b ∷ []
leaves (inv t) = leaves t
leaves (gate op a b) = leaves a ++ leaves b

abbrev pub bits_in : Content → List Bit
bits_in (bit b) = b ∷ []
bits_in (word w) = []
bits_in (number n) = []
bits_in (tree t) = leaves t

abbrev pub words_in : Content → List Word
words_in (bit b) = []
words_in (word w) = w ∷ []
words_in (number n) = []
words_in (tree t) = []

abbrev pub bit_refs : List Content → List Bit
bit_refs [] = []
bit_refs (c ∷ cs) = bits_in c ++ bit_refs cs

abbrev pub word_refs : List Content → List Word
word_refs [] = []
word_refs (c ∷ cs) = words_in c ++ word_refs cs

-- every reference of some fields passes its test
abbrev pub refs_pass : (Bit → Bool) → (Word → Bool) → List Content → Bool
refs_pass b w cs = every b (bit_refs cs) && every w (word_refs cs)

-- the nodes of an expression, of a field, of a block's fields: only a BL has any
abbrev pub nodes : Expr → ℕ
nodes (ref b) = 1
nodes (inv t) = nodes t + 1
nodes (gate op a b) = nodes a + nodes b + 1

abbrev pub nodes_of : Content → ℕ
nodes_of (bit b) = 0
nodes_of (word w) = 0
nodes_of (number n) = 0
nodes_of (tree t) = nodes t

abbrev pub nodes_in : List Content → ℕ
nodes_in [] = 0
nodes_in (c ∷ cs) = nodes_of c + nodes_in cs

-- the number that carries a reference or a setting; an expression has no one number
abbrev pub bit_code : Bit → ℕ
bit_code off = 0
bit_code on = 1
bit_code (input i) = i + 2
bit_code (output k) = k + 34

abbrev pub word_code : Word → ℕ
word_code (analog i) = i
word_code (word_of k) = k + 8
word_code (constant n) = n

abbrev pub code_of : Content → ℕ
code_of (bit b) = bit_code b
code_of (word w) = word_code w
code_of (number n) = n
code_of (tree t) = 0
