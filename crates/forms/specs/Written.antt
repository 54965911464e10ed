-- Document 01, "Program bytes", the other way: the numbers and bytes that a program is written in, and what may be written so that it is read again.
use Rattle.std.specs.Prelude.{ℕ, ◌<◌, ◌≤◌, ◌≡◌, true, List, [], ◌∷◌, ◌++◌, map, length}
use Rattle.numbers.specs.Blocks.{Bit, Content, bit, word, number, tree, Expr, Block, nodes, bit_code, word_code}
use Rattle.numbers.specs.Types.{number_types, kind_count, allowed, content_of, setting_of}
use Rattle.nodes.specs.Reading.{most_deep, most_nodes}
use Rattle.writing.specs.Expressions.{operator_first, depth, bytes_of, InRange, Proper}
use Rattle.kinds.specs.Kinds.{expression, types_of}
use Rattle.program.specs.Program.{Program}

-- a field: a reference or a setting is the one number that carries it; "An expression is written operator first"
abbrev pub content_numbers : Content → List ℕ
content_numbers (bit b) = bit_code b ∷ []
content_numbers (word w) = word_code w ∷ []
content_numbers (number n) = n ∷ []
content_numbers (tree t) = operator_first t

-- the fields of a block, one after the other
abbrev pub field_numbers : List Content → List ℕ
field_numbers [] = []
field_numbers (c ∷ cs) = content_numbers c ++ field_numbers cs

-- "each block as kind and fields"
abbrev pub block_numbers : Block → List ℕ
block_numbers b = b.kind ∷ field_numbers b.fields

abbrev pub blocks_numbers : List Block → List ℕ
blocks_numbers [] = []
blocks_numbers (b ∷ bs) = block_numbers b ++ blocks_numbers bs

-- "alarm count (0..32); that many bit references"
abbrev pub alarm_numbers : List Bit → List ℕ
alarm_numbers rs = length rs ∷ map bit_code rs

-- "Order: block count (1..200); each block as kind and fields; alarm count (0..32); that many bit references; end."
abbrev pub program_numbers : Program → List ℕ
program_numbers p = length p.blocks ∷ (blocks_numbers p.blocks ++ alarm_numbers p.alarms)

-- "A number is one to three groups of seven bits .. in shortest form"
unfoldable pub written : Program → List ℕ
written p = bytes_of (program_numbers p)

-- What a field of type ty may hold after the setting `before`: what an allowed number says there, or an expression: "At most 63 nodes; .. no node is
-- deeper than 16."
pub data Holds (ty before : ℕ) (c : Content) : Type 0 where
  of_number : (v : ℕ) → ty < number_types → allowed ty before v ≡ true → c ≡ content_of ty v → Holds ty before c
  of_tree : (t : Expr) → ty ≡ expression → Proper t → depth t ≤ most_deep → nodes t ≤ most_nodes → c ≡ tree t → Holds ty before c

-- a row of the table of kinds: each field by its type, after the setting that the field before it is
abbrev pub FieldsHold : List ℕ → ℕ → List Content → Type 0
FieldsHold [] before [] = Unit {0}
FieldsHold [] before (c ∷ cs) = ⊥
FieldsHold (ty ∷ ts) before [] = ⊥
FieldsHold (ty ∷ ts) before (c ∷ cs) = Holds ty before c × FieldsHold ts (setting_of c) cs

-- a block: a kind of the table, and what its row may hold; no setting stands before its first field
pub record BlockHolds (b : Block) : Type 0 where
  pub known : b.kind < kind_count
  pub fields : FieldsHold (types_of b.kind) 0 b.fields

-- P holds of each of a list
abbrev pub Each : {A : Type 0} → (A → Type 0) → List A → Type 0
Each P [] = Unit {0}
Each P (x ∷ xs) = P x × Each P xs

-- "block count (1..200)"
abbrev pub most_blocks : ℕ
most_blocks = 200

-- "alarm count (0..32)"
abbrev pub most_alarms : ℕ
most_alarms = 32

-- a program: so many blocks and alarms, each of which may be written; whether what they refer to is there is another matter
pub record ProgramHolds (p : Program) : Type 0 where
  pub some : 0 < length p.blocks
  pub most : length p.blocks ≤ most_blocks
  pub blocks : Each BlockHolds p.blocks
  pub few : length p.alarms ≤ most_alarms
  pub alarms : Each InRange p.alarms
