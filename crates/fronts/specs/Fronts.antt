-- Request L4, import: what of the bytes of a program is stored (ours). A listing can spell a program that breaks the rules of document 01, with
-- expressions of any size and any number of alarms; no more of it is stored than has room and can decide: its front.
use Rattle.std.specs.Prelude.{ℕ, ◌<◌, ◌≤◌, ◌≡◌, Bool, true, ◌&&◌, List, [], ◌∷◌, ◌++◌, leb, length, take, get_or}
use Rattle.terms.specs.Choice.{pick, every}
use Rattle.numbers.specs.Blocks.{Bit, Content, bit, word, number, tree, Expr, Block, nodes}
use Rattle.numbers.specs.Types.{number_types, kind_count, limits, content_of}
use Rattle.nodes.specs.Reading.{most_deep, most_nodes}
use Rattle.writing.specs.Expressions.{depth, InRange, Proper}
use Rattle.kinds.specs.Kinds.{expression, types_of}
use Rattle.program.specs.Program.{Program}
use Rattle.forms.specs.Written.{block_numbers, alarm_numbers, Each, most_blocks, most_alarms}

-- a field is small unless it is an expression that breaks this rule: "At most 63 nodes; .. no node is deeper than 16."
abbrev pub small_content : Content → Bool
small_content (bit b) = true
small_content (word w) = true
small_content (number n) = true
small_content (tree t) = leb (nodes t) most_nodes && leb (depth t) most_deep

-- a block is small if each of its fields is
abbrev pub small : Block → Bool
small b = every small_content b.fields

-- how many numbers are kept of a block that is not small: its kind, as many nodes as are allowed, and one more
abbrev pub most_kept : ℕ
most_kept = 65

-- the blocks up to the first that is not small; `rest` stands behind them, if all are small
abbrev pub front_of : List Block → List ℕ → List ℕ
front_of [] rest = rest
front_of (b ∷ bs) rest = pick (small b) (block_numbers b ++ front_of bs rest) (take most_kept (block_numbers b))

-- "alarm count (0..32)": of more only their count
abbrev pub alarms_front : List Bit → List ℕ
alarms_front rs = pick (leb (length rs) most_alarms) (alarm_numbers rs) (length rs ∷ [])

-- the numbers of a program that are stored
abbrev pub front : Program → List ℕ
front p = length p.blocks ∷ front_of p.blocks (alarms_front p.alarms)

-- What a listing can spell in a field of type ty: a number below the limit of the type, be it allowed there or not, or an expression of any size.
pub data SpeltContent (ty : ℕ) (c : Content) : Type 0 where
  spelt_number : (v : ℕ) → ty < number_types → v < get_or limits ty 0 → c ≡ content_of ty v → SpeltContent ty c
  spelt_tree : (t : Expr) → ty ≡ expression → Proper t → c ≡ tree t → SpeltContent ty c

-- in a row of the table of kinds
abbrev pub SpeltFields : List ℕ → List Content → Type 0
SpeltFields [] [] = Unit {0}
SpeltFields [] (c ∷ cs) = ⊥
SpeltFields (ty ∷ ts) [] = ⊥
SpeltFields (ty ∷ ts) (c ∷ cs) = SpeltContent ty c × SpeltFields ts cs

-- as a block
pub record SpeltBlock (b : Block) : Type 0 where
  pub known : b.kind < kind_count
  pub fields : SpeltFields (types_of b.kind) b.fields

-- a number of a program is below 128^3
abbrev pub number_limit : ℕ
number_limit = 2097152

-- as a program: up to 200 blocks, or none, and as many alarms as a number can count
pub record Spelt (p : Program) : Type 0 where
  pub few : length p.blocks ≤ most_blocks
  pub blocks : Each SpeltBlock p.blocks
  pub alarms : Each InRange p.alarms
  pub countable : length p.alarms < number_limit
