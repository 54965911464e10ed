-- Request L4, import: what is stored of a block's line, and that nothing is where the line is bad (ours; Layout says which lines are good).
use Rattle.std.specs.Prelude.{ℕ, ◌≡◌, List, length, take, Option, None, Some}
use Rattle.filling.specs.Filling.{Put}
use Rattle.numbers.specs.Blocks.{Content, Block}
use Rattle.grammar.specs.Machine.{Spans}
use Rattle.writing.specs.Expressions.{bytes_of}
use Rattle.kinds.specs.Kinds.{fields_of}
use Rattle.forms.specs.Written.{block_numbers}
use Rattle.fronts.specs.Fronts.{small, most_kept}
use Rattle.layout.specs.Layout.{Fields, BlockLine}
use Rattle.taking.specs.declared.Taken.{Taken}

-- A text says a block: the numbers that are kept of it are put over l from a place on, which makes it m, and whether it is small is told. Or it says
-- none, and l stays as it is.
pub data Takes (Says : Block → Type 0) (l : List ℕ) (to : ℕ) (m : List ℕ) : Option Taken → Type 0 where
  taken : (b : Block) (next : ℕ) → Says b → Put (bytes_of (take most_kept (block_numbers b))) l to m next → Takes Says l to m (Some (record { next = next; small = small b }))
  not_taken : ((b : Block) → Says b → ⊥) → m ≡ l → Takes Says l to m None

-- the line of block i
abbrev pub TakesLine : ℕ → List ℕ → List ℕ → ℕ → List ℕ → Option Taken → Type 0
TakesLine i s l to m r = Takes (BlockLine i s) l to m r

-- what stands from a place of a line to its end is fields of a kind: with them it is a block
pub data RestSays (kind : ℕ) (s : List ℕ) (at : ℕ) : Block → Type 0 where
  rest_says : {cs : List Content} {w : List ℕ} → Fields (fields_of kind) cs w → Spans s at w (length s) → RestSays kind s at (record { kind = kind; fields = cs })
