-- Request L4, "one line a block": what is put of a block that was read. The texts are those of layout/specs/Listed.
use Rattle.std.specs.Prelude.{ℕ, ◌<◌, ◌≡◌, List, []}
use Rattle.wire.specs.Reading.{Read, got, fault, IsGot, next_of}
use Rattle.filling.specs.Filling.{Put}
use Rattle.numbers.specs.Blocks.{Content, Block}
use Rattle.numbers.specs.Types.{kind_count}
use Rattle.numbers.specs.Reading.{Marks}
use Rattle.kinds.specs.Kinds.{fields_of, types_of}
use Rattle.block.specs.Reading.{fields_at}
use Rattle.block.specs.Answers.{row_of, numbers_in}
use Rattle.layout.specs.Listed.{fields_text, line_text}
use Rattle.listing.specs.declared.Line.{Line}

-- a block of a kind was read from here on, and these are the numbers of its fields
abbrev pub row_at : Marks → ℕ → List ℕ → ℕ → Read (List Content)
row_at m kind s at = fields_at m (types_of kind) 0 s at

pub record IsRow (m : Marks) (kind : ℕ) (s : List ℕ) (at : ℕ) (fields : List ℕ) : Type 0 where
  pub known : kind < kind_count
  pub read : IsGot (row_at m kind s at)
  pub numbers : fields ≡ numbers_in (row_of (row_at m kind s at))

-- the text of fields that were read; where nothing was, there is none
abbrev pub row_text : ℕ → Read (List Content) → List ℕ
row_text kind (got cs next) = fields_text (fields_of kind) cs
row_text kind (fault n at) = []

-- the same of a whole block, which is block i
abbrev pub line_in : ℕ → Read Block → List ℕ
line_in i (got b next) = line_text i b
line_in i (fault n at) = []

-- no line of a block takes more bytes (ours)
abbrev pub most_of_line : ℕ
most_of_line = 500

-- the line of block i was put into l, which made it m; the answer is the place behind the block's bytes, and the place behind its line
pub record Lined (i : ℕ) (x : Read Block) (l : List ℕ) (to : ℕ) (m : List ℕ) (r : Line) : Type 0 where
  pub text : Put (line_in i x) l to m r.to
  pub place : r.next ≡ next_of x
