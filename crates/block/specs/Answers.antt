-- What the functions of this crate answer, in terms of what is read.
use Rattle.std.specs.Prelude.{List, map, ℕ, zero, suc, ◌+◌, replicate, get_or, set, Result, Ok, Err}
use Rattle.std.proofs.lemmas.List.Edits.{sets}
use Rattle.terms.specs.Refusals.{number_of}
use Rattle.terms.specs.declared.refusal.Fault.{Fault}
use Rattle.numbers.specs.Blocks.{Content, Block, nodes_in, code_of}
use Rattle.kinds.specs.Kinds.{memory_of, figure_of, mark_of}
use Rattle.wire.specs.Reading.{Read, got, fault}
use Rattle.numbers.specs.Reading.{Marks, typed_at}
use Rattle.block.specs.declared.Row.{Row}
use Rattle.block.specs.declared.Brief.{Brief}

-- a row without fields, of which nothing is read yet
abbrev pub empty_row : ℕ → Row
empty_row at = record { fields = replicate 5 0; nodes = 0; next = at }

-- a row with one more field, the number at place i that was read for it
abbrev pub with_field : ℕ → Row → Read ℕ → Read Row
with_field i row (got v next) = got (record { fields = set row.fields i v; nodes = row.nodes; next = next }) next
with_field i row (fault n at) = fault n at

-- the number at the place before i; 0 before the first
abbrev pub number_before : ℕ → List ℕ → ℕ
number_before zero l = 0
number_before (suc i) l = get_or l i 0

-- a row with one more field at place i, a number of type ty after the number before it
unfoldable pub field_more : Marks → ℕ → ℕ → List ℕ → Row → Read Row
field_more k i ty s row = with_field i row (typed_at k ty (number_before i row.fields) s row.next)

-- a row whose first i fields, of m nodes, are stored in l already, and the others' numbers from place i on
abbrev pub row_from : ℕ → List ℕ → ℕ → Read (List Content) → Read Row
row_from i l m (got cs next) = got (record { fields = sets l i (map code_of cs); nodes = m + nodes_in cs; next = next }) next
row_from i l m (fault n at) = fault n at

unfoldable pub row_of : Read (List Content) → Read Row
row_of r = row_from 0 (replicate 5 0) 0 r

-- the numbers of a row's fields; none are stored where it cannot be read
abbrev pub numbers_in : Read Row → List ℕ
numbers_in (got row next) = row.fields
numbers_in (fault n at) = replicate 5 0

abbrev pub brief_of : Read Block → Read Brief
brief_of (got b next) = got (record { memory = memory_of b; figure = figure_of b; mark = mark_of b; next = next }) next
brief_of (fault n at) = fault n at

-- what answers of the code say; the place after what was read is in it
abbrev pub row_of_answer : Result Row Fault → Read Row
row_of_answer (Ok row) = got row row.next
row_of_answer (Err f) = fault (number_of f.refusal) f.at

abbrev pub brief_of_answer : Result Brief Fault → Read Brief
brief_of_answer (Ok b) = got b b.next
brief_of_answer (Err f) = fault (number_of f.refusal) f.at
