-- What the functions below `accept` answer, in terms of what is read.
use Rattle.std.specs.Prelude.{List, map, ℕ, ◌+◌, replicate, Result, Ok, Err}
use Rattle.std.proofs.lemmas.List.Edits.{sets}
use Rattle.numbers.specs.Blocks.{Block}
use Rattle.kinds.specs.Kinds.{mark_of}
use Rattle.wire.specs.Reading.{Read, got, fault}
use Rattle.terms.specs.Refusals.{number_of}
use Rattle.terms.specs.declared.refusal.Fault.{Fault}
use Rattle.program.specs.Program.{Program, memory, figure}
use Rattle.program.specs.Acceptance.{refused, granted, marks_of}
use Rattle.program.specs.declared.Acceptance.{Acceptance}
use Rattle.program.specs.declared.Reading.{Reading}

-- blocks after i others of memory m and figure f, which are marked in l: the marks are stored from place i on
abbrev pub read_from : ℕ → List ℕ → ℕ → ℕ → Read (List Block) → Read Reading
read_from i l m f (got bs next) =
    got (record { memory = m + memory bs; steps = f + figure bs; marks = sets l i (map mark_of bs); next = next }) next
read_from i l m f (fault n at) = fault n at

unfoldable pub blocks_read : Read (List Block) → Read Reading
blocks_read r = read_from 0 (replicate 200 0) 0 0 r

-- where what was read ends
abbrev pub end_of : {A : Type 0} → Read A → Read ℕ
end_of (got a next) = got next next
end_of (fault n at) = fault n at

-- a whole program, with the marks of its blocks
abbrev pub program_read : Read Program → Read Reading
program_read (got p end) =
    got (record { memory = memory p.blocks; steps = figure p.blocks; marks = marks_of p.blocks; next = end }) end
program_read (fault n at) = fault n at

-- what answers of the code say
abbrev pub reading_of_answer : Result Reading Fault → Read Reading
reading_of_answer (Ok r) = got r r.next
reading_of_answer (Err f) = fault (number_of f.refusal) f.at

abbrev pub end_of_answer : Result ℕ Fault → Read ℕ
end_of_answer (Ok at) = got at at
end_of_answer (Err f) = fault (number_of f.refusal) f.at

abbrev pub acceptance_of : Result Reading Fault → Acceptance
acceptance_of (Ok r) = granted r.memory r.steps
acceptance_of (Err f) = refused (number_of f.refusal) f.at
