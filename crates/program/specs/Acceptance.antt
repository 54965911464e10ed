-- Document 01, "Numbers of refusal": acceptance.
use Rattle.std.specs.Prelude.{List, ◌++◌, map, ℕ, ◌-◌, length, replicate, ltb}
use Rattle.terms.specs.Choice.{pick}
use Rattle.terms.specs.Refusals.{over_memory}
use Rattle.wire.specs.Reading.{Read, got, fault}
use Rattle.numbers.specs.Blocks.{Block}
use Rattle.numbers.specs.Reading.{Marks}
use Rattle.kinds.specs.Kinds.{memory_limit, mark_of}
use Rattle.program.specs.Program.{Program, program_at, memory, figure}
use Rattle.program.specs.declared.Acceptance.{Acceptance}

-- "refused, both are 0"
abbrev pub refused : ℕ → ℕ → Acceptance
refused n at = record { refusal = n; place = at; memory = 0; steps = 0 }

-- "Acceptance answers 1 to 4 and, if good, memory and step figure", and L2: "8 stands where 1 stood"; no refusal is number 0 at place 0
abbrev pub granted : ℕ → ℕ → Acceptance
granted m n = record { refusal = 0; place = 0; memory = m; steps = n }

-- a reading that lets every reference through
abbrev pub every_block : Marks
every_block = replicate 200 2

-- the marks of the blocks of a program, and of the others: not there
unfoldable pub marks_of : List Block → Marks
marks_of bs = map mark_of bs ++ replicate (200 - length bs) 0

-- "the first fault in reading order is reported .. Only after the whole is read come 3 (first in reading order), then 4";
-- "it is 0 for 4 to 6"
abbrev pub by_memory : Program → Read Program → Acceptance
by_memory p (fault n at) = refused n at
by_memory p (got q end) =
    pick (ltb memory_limit (memory p.blocks)) (refused over_memory 0) (granted (memory p.blocks) (figure p.blocks))

abbrev pub by_references : List ℕ → Read Program → Acceptance
by_references s (fault n at) = refused n at
by_references s (got p end) = by_memory p (program_at (marks_of p.blocks) s)

unfoldable pub accepted : List ℕ → Acceptance
accepted s = by_references s (program_at every_block s)
