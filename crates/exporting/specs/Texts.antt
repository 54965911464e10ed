-- Request L4: the lines of what was read of a program. The texts are those of layout/specs/Listed; where nothing was read, there is none.
use Rattle.std.specs.Prelude.{ℕ, List, []}
use Rattle.wire.specs.Reading.{Read, got, fault}
use Rattle.program.specs.Program.{Program}
use Rattle.layout.specs.Listed.{lines_text, listed}

-- of a program of which block i is the first that is left
abbrev pub lines_in : ℕ → Read Program → List ℕ
lines_in i (got p end) = lines_text i p.blocks p.alarms
lines_in i (fault n at) = []

abbrev pub listed_in : Read Program → List ℕ
listed_in (got p end) = listed p
listed_in (fault n at) = []
