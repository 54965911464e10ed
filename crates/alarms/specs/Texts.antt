-- Request L4, "then the alarms": the line of alarms that were read. The texts are those of layout/specs/Listed; where nothing was read, there is none.
use Rattle.std.specs.Prelude.{ℕ, List, []}
use Rattle.wire.specs.Reading.{Read, got, fault}
use Rattle.numbers.specs.Blocks.{Bit}
use Rattle.layout.specs.Listed.{names_text, alarms_text}

abbrev pub names_in : Read (List Bit) → List ℕ
names_in (got rs next) = names_text rs
names_in (fault n at) = []

abbrev pub alarms_in : Read (List Bit) → List ℕ
alarms_in (got rs next) = alarms_text rs
alarms_in (fault n at) = []
