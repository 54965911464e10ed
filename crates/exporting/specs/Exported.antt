-- Request L4, "Whole programs as a listing": what export answers, and what the lent buffer holds then.
use Rattle.std.specs.Prelude.{ℕ, List, eqb}
use Rattle.terms.specs.Choice.{pick}
use Rattle.wire.specs.Reading.{Read}
use Rattle.exchange.specs.declared.Exchange.{Exchange}
use Rattle.exchange.specs.Exchange.{refused, handed, filled}
use Rattle.program.specs.Program.{Program, program_at}
use Rattle.program.specs.Acceptance.{every_block, accepted}
use Rattle.program.specs.declared.Acceptance.{Acceptance}
use Rattle.exporting.specs.Texts.{listed_in}

-- "Export any accepted program", and its refusals: "on export 01's 1 to 4 .. last 12 at 0, the lent buffer is shorter than the exact result, and nothing
-- is written"; an accepted program can be read
abbrev pub exported_by : Acceptance → Read Program → List ℕ → Exchange
exported_by a r l = pick (eqb a.refusal 0) (handed (listed_in r) l) (refused a.refusal a.place)

unfoldable pub exported : List ℕ → List ℕ → Exchange
exported s l = exported_by (accepted s) (program_at every_block s) l

-- the buffer l then: a refused program leaves it as it was
abbrev pub into_by : Acceptance → Read Program → List ℕ → List ℕ
into_by a r l = pick (eqb a.refusal 0) (filled (listed_in r) l) l

unfoldable pub exported_into : List ℕ → List ℕ → List ℕ
exported_into s l = into_by (accepted s) (program_at every_block s) l
