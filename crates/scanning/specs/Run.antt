-- A program run once on the columns of the places (ours): refused, or the scan that `Scan` says.
use Rattle.std.specs.Prelude.{List, ℕ, eqb, length, Option, Some, None}
use Rattle.terms.specs.Choice.{pick}
use Rattle.wire.specs.Reading.{Read, got, fault}
use Rattle.program.specs.Program.{Program, program_at}
use Rattle.program.specs.Acceptance.{every_block, accepted}
use Rattle.place.specs.declared.Place.{Place}
use Rattle.image.specs.Image.{Columns, places_in}
use Rattle.trial.specs.declared.Trial.{Trial}
use Rattle.scanning.specs.Scan.{Inputs, scan_to, steps_to, alarm_word}
use Rattle.scanning.specs.Loading.{stored_in}

-- the places after a program's scan, its steps and its alarm word
abbrev pub places_after : Inputs → Program → List Place → List Place
places_after x p ps = scan_to x p.blocks (length p.blocks) ps

abbrev pub steps_in : Inputs → Program → List Place → ℕ
steps_in x p ps = steps_to x p.blocks (length p.blocks) ps

abbrev pub alarms_after : Inputs → Program → List Place → ℕ
alarms_after x p ps = alarm_word x (places_after x p ps) p.alarms

-- a program that is accepted can be read
abbrev pub run_by : Inputs → List Place → Read Program → Option Trial
run_by x ps (got p end) = Some (record { steps = steps_in x p ps; alarms = alarms_after x p ps })
run_by x ps (fault n at) = None

unfoldable pub run_of : List ℕ → Inputs → List Place → Option Trial
run_of s x ps = pick (eqb (accepted s).refusal 0) (run_by x ps (program_at every_block s)) None

-- only the program's own places are stored
abbrev pub stored_by : Inputs → Columns → Read Program → Columns
stored_by x c (got p end) = stored_in (length p.blocks) (places_after x p (places_in c)) c
stored_by x c (fault n at) = c

unfoldable pub after_run : List ℕ → Inputs → Columns → Columns
after_run s x c = pick (eqb (accepted s).refusal 0) (stored_by x c (program_at every_block s)) c
