-- Document 01: the whole answer of a scan and of a take, refusals included.
use Rattle.std.specs.Prelude.{is_some, unwrap_or, false, not, List, ℕ, ◌+◌, eqb}
use Rattle.terms.specs.Choice.{pick}
use Rattle.terms.specs.Refusals.{bad_state, too_far}
use Rattle.wire.specs.Reading.{Read, got, fault}
use Rattle.program.specs.Program.{Program, program_at}
use Rattle.program.specs.Acceptance.{every_block, accepted}
use Rattle.journal.specs.declared.Taken.{Taken}
use Rattle.journal.specs.declared.Stamp.{Stamp}
use Rattle.journal.specs.Journal.{zero_entry, risen, taken}
use Rattle.image.specs.declared.State.{State}
use Rattle.image.specs.State.{good_state, late}
use Rattle.scanning.specs.Scan.{Inputs}
use Rattle.scanning.specs.Run.{places_after, steps_in, alarms_after}
use Rattle.calls.specs.declared.Scanned.{Scanned}
use Rattle.calls.specs.declared.Handed.{Handed}

-- "A refusal gives back the given state and zeros for alarm word, steps, rises and entry."
abbrev pub refused_scan : State → ℕ → ℕ → Scanned
refused_scan s n at = record { state = s; refusal = n; place = at; alarms = 0; steps = 0; rises = 0 }

abbrev pub refused_take : State → ℕ → Handed
refused_take s n = record { state = s; refusal = n; found = false; entry = zero_entry }

-- what a scan writes beside the alarm number: "time as just grown"
abbrev pub stamp_of : Inputs → ℕ → Stamp
stamp_of x time = record { time = time + x.elapsed }

-- "Then the time grows by E and the alarm references are read .. A scan answers the state, this word, its steps and how many alarms rose in it."
unfoldable pub answered : Program → Inputs → State → Scanned
answered p x s =
    let w = alarms_after x p s.places in
    let j = risen w s.alarms (stamp_of x s.time) s.journal in
    record {
      state = record { places = places_after x p s.places; time = s.time + x.elapsed; alarms = w; journal = j.journal };
      refusal = 0;
      place = 0;
      alarms = w;
      steps = steps_in x p s.places;
      rises = j.rises;
    }

-- a program that was accepted can be read
abbrev pub answer_of : Inputs → State → Read Program → Scanned
answer_of x s (got p end) = answered p x s
answer_of x s (fault n at) = refused_scan s n at

-- "Only after the whole is read come 3 .., then 4, 5, 6"; "A scan answers all six", and L2's 8 where 1 stood
unfoldable pub scan_of : List ℕ → Inputs → State → Scanned
scan_of bytes x s =
    pick (not (eqb (accepted bytes).refusal 0)) (refused_scan s (accepted bytes).refusal (accepted bytes).place)
    (pick (not (good_state s)) (refused_scan s bad_state 0)
    (pick (late x.elapsed s.time s.journal.missed) (refused_scan s too_far 0)
    (answer_of x s (program_at every_block bytes))))

-- "a take only 5"
abbrev pub handed_by : State → Taken → Handed
handed_by s t =
    record {
      state = record { places = s.places; time = s.time; alarms = s.alarms; journal = t.journal };
      refusal = 0;
      found = is_some t.entry;
      entry = unwrap_or t.entry zero_entry;
    }

unfoldable pub take_of : State → Handed
take_of s = pick (not (good_state s)) (refused_take s bad_state) (handed_by s (taken s.journal))
