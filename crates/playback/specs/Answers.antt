-- What the functions of this crate answer and write, in terms of turns and openings.
use Rattle.std.specs.Prelude.{◌≡◌, List, [], ℕ, length, Result, Ok, Err}
use Rattle.std.proofs.lemmas.List.Edits.{sets}
use Rattle.calls.specs.declared.Scanned.{Scanned}
use Rattle.recording.specs.declared.Lack.{Lack}
use Rattle.recording.specs.declared.Lack.TheVariants.{Bad as LackBad, Cut as LackCut}
use Rattle.playback.specs.Playback.{Turn, runs, refuses, fails, waits, Opening, opens, refuses_it, fails_it, waits_it}
use Rattle.playback.specs.declared.Halt.{Halt}
use Rattle.playback.specs.declared.Halt.TheVariants.{Refused, Bad, Waits}

-- what is not all there waits for more bytes
abbrev pub halt_of : Lack → Halt
halt_of LackBad = Bad
halt_of LackCut = Waits

-- a turn: the answer and the place after the scan, or why it was not run
abbrev pub turned : Turn → Result (Scanned × ℕ) Halt
turned (runs x a next) = Ok (a, next)
turned (refuses a) = Err (Refused a.refusal a.place)
turned fails = Err Bad
turned waits = Err Waits

-- an opening, whose program is copied out if it is accepted
abbrev pub opened_as : Opening → Result (ℕ × ℕ) Halt
opened_as (opens program next) = Ok (length program, next)
opened_as (refuses_it n at) = Err (Refused n at)
opened_as fails_it = Err Bad
opened_as waits_it = Err Waits

abbrev pub copied : Opening → List ℕ
copied (opens program next) = program
copied (refuses_it n at) = []
copied fails_it = []
copied waits_it = []

-- p was made q, and r is the answer
pub record OpenedIn (o : Opening) (p q : List ℕ) (r : Result (ℕ × ℕ) Halt) : Type 0 where
  pub program : q ≡ sets p 0 (copied o)
  pub answer : r ≡ opened_as o
