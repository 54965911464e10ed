-- Document 01, "The listing program": what a recording comes to, its program and then scan by scan. What scanlist prints is one reading of that.
-- A recording comes in windows: there are bytes at hand, and others may follow.
use Rattle.std.specs.Prelude.{List, [], ◌∷◌, ◌++◌, ℕ, zero, suc, ◌+◌, length, take, drop, eqb}
use Rattle.terms.specs.Choice.{pick}
use Rattle.program.specs.Acceptance.{accepted}
use Rattle.image.specs.declared.State.{State}
use Rattle.image.specs.State.{fresh_state}
use Rattle.scanning.specs.Scan.{Inputs}
use Rattle.calls.specs.declared.Scanned.{Scanned}
use Rattle.calls.specs.Calls.{scan_of}
use Rattle.recording.specs.Recording.{Part, whole, bad, cut, length_in, scan_at}

-- What a scan came to, or the program: the scan was run, with its inputs and its answer; "A refusal"; "A scan .. malformed or out of range"; one that is
-- "cut"; "A length malformed or over 16,384"; or "too few bytes". Each but the first "ends the run". L2: "Everything that reads numbers passes the
-- difference on", though document 01 has the same line for what is bad and for what is cut.
pub data Came : Type 0 where
  ran : Inputs → Scanned → Came
  refused : ℕ → ℕ → Came
  bad_scan : Came
  cut_scan : Came
  bad_program : Came
  cut_program : Came

-- how far a recording has come: its program is not all there yet; its scans are run, by that program and in a state; the run has ended
pub data Stage : Type 0 where
  opening : Stage
  playing : List ℕ → State → Stage
  over : Stage

-- what bytes at hand come to, how far the recording has come with them, and which of them are left to stand before those that follow
pub record Fed : Type 0 where
  pub came : List Came
  pub stage : Stage
  pub left : List ℕ

abbrev pub pausing : Stage → List ℕ → Fed
pausing g l = record { came = []; stage = g; left = l }

abbrev pub ending : Came → Fed
ending c = record { came = c ∷ []; stage = over; left = [] }

abbrev pub before : Came → Fed → Fed
before c f = record { came = c ∷ f.came; stage = f.stage; left = f.left }

-- ---- scans

-- the turn of a scan: it is run, up to the place after it; it is refused; it is bad; or it is not all there
pub data Turn : Type 0 where
  runs : Inputs → Scanned → ℕ → Turn
  refuses : Scanned → Turn
  fails : Turn
  waits : Turn

unfoldable pub turn_by : Inputs → ℕ → Scanned → Turn
turn_by x next a = pick (eqb a.refusal 0) (runs x a next) (refuses a)

abbrev pub turn_of : List ℕ → State → Part Inputs → Turn
turn_of program st (whole x next) = turn_by x next (scan_of program x st)
turn_of program st bad = fails
turn_of program st cut = waits

-- and what comes of it, where `rest` is what comes of the scans after it
abbrev pub played_by : List ℕ → State → List ℕ → (State → ℕ → Fed) → Turn → Fed
played_by program st l rest (runs x a next) = before (ran x a) (rest a.state next)
played_by program st l rest (refuses a) = ending (refused a.refusal a.place)
played_by program st l rest fails = ending bad_scan
played_by program st l rest waits = pausing (playing program st) l

-- the scans at hand, of which there are at most n
unfoldable pub played_in : ℕ → List ℕ → State → List ℕ → Fed
played_in zero program st l = pausing (playing program st) l
played_in (suc n) program st l = played_by program st l (λ s next. played_in n program s (drop next l)) (turn_of program st (scan_at l 0))

-- all of them: a scan takes bytes, so there are no more of them than bytes
unfoldable pub played : List ℕ → State → List ℕ → Fed
played program st l = played_in (length l) program st l

-- ---- the program

-- it is accepted, and its scans start at a place; it is refused; its length is bad; or it is not all there
pub data Opening : Type 0 where
  opens : List ℕ → ℕ → Opening
  refuses_it : ℕ → ℕ → Opening
  fails_it : Opening
  waits_it : Opening

unfoldable pub opened_by : List ℕ → ℕ → Opening
opened_by program next =
    pick (eqb (accepted program).refusal 0) (opens program next) (refuses_it (accepted program).refusal (accepted program).place)

abbrev pub opened_of : List ℕ → Part ℕ → Opening
opened_of l (whole n at) = opened_by (take n (drop at l)) (at + n)
opened_of l bad = fails_it
opened_of l cut = waits_it

unfoldable pub opening_in : List ℕ → Opening
opening_in l = opened_of l (length_in l)

-- "A refusal (the program's own before any scan is read)"
abbrev pub opened_to : List ℕ → Opening → Fed
opened_to l (opens program next) = played program fresh_state (drop next l)
opened_to l (refuses_it n at) = ending (refused n at)
opened_to l fails_it = ending bad_program
opened_to l waits_it = pausing opening l

-- ---- a recording

unfoldable pub fed : Stage → List ℕ → Fed
fed opening l = opened_to l (opening_in l)
fed (playing program st) l = played program st l
fed over l = pausing over []

-- where no bytes follow: "too few bytes", of the length too, are a program that is cut, and what is left of a scan is "cut"
abbrev pub finished : Stage → List ℕ → List Came
finished opening l = cut_program ∷ []
finished (playing program st) [] = []
finished (playing program st) (b ∷ l) = cut_scan ∷ []
finished over l = []

-- what a whole recording comes to
unfoldable pub course : List ℕ → List Came
course s = let f = fed opening s in f.came ++ finished f.stage f.left
