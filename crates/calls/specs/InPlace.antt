-- The calls on a state that a console keeps in arrays (ours), lent and written in place.
use Rattle.std.specs.Prelude.{false, not, List, ℕ, eqb}
use Rattle.terms.specs.Choice.{pick}
use Rattle.terms.specs.Refusals.{bad_state}
use Rattle.program.specs.declared.Acceptance.{Acceptance}
use Rattle.program.specs.Acceptance.{accepted}
use Rattle.journal.specs.Journal.{zero_entry}
use Rattle.image.specs.Image.{Image, state_in, image_of, is_image}
use Rattle.scanning.specs.Scan.{Inputs}
use Rattle.calls.specs.declared.Scanned.{Scanned}
use Rattle.calls.specs.declared.Handed.{Handed}
use Rattle.calls.specs.declared.ScanAnswer.{ScanAnswer}
use Rattle.calls.specs.declared.TakeAnswer.{TakeAnswer}
use Rattle.calls.specs.Calls.{scan_of, take_of}

-- the answers, without the state
abbrev pub refused_answer : ℕ → ℕ → ScanAnswer
refused_answer n at = record { refusal = n; place = at; alarms = 0; steps = 0; rises = 0 }

abbrev pub scan_answer : Scanned → ScanAnswer
scan_answer r = record { refusal = r.refusal; place = r.place; alarms = r.alarms; steps = r.steps; rises = r.rises }

abbrev pub refused_taken : TakeAnswer
refused_taken = record { refusal = bad_state; found = false; entry = zero_entry }

abbrev pub take_answer : Handed → TakeAnswer
take_answer r = record { refusal = r.refusal; found = r.found; entry = r.entry }

-- what a program refuses comes first, then n
abbrev pub refused_after : Acceptance → ℕ → ScanAnswer
refused_after a n = pick (not (eqb a.refusal 0)) (refused_answer a.refusal a.place) (refused_answer n 0)

-- A scan of an image: refusals of the program first, then 5 for what is no image, then the scan of its state.
unfoldable pub scanned_in : List ℕ → Inputs → Image → ScanAnswer
scanned_in bytes x i = pick (is_image i) (scan_answer (scan_of bytes x (state_in i))) (refused_after (accepted bytes) bad_state)

-- the image after it; a refused scan leaves it
unfoldable pub after_scan : List ℕ → Inputs → Image → Image
after_scan bytes x i = pick (eqb (scanned_in bytes x i).refusal 0) (image_of (scan_of bytes x (state_in i)).state) i

unfoldable pub taken_in : Image → TakeAnswer
taken_in i = pick (is_image i) (take_answer (take_of (state_in i))) refused_taken

unfoldable pub after_take : Image → Image
after_take i = pick (eqb (taken_in i).refusal 0) (image_of (take_of (state_in i)).state) i
