-- "Any call, any content": every call answers, or refuses by the table of refusals, and no refusal is given otherwise. That it ends is proved of
-- every function by Rattle itself. A row below gives one answer, and what is answered is what a row gives, exactly.
use Rattle.std.specs.Prelude.{true, false, List, ◌≡◌, ◌↔◌, ℕ, ◌+◌, ◌-◌, ◌^◌, ◌<◌, ◌≤◌}
use Rattle.terms.specs.Refusals.{bad_state, too_far}
use Rattle.wire.specs.Reading.{got}
use Rattle.program.specs.Program.{Program, program_at}
use Rattle.program.specs.Acceptance.{every_block, accepted}
use Rattle.order.specs.Acceptance.{InOrder}
use Rattle.journal.specs.Journal.{zero_entry, taken as taken_from}
use Rattle.image.specs.declared.State.{State}
use Rattle.calls.specs.declared.Scanned.{Scanned}
use Rattle.calls.specs.declared.Handed.{Handed}
use Rattle.image.specs.State.{good_state}
use Rattle.scanning.specs.Scan.{Inputs}
use Rattle.calls.specs.Calls.{answered, scan_of, handed_by, take_of}

-- "A refusal gives back the given state and zeros for alarm word, steps, rises and entry."
pub record RefusedScan (s : State) (n at : ℕ) (a : Scanned) : Type 0 where
  pub state : a.state ≡ s
  pub refusal : a.refusal ≡ n
  pub place : a.place ≡ at
  pub alarms : a.alarms ≡ 0
  pub steps : a.steps ≡ 0
  pub rises : a.rises ≡ 0

pub record RefusedTake (s : State) (n : ℕ) (a : Handed) : Type 0 where
  pub state : a.state ≡ s
  pub refusal : a.refusal ≡ n
  pub found : a.found ≡ false
  pub entry : a.entry ≡ zero_entry

-- a scan: the program's own refusals come first, "then 4, 5, 6", at place 0
pub data Scanning (bytes : List ℕ) (x : Inputs) (s : State) (a : Scanned) : Type 0 where
  refuses_program :
      0 < (accepted bytes).refusal → RefusedScan s (accepted bytes).refusal (accepted bytes).place a → Scanning bytes x s a
  refuses_state : (accepted bytes).refusal ≡ 0 → good_state s ≡ false → RefusedScan s bad_state 0 a → Scanning bytes x s a
  refuses_time : (accepted bytes).refusal ≡ 0 → good_state s ≡ true → 2 ^ 64 - 1 < s.time + x.elapsed → RefusedScan s too_far 0 a → Scanning bytes x s a
  refuses_missed :
      (accepted bytes).refusal ≡ 0 → good_state s ≡ true → 2 ^ 64 - 33 < s.journal.missed → RefusedScan s too_far 0 a → Scanning bytes x s a
  answers :
      (p : Program) (end : ℕ) → (accepted bytes).refusal ≡ 0 → good_state s ≡ true → s.time + x.elapsed ≤ 2 ^ 64 - 1 →
      s.journal.missed ≤ 2 ^ 64 - 33 → program_at every_block bytes ≡ got p end → a ≡ answered p x s → Scanning bytes x s a

-- a take
pub data Taking (s : State) (a : Handed) : Type 0 where
  refuses : good_state s ≡ false → RefusedTake s bad_state a → Taking s a
  hands : good_state s ≡ true → a ≡ handed_by s (taken_from s.journal) → Taking s a

pub record Demand1 : Type 0 where
  -- acceptance of a program, by its numbers in reading order
  pub accepting : InOrder
  pub scanning : (bytes : List ℕ) (x : Inputs) (s : State) (a : Scanned) → a ≡ scan_of bytes x s ↔ Scanning bytes x s a
  pub taking : (s : State) (a : Handed) → a ≡ take_of s ↔ Taking s a
