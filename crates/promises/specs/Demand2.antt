-- "Exactly the block rules": in every scan of a run, and not only the first.
use Rattle.std.specs.Prelude.{List, ◌≡◌, ℕ, ◌+◌, ◌≤◌, length}
use Rattle.program.specs.Program.{Program}
use Rattle.program.specs.Acceptance.{accepted}
use Rattle.terms.specs.Bits.{packed}
use Rattle.image.specs.declared.State.{State}
use Rattle.calls.specs.declared.Scanned.{Scanned}
use Rattle.image.specs.State.{fresh_state}
use Rattle.scanning.specs.Scan.{Inputs}
use Rattle.scanning.specs.Run.{steps_in}
use Rattle.calls.specs.Calls.{scan_of}
use Rattle.promises.specs.History.{Call, state_after, answered_of, Past, fresh_past, places_then, bits_then, rises_then, past_after, program_of}

-- a scan's answer is the rules': every output, word, timer and counter, the time, the alarm word, the steps, the rises
pub record ByTheRules (bytes : List ℕ) (p : Program) (x : Inputs) (m : Past) (a : Scanned) : Type 0 where
  pub places : a.state.places ≡ places_then p x m
  pub time : a.state.time ≡ m.time + x.elapsed
  pub alarms : a.alarms ≡ packed (bits_then p x m)
  pub last : a.state.alarms ≡ packed (bits_then p x m)
  pub steps : a.steps ≡ steps_in x p m.places
  pub figure : a.steps ≤ (accepted bytes).steps
  pub rises : a.rises ≡ length (rises_then p x m)

-- after any calls: what the state has is what the rules say, and the next scan, if it is not refused, is theirs
pub record Demand2 (bytes : List ℕ) (s : State) (m : Past) : Type 0 where
  pub places : s.places ≡ m.places
  pub time : s.time ≡ m.time
  pub alarms : s.alarms ≡ packed m.bits
  pub next : (x : Inputs) → (scan_of bytes x s).refusal ≡ 0 → ByTheRules bytes (program_of bytes) x m (scan_of bytes x s)

abbrev pub EveryRun : Type 0
EveryRun =
    (bytes : List ℕ) (cs : List Call) →
    Demand2 bytes (state_after bytes fresh_state cs) (past_after (program_of bytes) fresh_past (answered_of bytes fresh_state cs))
