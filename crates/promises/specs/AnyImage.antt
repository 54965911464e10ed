-- "Any call, any content" for the calls that a console makes on its arrays, whatever these hold, and not only in a run from fresh: what each call
-- answers, and what it leaves in them.
use Rattle.std.specs.Prelude.{true, false, List, ◌≡◌, ◌↔◌, ℕ, ◌+◌, ◌-◌, ◌^◌, ◌<◌, ◌≤◌}
use Rattle.terms.specs.Refusals.{bad_state, too_far}
use Rattle.wire.specs.Reading.{got}
use Rattle.program.specs.Program.{Program, program_at}
use Rattle.program.specs.Acceptance.{every_block, accepted}
use Rattle.journal.specs.Journal.{zero_entry, taken as taken_from}
use Rattle.image.specs.State.{fresh_state}
use Rattle.image.specs.Image.{Image, time_in, missed_in, journal_in, state_in, image_of, good_image}
use Rattle.scanning.specs.Scan.{Inputs}
use Rattle.calls.specs.declared.ScanAnswer.{ScanAnswer}
use Rattle.calls.specs.declared.TakeAnswer.{TakeAnswer}
use Rattle.calls.specs.Calls.{answered, handed_by}
use Rattle.calls.specs.InPlace.{scan_answer, take_answer, scanned_in, after_scan, taken_in, after_take}
use Rattle.lanwezik.specs.declared.Scanned.{Scanned}
use Rattle.lanwezik.specs.declared.Given.{Given}
use Rattle.lanwezik.specs.Answers.{scanned, given}

-- a refusal answers zeros, and leaves every array as it was
pub record RefusedIn (i : Image) (n at : ℕ) (a : ScanAnswer) (j : Image) : Type 0 where
  pub refusal : a.refusal ≡ n
  pub place : a.place ≡ at
  pub alarms : a.alarms ≡ 0
  pub steps : a.steps ≡ 0
  pub rises : a.rises ≡ 0
  pub image : j ≡ i

pub record RefusedTakeIn (i : Image) (a : TakeAnswer) (j : Image) : Type 0 where
  pub refusal : a.refusal ≡ bad_state
  pub found : a.found ≡ false
  pub entry : a.entry ≡ zero_entry
  pub image : j ≡ i

-- a scan of the image i, which answers a and leaves j: 5 for what is no image of a state, or of a bad one
pub data ScanningIn (bytes : List ℕ) (x : Inputs) (i : Image) (a : ScanAnswer) (j : Image) : Type 0 where
  refuses_program :
      0 < (accepted bytes).refusal → RefusedIn i (accepted bytes).refusal (accepted bytes).place a j → ScanningIn bytes x i a j
  refuses_image : (accepted bytes).refusal ≡ 0 → good_image i ≡ false → RefusedIn i bad_state 0 a j → ScanningIn bytes x i a j
  refuses_time :
      (accepted bytes).refusal ≡ 0 → good_image i ≡ true → 2 ^ 64 - 1 < time_in i.log + x.elapsed → RefusedIn i too_far 0 a j →
      ScanningIn bytes x i a j
  refuses_missed :
      (accepted bytes).refusal ≡ 0 → good_image i ≡ true → 2 ^ 64 - 33 < missed_in i.log → RefusedIn i too_far 0 a j → ScanningIn bytes x i a j
  answers :
      (p : Program) (end : ℕ) → (accepted bytes).refusal ≡ 0 → good_image i ≡ true → time_in i.log + x.elapsed ≤ 2 ^ 64 - 1 →
      missed_in i.log ≤ 2 ^ 64 - 33 → program_at every_block bytes ≡ got p end → a ≡ scan_answer (answered p x (state_in i)) →
      j ≡ image_of (answered p x (state_in i)).state → ScanningIn bytes x i a j

-- a take
pub data TakingIn (i : Image) (a : TakeAnswer) (j : Image) : Type 0 where
  refuses : good_image i ≡ false → RefusedTakeIn i a j → TakingIn i a j
  hands :
      good_image i ≡ true → a ≡ take_answer (handed_by (state_in i) (taken_from (journal_in i.log))) →
      j ≡ image_of (handed_by (state_in i) (taken_from (journal_in i.log))).state → TakingIn i a j

-- the same refusals as a C program reads them
pub record RefusedScanC (n at : ℕ) (a : Scanned) : Type 0 where
  pub refusal : a.refusal ≡ n
  pub place : a.place ≡ at
  pub alarms : a.alarms ≡ 0
  pub steps : a.steps ≡ 0
  pub rises : a.rises ≡ 0

pub record RefusedTakeC (a : Given) : Type 0 where
  pub refusal : a.refusal ≡ bad_state
  pub found : a.found ≡ 0
  pub number : a.number ≡ 0
  pub time : a.time ≡ 0

pub record AnyImage : Type 0 where
  pub scanning :
      (bytes : List ℕ) (x : Inputs) (i : Image) (a : ScanAnswer) (j : Image) →
      ((a ≡ scanned_in bytes x i) × (j ≡ after_scan bytes x i)) ↔ ScanningIn bytes x i a j
  pub taking : (i : Image) (a : TakeAnswer) (j : Image) → ((a ≡ taken_in i) × (j ≡ after_take i)) ↔ TakingIn i a j
  -- fresh is never refused, and leaves an image of a good state
  pub fresh : good_image (image_of fresh_state) ≡ true
  -- 5 "exactly if", and what comes with a refusal, of the calls for C
  pub scan_five :
      (bytes : List ℕ) (x : Inputs) (i : Image) →
      (scanned (scanned_in bytes x i)).refusal ≡ bad_state ↔ (((accepted bytes).refusal ≡ 0) × (good_image i ≡ false))
  pub take_five : (i : Image) → (given (taken_in i)).refusal ≡ bad_state ↔ good_image i ≡ false
  pub scan_refused :
      (bytes : List ℕ) (x : Inputs) (i : Image) → let a = scanned (scanned_in bytes x i) in
      0 < a.refusal → RefusedScanC a.refusal a.place a × (after_scan bytes x i ≡ i)
  pub take_refused :
      (i : Image) → let a = given (taken_in i) in 0 < a.refusal → RefusedTakeC a × (after_take i ≡ i)
