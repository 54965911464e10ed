-- `promises::any_image` meets its contract: the rows of the calls on arrays, and what follows of 5 and of refusals for the calls from C.
use mathlib.Core.Path.{◌≡◌, refl, sym, ap, ◌∙◌}
use mathlib.Core.Logic.{◌↔◌}
use mathlib.Core.Bool.{false}
use mathlib.Core.List.{List}
use Prim.Native.Nat.{ℕ, ◌<◌}
use native.Mathlib.Omega.{arith}
use Rattle.terms.specs.Refusals.{bad_state}
use Rattle.program.specs.Acceptance.{accepted}
use Rattle.image.specs.Image.{Image, good_image}
use Rattle.scanning.specs.Scan.{Inputs}
use Rattle.journal.specs.declared.Entry.{Entry}
use Rattle.terms.specs.Bits.{digit}
use Rattle.calls.specs.declared.ScanAnswer.{ScanAnswer}
use Rattle.calls.specs.declared.TakeAnswer.{TakeAnswer}
use Rattle.calls.specs.Calls.{answered}
use Rattle.calls.specs.InPlace.{refused_answer, refused_taken, scanned_in, after_scan, taken_in, after_take}
use Rattle.lanwezik.specs.Answers.{scanned, given}
use Rattle.promises.specs.AnyImage.{RefusedIn, ScanningIn, refuses_program, refuses_image, refuses_time, refuses_missed, answers}
use Rattle.promises.specs.AnyImage.{TakingIn, refuses, hands, RefusedScanC, RefusedTakeC, AnyImage}
use Rattle.promises.proofs.Closed.{accepted_other}
use Rattle.promises.proofs.Images.{image_scans, image_takes, image_fresh}
use Rattle.promises.proofs.any_image.Goals as goal

module _ (bytes : List ℕ) (x : Inputs) (i : Image) where
  row : ScanningIn bytes x i (scanned_in bytes x i) (after_scan bytes x i)
  row = (image_scans bytes x i (scanned_in bytes x i) (after_scan bytes x i)).0 (refl, refl)

  is_five : ScanningIn bytes x i (scanned_in bytes x i) (after_scan bytes x i) → (scanned_in bytes x i).refusal ≡ bad_state
      → ((accepted bytes).refusal ≡ 0) × (good_image i ≡ false)
  unfolding answered
  is_five (refuses_program h r) z = absurd (accepted_other bytes (sym r.refusal ∙ z))
  is_five (refuses_image ok g r) z = (ok, g)
  is_five (refuses_time ok g t r) z = absurd (omega (arith, r.refusal))
  is_five (refuses_missed ok g m r) z = absurd (omega (arith, r.refusal))
  is_five (answers p end ok g t m h a j) z = absurd (omega (arith, ap (λ (r : ScanAnswer). r.refusal) a))

  five : (scanned (scanned_in bytes x i)).refusal ≡ bad_state ↔ (((accepted bytes).refusal ≡ 0) × (good_image i ≡ false))
  five = (is_five row, λ h. back h)
    where
      back : ((accepted bytes).refusal ≡ 0) × (good_image i ≡ false) → (scanned_in bytes x i).refusal ≡ bad_state
      back h =
          let r : ScanningIn bytes x i (refused_answer bad_state 0) i =
          refuses_image h.0 h.1 (record { refusal = refl; place = refl; alarms = refl; steps = refl; rises = refl; image = refl }) in
          sym (ap (λ (r : ScanAnswer). r.refusal) ((image_scans bytes x i (refused_answer bad_state 0) i).1 r).0)

  -- what comes with a refusal
  abbrev Refused : Type 0
  Refused = let a = scanned (scanned_in bytes x i) in RefusedScanC a.refusal a.place a × (after_scan bytes x i ≡ i)

  so : {n at : ℕ} → RefusedIn i n at (scanned_in bytes x i) (after_scan bytes x i) → Refused
  so r = (record { refusal = refl; place = refl; alarms = r.alarms; steps = r.steps; rises = r.rises }, r.image)

  refused : ScanningIn bytes x i (scanned_in bytes x i) (after_scan bytes x i) → 0 < (scanned_in bytes x i).refusal → Refused
  unfolding answered
  refused (refuses_program h r) z = so r
  refused (refuses_image ok g r) z = so r
  refused (refuses_time ok g t r) z = so r
  refused (refuses_missed ok g m r) z = so r
  refused (answers p end ok g t m h a j) z = absurd (omega (arith, ap (λ (r : ScanAnswer). r.refusal) a))

-- the same of a take
module _ (i : Image) where
  take_row : TakingIn i (taken_in i) (after_take i)
  take_row = (image_takes i (taken_in i) (after_take i)).0 (refl, refl)

  is_taken_five : TakingIn i (taken_in i) (after_take i) → (taken_in i).refusal ≡ bad_state → good_image i ≡ false
  is_taken_five (refuses g r) z = g
  is_taken_five (hands g a j) z = absurd (omega (arith, ap (λ (r : TakeAnswer). r.refusal) a))

  taken_five : (given (taken_in i)).refusal ≡ bad_state ↔ good_image i ≡ false
  taken_five = (is_taken_five take_row, back)
    where
      back : good_image i ≡ false → (taken_in i).refusal ≡ bad_state
      back g =
          let r : TakingIn i refused_taken i = refuses g (record { refusal = refl; found = refl; entry = refl; image = refl }) in
          sym (ap (λ (r : TakeAnswer). r.refusal) ((image_takes i refused_taken i).1 r).0)

  take_refused : TakingIn i (taken_in i) (after_take i) → 0 < (taken_in i).refusal → RefusedTakeC (given (taken_in i)) × (after_take i ≡ i)
  take_refused (refuses g r) z = (
    record {
      refusal = r.refusal;
      found = ap digit r.found;
      number = ap (λ (e : Entry). e.number) r.entry;
      time = ap (λ (e : Entry). e.stamp.time) r.entry;
    },
    r.image,
  )
  take_refused (hands g a j) z = absurd (omega (arith, ap (λ (r : TakeAnswer). r.refusal) a))

all : AnyImage
all =
    record {
      scanning = image_scans;
      taking = image_takes;
      fresh = image_fresh;
      scan_five = five;
      take_five = taken_five;
      scan_refused = λ bytes x i. refused bytes x i (row bytes x i);
      take_refused = λ i. take_refused i (take_row i);
    }

pub returns : goal.returns
returns c =
    all
