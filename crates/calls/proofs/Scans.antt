-- A scan of an image by its refusals, in the order of the code, and by its answer. Assumes nothing.
use Prim.Native.Nat.{ℕ, ◌+◌, ◌-◌, ◌^◌, ◌<◌}
use mathlib.Core.Path.{◌≡◌, refl, sym, ap, ◌∙◌}
use mathlib.Core.Bool.{Bool, true, false, ◌||◌}
use mathlib.Core.List.{List}
use native.Mathlib.Omega.{arith}
use lib.Dec.{eqb, ltb}
use borrow.Author.Tests.{ltb-false}
use Rattle.terms.specs.Refusals.{bad_state, too_far}
use Rattle.terms.proofs.Choice.{both}
use Rattle.program.specs.Acceptance.{accepted}
use Rattle.image.specs.Image.{Image, image, columns_of, time_in, missed_in, is_image, good_image, state_in}
use Rattle.image.specs.State.{good_state, late}
use Rattle.image.specs.Lent.{SizedColumns}
use Rattle.image.proofs.Images.{image_parts}
use Rattle.scanning.specs.Scan.{Inputs}
use Rattle.scanning.specs.Run.{places_after, steps_in, alarms_after, after_run}
use Rattle.scanning.proofs.Ran.{Ran}
use Rattle.log_book.specs.Logbook.{risen_in, log_closed}
use Rattle.calls.specs.declared.ScanAnswer.{ScanAnswer}
use Rattle.calls.specs.Calls.{stamp_of, answered, scan_of}
use Rattle.calls.specs.InPlace.{refused_after, scan_answer, scanned_in, after_scan}

-- a good image is one, of a good state
pub record GoodImage (i : Image) : Type 0 where
  pub is : is_image i ≡ true
  pub state : good_state (state_in i) ≡ true

pub good_parts : (i : Image) → good_image i ≡ true → GoodImage i
unfolding good_image
good_parts i e = let b = both _ _ e in record { is = b.0; state = b.1 }

-- what is not late fits
pub not_late : (e time missed : ℕ) → late e time missed ≡ false → (time + e < 2 ^ 64) × (missed + 32 < 2 ^ 64)
unfolding late
not_late e time missed h = go (ltb (2 ^ 64 - 1) (time + e)) (ltb (2 ^ 64 - 33) missed) refl refl h
  where
    go : (a b : Bool) → ltb (2 ^ 64 - 1) (time + e) ≡ a → ltb (2 ^ 64 - 33) missed ≡ b → (a || b) ≡ false
        → (time + e < 2 ^ 64) × (missed + 32 < 2 ^ 64)
    go true b p q z = let w : ◌≡◌ {A = ℕ} 0 1 = cc in absurd (omega arith)
    go false true p q z = let w : ◌≡◌ {A = ℕ} 0 1 = cc in absurd (omega arith)
    go false false p q z = (omega (arith, ltb-false (2 ^ 64 - 1) (time + e) p), omega (arith, ltb-false (2 ^ 64 - 33) missed q))

module _ (bytes : List ℕ) (x : Inputs) (i : Image) where
  -- a refused scan leaves the image
  abbrev pub Refused : ScanAnswer → Type 0
  Refused r = (r ≡ scanned_in bytes x i) × (i ≡ after_scan bytes x i)

  refused : {r : ScanAnswer} → scanned_in bytes x i ≡ r → eqb r.refusal 0 ≡ false → Refused r
  unfolding after_scan
  refused e f = (sym e, rw (e, f))

  pub by_state : good_image i ≡ false → Refused (refused_after (accepted bytes) bad_state)
  unfolding scanned_in scan_of good_image
  by_state h = go (is_image i) refl (good_state (state_in i)) refl (eqb (accepted bytes).refusal 0) refl
    where
      go : (a : Bool) → is_image i ≡ a → (b : Bool) → good_state (state_in i) ≡ b → (c : Bool) → eqb (accepted bytes).refusal 0 ≡ c
          → Refused (refused_after (accepted bytes) bad_state)
      go false e b f true g = refused (rw (e, g)) (rw g)
      go false e b f false g = refused (rw (e, g)) (rw g g)
      go true e false f true g = refused (rw (e, f, g)) (rw g)
      go true e false f false g = refused (rw (e, f, g)) (rw g g)
      go true e true f c g = let z : true ≡ false = rw (e, f) at h in let w : ◌≡◌ {A = ℕ} 0 1 = cc in absurd (omega arith)

  module _ (good : GoodImage i) where
    pub by_time : late x.elapsed (time_in i.log) (missed_in i.log) ≡ true → Refused (refused_after (accepted bytes) too_far)
    unfolding scanned_in scan_of
    by_time l = go (eqb (accepted bytes).refusal 0) refl
      where
        go : (c : Bool) → eqb (accepted bytes).refusal 0 ≡ c → Refused (refused_after (accepted bytes) too_far)
        go true g = refused (rw (good.is, good.state, l, g)) (rw g)
        go false g = refused (rw (good.is, g)) (rw g g)

    pub by_program : (n : ℕ) → eqb (accepted bytes).refusal 0 ≡ false → Refused (refused_after (accepted bytes) n)
    unfolding scanned_in scan_of
    by_program n g = refused (rw (good.is, g)) (rw g g)

    -- the scan of a program that ran: its answer, and the image after it
    module _ (on_time : late x.elapsed (time_in i.log) (missed_in i.log) ≡ false) (r : Ran bytes x i.columns) where
      scan_answers : scan_of bytes x (state_in i) ≡ answered r.program x (state_in i)
      unfolding scan_of
      scan_answers = rw (r.accepts, good.state, on_time, r.read)

      answer : scanned_in bytes x i ≡ scan_answer (answered r.program x (state_in i))
      unfolding scanned_in
      answer = rw (good.is, scan_answers)

      abbrev word : ℕ
      word = alarms_after x r.program (state_in i).places

      pub by_answer :
          scanned_in bytes x i
          ≡ record {
            refusal = 0;
            place = 0;
            alarms = word;
            steps = steps_in x r.program (state_in i).places;
            rises = (risen_in (stamp_of x (time_in i.log)) word i.log).rises;
          }
      unfolding answered
      by_answer = answer

      after_answer : after_scan bytes x i ≡ image (log_closed (stamp_of x (time_in i.log)) word i.log) (columns_of (places_after x r.program (state_in i).places))
      unfolding after_scan answered
      after_answer = rw (answer, scan_answers)

      pub image_after_lem : SizedColumns i.columns → image (log_closed (stamp_of x (time_in i.log)) word i.log) (after_run bytes x i.columns) ≡ after_scan bytes x i
      image_after_lem s =
          ap (image (log_closed (stamp_of x (time_in i.log)) word i.log)) (r.columns s (image_parts i good.is).bits) ∙ sym after_answer
