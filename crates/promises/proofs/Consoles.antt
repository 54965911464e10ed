-- What a console keeps is the image of a state: by the calls, one after another. Assumes nothing.
use Prim.Native.Nat.{ℕ, ◌^◌, ◌<◌, ◌≤◌}
use mathlib.Core.Path.{◌≡◌, refl}
use mathlib.Core.Bool.{not}
use mathlib.Core.List.{List, [], ◌∷◌, map}
use native.Mathlib.Omega.{arith}
use lib.Dec.{eqb}
use lib.Pow.{pow_mono}
use lib.ListN.{length, length-map, length-replicate}
use Rattle.terms.proofs.Choice.{pick_case}
use Rattle.wire.specs.Reading.{Read, got, fault}
use Rattle.program.specs.Program.{Program, program_at}
use Rattle.program.specs.Acceptance.{every_block, accepted}
use Rattle.scanning.specs.Scan.{Inputs, read_bit, scan_to, alarm_word}
use Rattle.image.specs.declared.State.{State}
use Rattle.calls.specs.declared.Scanned.{Scanned}
use Rattle.image.specs.State.{fresh_state, good_state, late}
use Rattle.calls.specs.Calls.{answered, answer_of, scan_of}
use Rattle.place.specs.Places.{fresh_place}
use Rattle.journal.specs.Journal.{fresh_journal, zero_entry}
use Rattle.image.specs.Image.{image_of}
use Rattle.calls.proofs.Whole.{Whole, took_whole, scan_whole}
use Rattle.calls.proofs.States.{take_of_image, after_take_lem, took_fit, scan_of_image, after_scan_lem, alarms_fit}
use Rattle.promises.specs.History.{Call, scan, take, state_of, state_after}
use Rattle.promises.specs.Console.{image_for, image_after, Console}
use Rattle.promises.proofs.GoodPlaces.{packed_below}
use Rattle.promises.proofs.ReadPrograms.{alarms_few}

-- what a state needs to have an image
pub record Kept (s : State) : Type 0 where
  pub whole : Whole s
  pub alarms : s.alarms < 2 ^ 32

-- the alarm word that a scan answers fits
abbrev Fits : Scanned → Type 0
Fits r = r.alarms < 2 ^ 32

word_fits : (bytes : List ℕ) (x : Inputs) (s : State) → (scan_of bytes x s).alarms < 2 ^ 32
unfolding scan_of answered alarm_word
word_fits bytes x s =
    pick_case Fits (not (eqb (accepted bytes).refusal 0)) (λ _. omega arith)
    (λ _. pick_case Fits (not (good_state s)) (λ _. omega arith)
    (λ _. pick_case Fits (late x.elapsed s.time s.journal.missed) (λ _. omega arith) (λ _. go (program_at every_block bytes) refl)))
  where
    go : (r : Read Program) → program_at every_block bytes ≡ r → (answer_of x s r).alarms < 2 ^ 32
    go (got p end) e =
        let bits = map (read_bit x (scan_to x p.blocks (length p.blocks) s.places)) p.alarms in
        let l : length bits ≤ 32 = rw (length-map p.alarms (read_bit x (scan_to x p.blocks (length p.blocks) s.places))) (alarms_few every_block bytes e) in
        omega (arith, packed_below bits, pow_mono l)
    go (fault n at) e = omega arith

-- one call
module _ (bytes : List ℕ) (s : State) (k : Kept s) where
  one_call : (c : Call) → image_for bytes (image_of s) c ≡ image_of (state_of bytes s c)
  one_call (scan x) = (after_scan_lem s k.whole k.alarms bytes x).image
  one_call take = (after_take_lem s k.whole k.alarms).image

  still_kept : (c : Call) → Kept (state_of bytes s c)
  still_kept (scan x) =
      record { whole = scan_whole bytes x s k.whole; alarms = alarms_fit s k.whole k.alarms bytes x (word_fits bytes x s) }
  still_kept take = record { whole = took_whole s k.whole; alarms = took_fit s k.whole k.alarms }

-- calls
module _ (bytes : List ℕ) where
  kept_after : (s : State) → Kept s → (cs : List Call) → Kept (state_after bytes s cs)
  unfolding state_after
  kept_after s k [] = k
  kept_after s k (c ∷ cs) = kept_after (state_of bytes s c) (still_kept bytes s k c) cs

  images : (s : State) → Kept s → (cs : List Call) → image_after bytes (image_of s) cs ≡ image_of (state_after bytes s cs)
  unfolding state_after image_after
  images s k [] = refl
  images s k (c ∷ cs) = rw (one_call bytes s k c) (images (state_of bytes s c) (still_kept bytes s k c) cs)

pub kept_fresh : Kept fresh_state
unfolding fresh_state fresh_journal
kept_fresh = record { whole = record { places = length-replicate 200 fresh_place; entries = length-replicate 32 zero_entry }; alarms = omega arith }

pub console : Console
console =
    record {
      kept = λ bytes cs. images bytes fresh_state kept_fresh cs;
      scans = λ bytes cs x.
          let k = kept_after bytes fresh_state kept_fresh cs in
          rw (images bytes fresh_state kept_fresh cs) (scan_of_image (state_after bytes fresh_state cs) k.whole k.alarms bytes x);
      takes = λ bytes cs.
          let k = kept_after bytes fresh_state kept_fresh cs in
          rw (images bytes fresh_state kept_fresh cs) (take_of_image (state_after bytes fresh_state cs) k.whole k.alarms);
    }
