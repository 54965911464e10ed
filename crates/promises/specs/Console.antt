-- The library's calls over a run: what a console keeps is the image of a state, call by call, and what it is answered is what the calls by value
-- answer. So the demands hold of it.
use Rattle.std.specs.Prelude.{List, [], ◌∷◌, ◌≡◌, ℕ}
use Rattle.scanning.specs.Scan.{Inputs}
use Rattle.image.specs.State.{fresh_state}
use Rattle.calls.specs.Calls.{scan_of, take_of}
use Rattle.image.specs.Image.{Image, image_of}
use Rattle.calls.specs.InPlace.{scan_answer, take_answer, scanned_in, after_scan, taken_in, after_take}
use Rattle.promises.specs.History.{Call, scan, take, state_after}

module _ (bytes : List ℕ) where
  abbrev pub image_for : Image → Call → Image
  image_for i (scan x) = after_scan bytes x i
  image_for i take = after_take i

  -- the image after calls, each on what the one before it left
  unfoldable pub image_after : Image → List Call → Image
  image_after i [] = i
  image_after i (c ∷ cs) = image_after (image_for i c) cs

pub record Console : Type 0 where
  pub kept : (bytes : List ℕ) (cs : List Call) → image_after bytes (image_of fresh_state) cs ≡ image_of (state_after bytes fresh_state cs)
  pub scans :
      (bytes : List ℕ) (cs : List Call) (x : Inputs)
      → scanned_in bytes x (image_after bytes (image_of fresh_state) cs) ≡ scan_answer (scan_of bytes x (state_after bytes fresh_state cs))
  pub takes :
      (bytes : List ℕ) (cs : List Call) → taken_in (image_after bytes (image_of fresh_state) cs) ≡ take_answer (take_of (state_after bytes fresh_state cs))
