-- A call on a state by its image: the answer is that of the state, and the image after it that of the state after it. Assumes nothing.
use Prim.Native.Nat.{ℕ, ◌^◌, ◌<◌}
use mathlib.Core.Path.{◌≡◌, refl, ap, ◌∙◌}
use mathlib.Core.Bool.{Bool, true, false, not}
use mathlib.Core.List.{List}
use lib.Dec.{eqb}
use Rattle.terms.specs.Choice.{pick}
use Rattle.terms.proofs.Choice.{pick_case}
use Rattle.program.specs.Program.{Program}
use Rattle.image.specs.declared.State.{State}
use Rattle.image.specs.Image.{Image, alarms_in, is_image, state_in, image_of}
use Rattle.image.specs.State.{good_state}
use Rattle.image.proofs.Images.{is_image_lem, state_again}
use Rattle.scanning.specs.Scan.{Inputs}
use Rattle.calls.specs.declared.Scanned.{Scanned}
use Rattle.calls.specs.declared.Handed.{Handed}
use Rattle.calls.specs.Calls.{answered, scan_of, take_of}
use Rattle.calls.specs.InPlace.{scan_answer, scanned_in, after_scan, take_answer, taken_in, after_take}
use Rattle.calls.proofs.Whole.{Whole, took_whole, scan_case, scan_whole}

-- the state after a call by value, and the number that it refuses with: a refusal leaves the state
record Leaves (s after : State) (n : ℕ) : Type 0 where
  stays : pick (eqb n 0) (image_of after) (image_of s) ≡ image_of after

-- the image that a call leaves is that of the state after it
pub record Left (i : Image) (after : State) : Type 0 where
  pub image : i ≡ image_of after
  pub alarms : alarms_in i.log ≡ after.alarms
  pub state : state_in i ≡ after

left : {i : Image} {after : State} → i ≡ image_of after → Whole after → Left i after
left {i} {after} e w =
    record { image = e; alarms = ap (λ (j : Image). alarms_in j.log) e; state = ap state_in e ∙ state_again after w.places w.entries }

module _ (s : State) (w : Whole s) (alarms : s.alarms < 2 ^ 32) where
  is : is_image (image_of s) ≡ true
  is = is_image_lem s alarms

  again : state_in (image_of s) ≡ s
  again = state_again s w.places w.entries

  -- a take
  pub take_of_image : taken_in (image_of s) ≡ take_answer (take_of s)
  unfolding taken_in
  take_of_image = rw (is, again)

  take_leaves : Leaves s (take_of s).state (take_of s).refusal
  unfolding take_of
  take_leaves = pick_case (λ (r : Handed). Leaves s r.state r.refusal) (not (good_state s)) (λ _. record { stays = refl }) (λ _. record { stays = refl })

  pub after_take_lem : Left (after_take (image_of s)) (take_of s).state
  unfolding after_take
  after_take_lem = left (rw (take_of_image, again) take_leaves.stays) (took_whole s w)

  -- a scan
  module _ (bytes : List ℕ) (x : Inputs) where
    pub scan_of_image : scanned_in bytes x (image_of s) ≡ scan_answer (scan_of bytes x s)
    unfolding scanned_in
    scan_of_image = rw (is, again)

    refused_leaves : (n : ℕ) → Leaves s s n
    refused_leaves n = record { stays = go (eqb n 0) }
      where
        go : (b : Bool) → pick b (image_of s) (image_of s) ≡ image_of s
        go true = refl
        go false = refl

    answered_leaves : (p : Program) → Leaves s (answered p x s).state (answered p x s).refusal
    unfolding answered
    answered_leaves p = record { stays = refl }

    scan_leaves : Leaves s (scan_of bytes x s).state (scan_of bytes x s).refusal
    scan_leaves = scan_case (λ (r : Scanned). Leaves s r.state r.refusal) bytes x s (λ n at. refused_leaves n) answered_leaves

    pub after_scan_lem : Left (after_scan bytes x (image_of s)) (scan_of bytes x s).state
    unfolding after_scan
    after_scan_lem = left (rw (scan_of_image, again) scan_leaves.stays) (scan_whole bytes x s w)

    -- the alarm word kept fits if the one answered does
    answered_alarms : (p : Program) → (answered p x s).alarms < 2 ^ 32 → (answered p x s).state.alarms < 2 ^ 32
    unfolding answered
    answered_alarms p h = h

    pub alarms_fit : (scan_of bytes x s).alarms < 2 ^ 32 → (scan_of bytes x s).state.alarms < 2 ^ 32
    alarms_fit = scan_case (λ (r : Scanned). r.alarms < 2 ^ 32 → r.state.alarms < 2 ^ 32) bytes x s (λ n at _. alarms) answered_alarms

  took_alarms : (take_of s).state.alarms ≡ s.alarms
  unfolding take_of
  took_alarms = pick_case (λ (r : Handed). r.state.alarms ≡ s.alarms) (not (good_state s)) (λ _. refl) (λ _. refl)

  pub took_fit : (take_of s).state.alarms < 2 ^ 32
  took_fit = rw took_alarms alarms
