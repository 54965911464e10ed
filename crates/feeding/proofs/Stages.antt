-- How far a window brings a recording: its player keeps the program, which stays in its buffer. Assumes nothing.
use Prim.Native.Nat.{ℕ, zero, suc, ◌≤◌}
use mathlib.Core.Path.{◌≡◌, refl, ap, ◌∙◌}
use mathlib.Core.Bool.{Bool, true, false}
use mathlib.Core.List.{List, []}
use native.Mathlib.Omega.{arith}
use lib.Dec.{eqb}
use lib.ListN.{length, take, drop}
use lib.Seq.{length-take-le}
use Rattle.terms.specs.Choice.{pick}
use Rattle.image.specs.declared.State.{State}
use Rattle.image.specs.State.{fresh_state}
use Rattle.scanning.specs.Scan.{Inputs}
use Rattle.calls.specs.Calls.{scan_of}
use Rattle.recording.specs.Recording.{Part, whole, bad, cut, scan_at, program_bytes}
use Rattle.playback.specs.Playback.{Stage, playing, over, pausing, fed}
use Rattle.playback.specs.Playback.{runs, refuses, turn_by, turn_of, played_by, played_in, played}
use Rattle.playback.specs.Playback.{Opening, opens, refuses_it, fails_it, waits_it, opening_in, opened_to}
use Rattle.playback.proofs.Openings.{opens_fit}
use Rattle.feeding.specs.Answers.{stage_of, FedOn}
use Rattle.telling.specs.declared.Player.{Player}
use Rattle.telling.specs.declared.Player.TheVariants.{Opening as IsOpening, Playing, Over}
use Rattle.telling.specs.Answers.{player_of, Held, Told}
use Rattle.telling.specs.declared.Fed.{Fed as FedAnswer}
use Rattle.windows.proofs.Rests.{left_is}
use Rattle.telling.proofs.Turns.{told_so}

-- the scans of a program leave it playing, or over
data Keeps (program : List ℕ) : Stage → Type 0 where
  plays : (st : State) → Keeps program (playing program st)
  ended : Keeps program over

keeps_in : (n : ℕ) (program : List ℕ) (st : State) (l : List ℕ) → Keeps program (played_in n program st l).stage
unfolding played_in turn_by
keeps_in zero program st l = plays st
keeps_in (suc n) program st l = by_part (scan_at l 0) (λ s k. keeps_in n program s (drop k l))
  where
    by_part : (p : Part Inputs) → ((s : State) (k : ℕ) → Keeps program (played_in n program s (drop k l)).stage)
        → Keeps program (played_by program st l (λ s k. played_in n program s (drop k l)) (turn_of program st p)).stage
    by_part (whole x k) h = go (eqb (scan_of program x st).refusal 0)
      where
        go : (b : Bool) → let a = scan_of program x st in
            Keeps program (played_by program st l (λ s k. played_in n program s (drop k l)) (pick b (runs x a k) (refuses a))).stage
        go true = h (scan_of program x st).state k
        go false = ended
    by_part bad h = ended
    by_part cut h = plays st

keeps : (program : List ℕ) (st : State) (l : List ℕ) → Keeps program (played program st l).stage
unfolding played
keeps program st l = keeps_in (length l) program st l

stage_kept : (program q : List ℕ) {g : Stage} → take (length program) q ≡ program → Keeps program g → stage_of (player_of g) q ≡ g
stage_kept program q e (plays st) = ap (λ (p : List ℕ). playing p st) e
stage_kept program q e ended = refl

-- so the player that a window leaves has come as far as the window
pub stage_told : (program q : List ℕ) (st : State) (v : List ℕ) {w l m : List ℕ} {r : FedAnswer} → take (length program) q ≡ program
    → Told (played program st v) w l m r → stage_of r.player q ≡ (played program st v).stage
stage_told program q st v e t =
    ap (λ (a : FedAnswer). stage_of a.player q) t.answer ∙ stage_kept program q e (keeps program st v)

-- the program of a player is the front of its buffer
pub front_of : (size : ℕ) (p : List ℕ) → size ≤ length p → take (length (take size p)) p ≡ take size p
front_of size p h = ap (λ (n : ℕ). take n p) (length-take-le size p h)

-- and what it has not used is left
pub left_told : (g : Stage) (w : List ℕ) {l m : List ℕ} {r : FedAnswer} → Told (fed g w) w l m r → drop r.used w ≡ (fed g w).left
left_told g w t = ap (λ (a : FedAnswer). drop a.used w) t.answer ∙ left_is g w

-- a window after the end
pub over_fed : (w p l : List ℕ) → FedOn over (fed over w) w p p l l (record { player = player_of over; used = length w; to = 0 })
unfolding fed
over_fed w p l =
    let t : Told (fed over w) w l l (record { player = player_of over; used = length w; to = 0 }) =
    told_so (pausing over []) w refl (record { bytes = refl; place = refl }) refl (omega arith) (omega arith) in
    record { told = t; program = refl; stage = refl; left = left_told over w t }

-- the program of a player stays within its buffer
keeps_held : {program : List ℕ} (p : List ℕ) {g : Stage} → length program ≤ length p → Keeps program g → Held (player_of g) p
keeps_held p h (plays st) = h
keeps_held p h ended = tt

open_held : (w p : List ℕ) → program_bytes ≤ length p → (o : Opening) → opening_in w ≡ o → Held (player_of (opened_to w o).stage) p
open_held w p h (opens program next) e =
    let f = opens_fit w e in
    keeps_held p (omega (arith, f.0)) (keeps program fresh_state (drop next w))
open_held w p h (refuses_it k at) e = tt
open_held w p h fails_it e = tt
open_held w p h waits_it e = tt

pub stays_held : (a : Player) (p w : List ℕ) → program_bytes ≤ length p → Held a p → Held (player_of (fed (stage_of a p) w).stage) p
unfolding fed
stays_held IsOpening p w h k = open_held w p h (opening_in w) refl
stays_held (Playing size st) p w h k =
    let l : length (take size p) ≤ length p = rw (length-take-le size p k) k in
    keeps_held p l (keeps (take size p) st w)
stays_held Over p w h k = tt
