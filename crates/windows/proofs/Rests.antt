-- What a feed leaves is the rest of the bytes at hand. Assumes nothing.
use Prim.Native.Nat.{ℕ, zero, suc, ◌+◌, ◌-◌, ◌≤◌}
use mathlib.Core.Path.{◌≡◌, refl, sym, ap, subst, ◌∙◌}
use mathlib.Core.Bool.{Bool, true, false}
use mathlib.Core.List.{List, []}
use native.Mathlib.Omega.{arith}
use lib.Dec.{eqb}
use lib.ListN.{length, take, drop, length-drop, drop_of_length-le}
use lib.Seq.{drop-drop}
use Rattle.terms.specs.Choice.{pick}
use Rattle.program.specs.Acceptance.{accepted}
use Rattle.image.specs.declared.State.{State}
use Rattle.image.specs.State.{fresh_state}
use Rattle.scanning.specs.Scan.{Inputs}
use Rattle.calls.specs.Calls.{scan_of}
use Rattle.recording.specs.Recording.{Part, whole, bad, cut, length_in, scan_at}
use Rattle.recording.proofs.Ends.{Takes, scan_takes}
use Rattle.recording.proofs.Heads.{Fit, length_fits}
use Rattle.playback.specs.Playback.{Stage, opening, playing, over, runs, refuses, turn_by, turn_of, played_by, played_in, played}
use Rattle.playback.specs.Playback.{opens, refuses_it, opened_by, opened_of, opening_in, opened_to, fed}

-- r is what stands in l from a place on
data Rest (l r : List ℕ) : Type 0 where
  from : (k : ℕ) → k ≤ length l → r ≡ drop k l → Rest l r

all_of_it : (l : List ℕ) → Rest l l
all_of_it l = from 0 (omega arith) refl

none_of_it : (l : List ℕ) → Rest l []
none_of_it l = let h : length l ≤ length l = omega arith in from (length l) h (sym (drop_of_length-le l h))

after : {l r : List ℕ} (k : ℕ) → k ≤ length l → Rest (drop k l) r → Rest l r
after {l} k h (from j i e) = let d = length-drop k l in from (k + j) (omega arith) (e ∙ drop-drop j k l)

rest_in : (n : ℕ) (program : List ℕ) (st : State) (l : List ℕ) → Rest l (played_in n program st l).left
unfolding played_in turn_by
rest_in zero program st l = all_of_it l
rest_in (suc n) program st l = by_part (scan_at l 0) refl (λ s k. rest_in n program s (drop k l))
  where
    by_part : (p : Part Inputs) → scan_at l 0 ≡ p → ((s : State) (k : ℕ) → Rest (drop k l) (played_in n program s (drop k l)).left)
        → Rest l (played_by program st l (λ s k. played_in n program s (drop k l)) (turn_of program st p)).left
    by_part (whole x k) e h = go (eqb (scan_of program x st).refusal 0)
      where
        inside : k ≤ length l
        inside = (subst (Takes l 11 0) e (scan_takes l 0 (omega arith))).1.1

        go : (b : Bool) → let a = scan_of program x st in
            Rest l (played_by program st l (λ s k. played_in n program s (drop k l)) (pick b (runs x a k) (refuses a))).left
        go true = after k inside (h (scan_of program x st).state k)
        go false = none_of_it l
    by_part bad e h = none_of_it l
    by_part cut e h = all_of_it l

played_rest : (program : List ℕ) (st : State) (l : List ℕ) → Rest l (played program st l).left
unfolding played
played_rest program st l = rest_in (length l) program st l

opened_rest : (l program : List ℕ) (next : ℕ) → next ≤ length l → Rest l (opened_to l (opened_by program next)).left
unfolding opened_by
opened_rest l program next h = go (eqb (accepted program).refusal 0)
  where
    go : (b : Bool) → Rest l (opened_to l (pick b (opens program next) (refuses_it (accepted program).refusal (accepted program).place))).left
    go true = after next h (played_rest program fresh_state (drop next l))
    go false = none_of_it l

opening_rest : (l : List ℕ) (p : Part ℕ) → Fit l p → Rest l (opened_to l (opened_of l p)).left
opening_rest l (whole n at) f = opened_rest l (take n (drop at l)) (at + n) f.1
opening_rest l bad f = none_of_it l
opening_rest l cut f = all_of_it l

fed_rest : (g : Stage) (l : List ℕ) → Rest l (fed g l).left
unfolding fed opening_in
fed_rest opening l = opening_rest l (length_in l) (length_fits l)
fed_rest (playing program st) l = played_rest program st l
fed_rest over l = none_of_it l

-- so it is found by how long it is
pub left_is : (g : Stage) (l : List ℕ) → drop (length l - length (fed g l).left) l ≡ (fed g l).left
left_is g l = go (fed_rest g l)
  where
    go : {r : List ℕ} → Rest l r → drop (length l - length r) l ≡ r
    go {r} (from k h e) =
        let d : length r ≡ length l - k = ap length e ∙ length-drop k l in
        let z : length l - length r ≡ k = omega arith in
        rw z (sym e)
