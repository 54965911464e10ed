-- What the rules of DL, OS and FL leave: an output, ticks up to a time (DL, OS) or below a period (FL), and the rest of the place as it was. So what
-- holds of every such place holds of what the rule leaves. Assumes nothing.
use Prim.Native.Nat.{ℕ, ◌+◌, ◌≤◌, ◌<◌}
use mathlib.Core.Bool.{Bool, false}
use native.Mathlib.Omega.{arith}
use native.Mathlib.Nat.{mod-lt}
use lib.Dec.{leb}
use borrow.Author.Tests.{leb-false}
use Rattle.terms.specs.Choice.{pick}
use Rattle.terms.proofs.Choice.{pick_case}
use Rattle.place.specs.declared.Place.{Place}
use Rattle.place.specs.Places.{timed_to, first_was, rises, differs}
use Rattle.timers.specs.Timers.{ticks_in, dl_ticks, dl, os, fl, fl_ticks}

module _ (M : Place → Type 0) (e : ℕ) (p : Place) where
  abbrev Timed : (ℕ → Type 0) → Type 0
  Timed Few = (o : Bool) (t : ℕ) → Few t → M (timed_to o t p)

  pub dl_left : (i c : Bool) (unit on off : ℕ) → Timed (λ t. t ≤ ticks_in unit (pick i on off)) → M (dl i c unit on off e p)
  unfolding dl
  dl_left i c unit on off f =
      let time = ticks_in unit (pick i on off) in
      pick_case M c (λ _. f false 0 (omega arith))
      (λ _. pick_case M (differs i p.out)
      (λ _. pick_case M (leb time (dl_ticks i c e p)) (λ _. f i 0 (omega arith))
      (λ lt. f p.out (dl_ticks i c e p) (omega (arith, leb-false time (dl_ticks i c e p) lt))))
      (λ _. f p.out 0 (omega arith)))

  pub os_left : (i c : Bool) (unit time : ℕ) → Timed (λ t. t ≤ ticks_in unit time) → M (os i c unit time e p)
  unfolding os
  os_left i c unit time f =
      pick_case M c (λ _. f false 0 (omega arith))
      (λ _. pick_case M p.out
      (λ _. pick_case M (leb (ticks_in unit time) (p.ticks + e)) (λ _. f false 0 (omega arith))
      (λ lt. f _ (p.ticks + e) (omega (arith, leb-false (ticks_in unit time) (p.ticks + e) lt))))
      (λ _. f _ 0 (omega arith)))

  -- a period of 0, which no program that can be read has, bounds nothing
  abbrev Within : ℕ → ℕ → Type 0
  Within period t = 0 < period → t < period

  pub fl_left : (i : Bool) (unit on off : ℕ) → Timed (Within (ticks_in unit on + ticks_in unit off)) → M (fl i unit on off e p)
  unfolding fl fl_ticks
  fl_left i unit on off f =
      let period = ticks_in unit on + ticks_in unit off in
      pick_case M i
      (λ _. f _ (fl_ticks i unit on off e p)
      (pick_case (Within period) (rises i (first_was p)) (λ _ some. some) (λ _ some. mod-lt (p.ticks + e) some)))
      (λ _. f false 0 (λ some. some))
