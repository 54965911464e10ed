-- A DL from a change on: in that scan its ticks are 0, and from then they are what the scans took, until they reach the time. Assumes nothing.
use mathlib.Core.Bool.{Bool, true, false, not}
use mathlib.Core.List.{List, [], ◌∷◌}
use mathlib.Core.Path.{◌≡◌, refl, sym, ◌∙◌}
use Prim.Native.Nat.{ℕ, ◌+◌, ◌<◌, ◌≤◌}
use native.Mathlib.Omega.{arith}
use lib.Dec.{leb}
use lib.IntN.{ℤ}
use borrow.Author.Tests.{leb-true, leb-false}
use Rattle.terms.specs.Bits.{packed}
use Rattle.terms.proofs.Choice.{pick_case, never}
use Rattle.place.specs.declared.Place.{Place}
use Rattle.place.specs.Places.{differs, either_differs}
use Rattle.timers.specs.Timers.{dl_ticks, dl}
use Rattle.rules.specs.Rules.{stores, rule_of}
use Rattle.timing.specs.OnTime.{took, after, time, Changes, OnTime}

differs_not : (i : Bool) → differs i (not i) ≡ true
differs_not true = refl
differs_not false = refl

differs_same : (i : Bool) → differs i i ≡ false
differs_same true = refl
differs_same false = refl

other : (i o : Bool) → differs i o ≡ true → o ≡ not i
other true true e = never (sym e)
other true false e = refl
other false true e = refl
other false false e = never (sym e)

same : (i o : Bool) → differs i o ≡ false → o ≡ i
same true true e = refl
same true false e = never e
same false true e = never e
same false false e = refl

-- a place whose last pins are I and C off
abbrev steady : Bool → Bool → ℕ → ℤ → Place
steady i o t w = record { pins = packed (i ∷ false ∷ []); out = o; ticks = t; word = w }

-- with the pins as they were, ticks grow
grows : (i o : Bool) (e t : ℕ) (w : ℤ) → dl_ticks i false e (steady i o t w) ≡ t + e
unfolding dl_ticks
grows true o e t w = refl
grows false o e t w = refl

-- in a change they are 0
starts : (i c : Bool) (e : ℕ) (p : Place) → either_differs i c p ≡ true → dl_ticks i c e p ≡ 0
unfolding dl_ticks
starts i c e p h = rw h

module _ (pin : ℕ → Bool) (word : ℕ → ℤ) (set : ℕ → ℕ) (off : pin 1 ≡ false) where
  -- What holds of the place after one more scan: the time is reached, or ticks grow;
  waits :
      (M : Place → Type 0) (e t : ℕ) (w : ℤ) → (time pin set ≤ t + e → M (steady (pin 0) (pin 0) 0 w)) →
      (t + e < time pin set → M (steady (pin 0) (not (pin 0)) (t + e) w)) → M (rule_of 4 pin word set e (steady (pin 0) (not (pin 0)) t w))
  unfolding rule_of dl
  waits M e t w f g =
      rw (off, differs_not (pin 0), grows (pin 0) (not (pin 0)) e t w)
      (pick_case (λ q. M (stores (pin 0 ∷ false ∷ []) q)) (leb (time pin set) (t + e)) (λ h. f (leb-true (time pin set) (t + e) h))
      (λ h. g (leb-false (time pin set) (t + e) h)))

  -- or I is the output already.
  rests : (M : Place → Type 0) (e t : ℕ) (w : ℤ) → M (steady (pin 0) (pin 0) 0 w) → M (rule_of 4 pin word set e (steady (pin 0) (pin 0) t w))
  unfolding rule_of dl
  rests M e t w h = rw (off, differs_same (pin 0)) h

  follows : (es : List ℕ) (t : ℕ) (w : ℤ) → (after pin word set es (steady (pin 0) (pin 0) t w)).out ≡ pin 0
  follows [] t w = refl
  follows (e ∷ es) t w = rests (λ q. (after pin word set es q).out ≡ pin 0) e t w (follows es 0 w)

  early : (es : List ℕ) (t : ℕ) (w : ℤ) → t + took es < time pin set → (after pin word set es (steady (pin 0) (not (pin 0)) t w)).out ≡ not (pin 0)
  early [] t w h = refl
  early (e ∷ es) t w h =
      waits (λ q. (after pin word set es q).out ≡ not (pin 0)) e t w (λ r. absurd (omega (arith, h, r))) (λ _. early es (t + e) w (omega (arith, h)))

  late :
      (es : List ℕ) (t : ℕ) (w : ℤ) → t < time pin set → time pin set ≤ t + took es →
      (after pin word set es (steady (pin 0) (not (pin 0)) t w)).out ≡ pin 0
  late [] t w l h = absurd (omega (arith, h, l))
  late (e ∷ es) t w l h =
      waits (λ q. (after pin word set es q).out ≡ pin 0) e t w (λ _. follows es 0 w) (λ r. late es (t + e) w r (omega (arith, h)))

  -- the scan of the change: I is the output, the time is 0, or the count begins
  changes :
      (M : Place → Type 0) (e : ℕ) (p : Place) → Changes pin p → (p.out ≡ pin 0 → M (steady (pin 0) (pin 0) 0 p.word)) →
      (p.out ≡ not (pin 0) → time pin set ≤ 0 → M (steady (pin 0) (pin 0) 0 p.word)) →
      (p.out ≡ not (pin 0) → 0 < time pin set → M (steady (pin 0) (not (pin 0)) 0 p.word)) → M (rule_of 4 pin word set e p)
  unfolding rule_of dl
  changes M e p h is at_once begins =
      let Stored : Place → Type 0 = λ q. M (stores (pin 0 ∷ false ∷ []) q) in
      rw (starts (pin 0) (pin 1) e p h, off)
      (pick_case Stored (differs (pin 0) p.out)
      (λ d. let o = other (pin 0) p.out d in
      pick_case Stored (leb (time pin set) 0) (λ r. at_once o (leb-true (time pin set) 0 r)) (λ r. rw o (begins o (leb-false (time pin set) 0 r))))
      (λ d. let o = same (pin 0) p.out d in rw o (is o)))

pub on_time : OnTime
on_time =
    record {
      not_early = λ pin word set e es p off h less.
          changes pin word set off (λ q. (after pin word set es q).out ≡ p.out) e p h (λ o. follows pin word set off es 0 p.word ∙ sym o)
          (λ o z. absurd (omega (arith, z, less))) (λ o _. early pin word set off es 0 p.word (omega (arith, less)) ∙ sym o);
      not_late = λ pin word set e es p off h most.
          changes pin word set off (λ q. (after pin word set es q).out ≡ pin 0) e p h (λ o. follows pin word set off es 0 p.word)
          (λ o z. follows pin word set off es 0 p.word) (λ o l. late pin word set off es 0 p.word l (omega (arith, most)));
    }
