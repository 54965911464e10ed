-- Request L3: "A 500 ms switch-on delay came after 100 ms, because the scan that first saw the pin had taken 400 ms. Ticks before the change must not
-- count." What DL comes to over scans: one in which I or C changes, and then any number in which both stay.
use Rattle.std.specs.Prelude.{Bool, true, false, List, [], ◌∷◌, ◌≡◌, ℕ, ◌+◌, ◌<◌, ◌≤◌, ℤ}
use Rattle.terms.specs.Choice.{pick}
use Rattle.place.specs.declared.Place.{Place}
use Rattle.place.specs.Places.{either_differs}
use Rattle.timers.specs.Timers.{ticks_in}
use Rattle.rules.specs.Rules.{rule_of}

-- the ticks that these scans took together
abbrev pub took : List ℕ → ℕ
took [] = 0
took (e ∷ es) = e + took es

-- a DL, kind 4 (I, C, unit, on, off): its place after scans that took these ticks each, while what is at its fields stays
abbrev pub after : (ℕ → Bool) → (ℕ → ℤ) → (ℕ → ℕ) → List ℕ → Place → Place
after pin word set [] p = p
after pin word set (e ∷ es) p = after pin word set es (rule_of 4 pin word set e p)

-- its time in ticks: the on time with I on, the off time with I off
abbrev pub time : (ℕ → Bool) → (ℕ → ℕ) → ℕ
time pin set = ticks_in (set 2) (pick (pin 0) (set 3) (set 4))

-- "a scan where I or C differs from its last pin"
abbrev pub Changes : (ℕ → Bool) → Place → Type 0
Changes pin p = either_differs (pin 0) (pin 1) p ≡ true

-- C is off, and I or C changes in the first scan, whatever that scan took and whatever was counted before it.
pub record OnTime : Type 0 where
  -- As long as the scans after it took less than the time, the output is as it was,
  pub not_early :
      (pin : ℕ → Bool) (word : ℕ → ℤ) (set : ℕ → ℕ) (e : ℕ) (es : List ℕ) (p : Place) → pin 1 ≡ false → Changes pin p →
      took es < time pin set → (after pin word set (e ∷ es) p).out ≡ p.out
  -- and as soon as they took it, the output is I: with a time of 0 in the scan of the change.
  pub not_late :
      (pin : ℕ → Bool) (word : ℕ → ℤ) (set : ℕ → ℕ) (e : ℕ) (es : List ℕ) (p : Place) → pin 1 ≡ false → Changes pin p →
      time pin set ≤ took es → (after pin word set (e ∷ es) p).out ≡ pin 0
