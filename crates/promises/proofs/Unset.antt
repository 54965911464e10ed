-- What a kind's rule does not set stays as it was. Assumes nothing.
use Prim.Native.Nat.{ℕ}
use mathlib.Core.Path.{◌≡◌, refl}
use mathlib.Core.Bool.{Bool, false}
use lib.IntN.{ℤ}
use Rattle.terms.proofs.Choice.{pick_case, never}
use Rattle.kinds.specs.Kinds.{kind_of}
use Rattle.place.specs.declared.Place.{Place}
use Rattle.switches.specs.Switches.{bl, sr, pl, al}
use Rattle.timing.proofs.Left.{dl_left, os_left, fl_left}
use Rattle.counters.specs.Counters.{cn, ud}
use Rattle.analog.specs.Analog.{cp, og, zc, st}
use Rattle.rules.specs.Rules.{Rule, rules, rule_of}
use Rattle.promises.specs.EachBlock.{counts}
use Rattle.promises.proofs.EachKind.{Each, ◌also◌, done, of_each}

module _ (pin : ℕ → Bool) (word : ℕ → ℤ) (set : ℕ → ℕ) (e : ℕ) (p : Place) where
  pub rule_pins : (rule_of 0 pin word set e p).pins ≡ p.pins
  unfolding rule_of bl
  rule_pins = refl

  -- DL, OS and FL alone set the ticks
  abbrev TicksStay : Place → Type 0
  TicksStay q = q.ticks ≡ p.ticks

  abbrev TicksUnset : ℕ → Rule → Type 0
  TicksUnset kind r = counts kind ≡ false → TicksStay (r pin word set e p)

  ticks_unset : Each TicksUnset 0 rules
  unfolding bl sr pl al cn ud cp og zc st
  ticks_unset =
      (λ _. refl)
      also (λ _. refl)
      also (λ _. refl)
      also (λ _. refl)
      also never
      also never
      also never
      also (λ _. refl)
      also (λ _. refl)
      also (λ _. refl)
      also (λ _. pick_case TicksStay (pin 0) (λ _. refl) (λ _. refl))
      also (λ _. refl)
      also (λ _. refl)
      also done

  pub rule_ticks : (kind : ℕ) → counts kind ≡ false → (rule_of kind pin word set e p).ticks ≡ p.ticks
  rule_ticks = of_each TicksUnset (λ k _. refl) ticks_unset

  -- CN, UD and OG alone set the word
  abbrev WordStays : Place → Type 0
  WordStays q = q.word ≡ p.word

  abbrev WordUnset : ℕ → Rule → Type 0
  WordUnset kind r = (kind_of kind).has_word ≡ false → WordStays (r pin word set e p)

  word_unset : Each WordUnset 0 rules
  unfolding kind_of bl sr pl al cp zc st
  word_unset =
      (λ _. refl)
      also (λ _. refl)
      also (λ _. refl)
      also (λ _. refl)
      also (λ _. dl_left WordStays e p (pin 0) (pin 1) (set 2) (set 3) (set 4) (λ o t _. refl))
      also (λ _. os_left WordStays e p (pin 0) (pin 1) (set 2) (set 3) (λ o t _. refl))
      also (λ _. fl_left WordStays e p (pin 0) (set 1) (set 2) (set 3) (λ o t _. refl))
      also never
      also never
      also (λ _. refl)
      also never
      also (λ _. refl)
      also (λ _. refl)
      also done

  pub rule_word : (kind : ℕ) → (kind_of kind).has_word ≡ false → (rule_of kind pin word set e p).word ≡ p.word
  rule_word = of_each WordUnset (λ k _. refl) word_unset
