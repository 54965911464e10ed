-- Word references by the ranges of their numbers. Assumes nothing.
use Prim.Native.Nat.{ℕ, ◌+◌, ◌-◌, ◌≤◌, ◌<◌}
use mathlib.Core.Path.{◌≡◌, refl}
use mathlib.Core.Bool.{true, false, ◌&&◌}
use mathlib.Core.List.{List}
use native.Mathlib.Omega.{arith}
use lib.Dec.{ltb, leb}
use lib.IntN.{ℤ, pos, sub_ℕ}
use lib.ListN.{get_or}
use borrow.Author.Tests.{ltb-false, le-leb, not-true}
use Rattle.numbers.specs.Types.{word_pin, allowed, excepted, word_ref}
use Rattle.numbers.proofs.References.{word_cases, allowed_below}
use Rattle.terms.proofs.Choice.{both}
use Rattle.rules.specs.Rules.{word_in}

-- a word reference below 208 is a place of the list
pub word_low : (l : List ℤ) (r : ℕ) → r < 208 → get_or l r (pos 0) ≡ word_in l (word_ref r)
word_low l r h =
    word_cases (λ w. get_or l r (pos 0) ≡ word_in l w) r (λ a. refl)
    (λ a b. let e : r - 8 + 8 ≡ r = omega arith in rw e) (λ a. absurd (omega arith))

-- and any other is a constant
pub word_high : (l : List ℤ) (r : ℕ) → 208 ≤ r → sub_ℕ r 33768 ≡ word_in l (word_ref r)
word_high l r h = word_cases (λ w. sub_ℕ r 33768 ≡ word_in l w) r (λ a. absurd (omega arith)) (λ a b. absurd (omega arith)) (λ a. refl)

-- which is 1,000 or more
pub word_constant : (r : ℕ) → allowed word_pin 0 r ≡ true → 208 ≤ r → (1000 ≤ r) × (r < 66536)
unfolding allowed excepted
word_constant r e h =
    let g : (leb 208 r && ltb r 1000) ≡ false = not-true (leb 208 r && ltb r 1000) (both (ltb r 66536) _ e).1 in
    (ltb-false r 1000 (rw (le-leb 208 r h) at g), allowed_below word_pin 0 r e)
