-- What the numbers of a row's fields are, from their being allowed there: bounds by type, and the exceptions. Assumes nothing.
use Prim.Native.Nat.{ℕ, zero, suc, ◌+◌, ◌<◌, ◌≤◌}
use mathlib.Core.Path.{◌≡◌, refl}
use mathlib.Core.Bool.{Bool, true, false, ◌&&◌}
use mathlib.Core.List.{List, [], ◌∷◌}
use native.Mathlib.Omega.{arith}
use native.Mathlib.Nat.{add-zero, le_of_suc-le-suc, not-suc-le-zero}
use lib.Dec.{eqb, ltb, lit<}
use lib.ListN.{length, get_or}
use borrow.Author.Tests.{eqb-false, not-true}
use Rattle.kinds.specs.Kinds.{nothing, kind_of, types_of}
use Rattle.numbers.specs.Types.{word_pin, divisor, off_time, limits, allowed, excepted, content_of, setting_of}
use Rattle.numbers.proofs.References.{allowed_below}
use Rattle.terms.proofs.Choice.{both}
use Rattle.rules.specs.Rows.{all_allowed}

-- the setting before field j
abbrev pub before_at : List ℕ → ℕ → ℕ → List ℕ → ℕ → ℕ
before_at [] i before l j = before
before_at (ty ∷ ts) i before l zero = before
before_at (ty ∷ ts) i before l (suc j) = before_at ts (suc i) (setting_of (content_of ty (get_or l i 0))) l j

from :
    (ts : List ℕ) (i before : ℕ) (l : List ℕ) → all_allowed ts i before l ≡ true → (j : ℕ) → j < length ts →
    allowed (get_or ts j nothing) (before_at ts i before l j) (get_or l (i + j) 0) ≡ true
unfolding all_allowed
from [] i before l e j h = absurd (not-suc-le-zero h)
from (ty ∷ ts) i before l e zero h = rw (add-zero i) (both (allowed ty before (get_or l i 0)) _ e).0
from (ty ∷ ts) i before l e (suc j) h =
    let n : i + suc j ≡ suc i + j = omega arith in
    rw n (from ts (suc i) (setting_of (content_of ty (get_or l i 0))) l (both (allowed ty before (get_or l i 0)) _ e).1 j (le_of_suc-le-suc h))

module _ (ts : List ℕ) (l : List ℕ) (e : all_allowed ts 0 0 l ≡ true) (j : ℕ) (h : j < length ts) where
  pub here : allowed (get_or ts j nothing) (before_at ts 0 0 l j) (get_or l j 0) ≡ true
  here = let n : 0 + j ≡ j = omega arith in rw n at (from ts 0 0 l e j h)

  pub below : get_or l j 0 < get_or limits (get_or ts j nothing) 0
  below = allowed_below (get_or ts j nothing) (before_at ts 0 0 l j) (get_or l j 0) here

-- a word reference, whatever was before
pub word_allowed : (b v : ℕ) → allowed word_pin b v ≡ true → allowed word_pin 0 v ≡ true
unfolding allowed excepted
word_allowed b v e = e

-- a divisor is not 0
pub divisor_allowed : (b v : ℕ) → allowed divisor b v ≡ true → v ≡ 32768 → ⊥
unfolding allowed excepted
divisor_allowed b v e = eqb-false v 32768 (not-true (eqb v 32768) (both (ltb v 65536) _ e).1)

-- an off time after an on time: not both are 0
pub off_allowed : (b v : ℕ) → allowed off_time b v ≡ true → 0 < b + v
unfolding allowed excepted
off_allowed b v e = go (eqb b 0) (eqb v 0) refl refl (not-true (eqb b 0 && eqb v 0) (both (ltb v 32768) _ e).1)
  where
    go : (x y : Bool) → eqb b 0 ≡ x → eqb v 0 ≡ y → (x && y) ≡ false → 0 < b + v
    go true true p q r = let z : ◌≡◌ {A = ℕ} 0 1 = cc in absurd (omega arith)
    go true false p q r = omega (arith, eqb-false v 0 q)
    go false y p q r = omega (arith, eqb-false b 0 p)

-- no numbers are allowed for a BL, whose one field is no number
pub no_row : (l : List ℕ) → all_allowed (types_of 0) 0 0 l ≡ true → ⊥
unfolding kind_of
no_row l e = omega (arith, below (types_of 0) l e 0 (lit< tt))

-- one kind fewer to be
pub past : {n k : ℕ} → n ≤ k → (k ≡ n → ⊥) → suc n ≤ k
past h ne = omega arith

pub only : {n k : ℕ} → n ≤ k → k < suc n → k ≡ n
only h l = omega arith
