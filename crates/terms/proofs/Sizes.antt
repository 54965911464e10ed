-- Signed numbers: what a cast up and the machine's bits keep, and how large a product, a quotient and a sum can be.
use mathlib.Core.Path.{◌≡◌, refl}
use mathlib.Core.Bool.{Bool, true, false, cond}
use Prim.Native.Nat.{ℕ, zero, suc, ◌+◌, ◌-◌, ◌*◌, ◌/◌, ◌^◌, ◌≤◌, ◌<◌}
use native.Mathlib.Nat.{mul-le-mul, div-le_self}
use native.Mathlib.Omega.{arith}
use lib.IntN.{ℤ, pos, negsuc, neg_ℤ, nat_abs, ◌+ℤ◌, ◌*ℤ◌}
use lib.Signed.{lt_z, quot_z, mag, nat_abs-le}
use lib.Dec.{ltb}
use borrow.Author.Tests.{ltb-true, ltb-false}
use mir.Syntax.{w16, w32}
use mir.Val.{SFits, to_z, of_z}
use mir.Facts.{to_z-of_z, sfits_widen}

abs_neg : (n : ℕ) → nat_abs (neg_ℤ (pos n)) ≡ n
abs_neg zero = refl
abs_neg (suc n) = refl

pub abs_mul : (a b : ℤ) → nat_abs (a *ℤ b) ≡ nat_abs a * nat_abs b
abs_mul (pos a) (pos b) = refl
abs_mul (pos a) (negsuc b) = abs_neg (a * suc b)
abs_mul (negsuc a) (pos b) = abs_neg (suc a * b)
abs_mul (negsuc a) (negsuc b) = refl

pub abs_quot : (a b : ℤ) → nat_abs (quot_z a b) ≡ nat_abs a / nat_abs b
abs_quot (pos a) (pos b) = refl
abs_quot (pos a) (negsuc b) = abs_neg (a / suc b)
abs_quot (negsuc a) (pos b) = abs_neg (suc a / b)
abs_quot (negsuc a) (negsuc b) = refl

abs_cond : (a b : ℕ) (t : Bool) → ltb a b ≡ t → nat_abs (cond t (negsuc (b - suc a)) (pos (a - b))) ≤ a + b
abs_cond a b true e = omega (arith, ltb-true a b e)
abs_cond a b false e = omega arith

pub abs_add : (a b : ℤ) → nat_abs (a +ℤ b) ≤ nat_abs a + nat_abs b
abs_add (pos a) (pos b) = omega arith
abs_add (pos a) (negsuc b) = abs_cond a (suc b) _ refl
abs_add (negsuc a) (pos b) = omega (arith, abs_cond b (suc a) _ refl)
abs_add (negsuc a) (negsuc b) = omega arith

pub mag_abs : (z : ℤ) → mag z ≤ nat_abs z
mag_abs (pos n) = omega arith
mag_abs (negsuc n) = omega arith

-- a number whose size is below 2^31 fits 32 bits
pub fits_abs : (z : ℤ) → nat_abs z < 2 ^ 31 → SFits w32 z
fits_abs z h = record { sfits = omega (arith, mag_abs z) }

module _ {z : ℤ} (f : SFits w16 z) where
  pub up_fits : SFits w32 z
  up_fits = sfits_widen tt f

  pub cast_fits : SFits w32 (to_z w16 (of_z w16 z))
  cast_fits = rw (to_z-of_z f) up_fits

  pub up : to_z w32 (of_z w32 (to_z w16 (of_z w16 z))) ≡ z
  up = rw (to_z-of_z f) (to_z-of_z up_fits)

  pub word_abs : nat_abs z ≤ 2 ^ 15
  word_abs = nat_abs-le z f.sfits

pub nonzero_bits : (z : ℤ) → SFits w32 z → (z ≡ pos 0 → ⊥) → 0 < of_z w32 z
nonzero_bits (pos zero) f h = absurd (h refl)
nonzero_bits (pos (suc n)) f h = omega arith
nonzero_bits (negsuc n) f h = omega arith

module _ {a x : ℤ} (fa : SFits w16 a) (fx : SFits w16 x) where
  product_abs : nat_abs (a *ℤ x) ≤ 2 ^ 30
  product_abs = rw (abs_mul a x) (mul-le-mul (word_abs fa) (word_abs fx))

  pub product_fits : SFits w32 (a *ℤ x)
  product_fits = fits_abs (a *ℤ x) (omega (arith, product_abs))

  module _ {b : ℤ} (fb : SFits w16 b) where
    quot_abs : nat_abs (quot_z (a *ℤ x) b) ≤ 2 ^ 30
    quot_abs = rw (abs_quot (a *ℤ x) b) (omega (arith, product_abs, div-le_self (nat_abs (a *ℤ x)) (nat_abs b)))

    pub quot_fits : SFits w32 (quot_z (a *ℤ x) b)
    quot_fits = fits_abs (quot_z (a *ℤ x) b) (omega (arith, quot_abs))

    pub sum_fits : {c : ℤ} → SFits w16 c → SFits w32 (quot_z (a *ℤ x) b +ℤ c)
    sum_fits {c} fc =
        fits_abs (quot_z (a *ℤ x) b +ℤ c) (omega (arith, quot_abs, word_abs fc, abs_add (quot_z (a *ℤ x) b) c))

-- a number that is neither below nor above the word range is a word
pub in_word : (z : ℤ) → lt_z z (negsuc 32767) ≡ false → lt_z (pos 32767) z ≡ false → SFits w16 z
in_word (pos n) l h = record { sfits = omega (arith, ltb-false 32767 n h) }
in_word (negsuc n) l h = record { sfits = omega (arith, ltb-false 32767 n l) }

-- what a test on the machine's bits says of the number
module _ {z : ℤ} {t : Bool} (f : SFits w32 z) where
  pub test_low : (k : ℤ) → lt_z (to_z w32 (of_z w32 z)) k ≡ t → lt_z z k ≡ t
  test_low k h = rw (to_z-of_z f) at h

  pub test_high : (k : ℤ) → lt_z k (to_z w32 (of_z w32 z)) ≡ t → lt_z k z ≡ t
  test_high k h = rw (to_z-of_z f) at h

-- one more or one less than a word fits 32 bits
pub step_fits : {z : ℤ} (d : ℤ) → SFits w16 z → nat_abs d ≤ 1 → SFits w32 (z +ℤ d)
step_fits {z} d f h = fits_abs (z +ℤ d) (omega (arith, word_abs f, abs_add z d))
