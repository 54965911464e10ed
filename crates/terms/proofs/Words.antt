-- Words carried as numbers, n for n − k: they fit sixteen bits. Assumes nothing.
use Prim.Native.Nat.{ℕ, suc, ◌+◌, ◌-◌, ◌^◌, ◌≤◌, ◌<◌}
use mathlib.Core.Path.{◌≡◌, refl}
use mathlib.Core.Bool.{Bool, true, false, cond}
use native.Mathlib.Omega.{arith}
use lib.Dec.{ltb}
use lib.IntN.{pos, negsuc, sub_ℕ}
use borrow.Author.Tests.{ltb-true, ltb-false}
use mir.Syntax.{w16, w32}
use mir.Val.{SFits, to_z}
use mir.Facts.{to_z_pos, sfits_widen}

fits_by : (n k : ℕ) (t : Bool) → ltb n k ≡ t → k ≤ n + 32768 → n ≤ k + 32767 → SFits w16 (cond t (negsuc (k - suc n)) (pos (n - k)))
fits_by n k true e low high = record { sfits = omega (arith, ltb-true n k e) }
fits_by n k false e low high = record { sfits = omega (arith, ltb-false n k e) }

module _ (n k : ℕ) (low : k ≤ n + 32768) (high : n ≤ k + 32767) where
  pub narrow : SFits w16 (sub_ℕ n k)
  narrow = fits_by n k (ltb n k) refl low high

  pub wide : SFits w32 (sub_ℕ n k)
  wide = sfits_widen tt narrow

-- a number below 2^31 is itself in 32 signed bits
pub plain : (n : ℕ) → n < 2 ^ 31 → to_z w32 n ≡ pos n
plain n h = to_z_pos w32 h

pub plain_fits : {n : ℕ} → n < 2 ^ 31 → SFits w32 (pos n)
plain_fits h = record { sfits = h }

pub small_fits : {n : ℕ} → n < 2 ^ 15 → SFits w16 (pos n)
small_fits h = record { sfits = h }

-- a setting that is not carried as 32,768 is not 0
not_zero_by : (v : ℕ) (t : Bool) → ltb v 32768 ≡ t → (v ≡ 32768 → ⊥) → cond t (negsuc (32768 - suc v)) (pos (v - 32768)) ≡ pos 0 → ⊥
not_zero_by v true e ne z = let w : ◌≡◌ {A = ℕ} 0 1 = cc in omega arith
not_zero_by v false e ne z = let w : v - 32768 ≡ 0 = cc in omega (arith, ltb-false v 32768 e, ne (omega (arith, ltb-false v 32768 e)))

pub not_zero_lem : (v : ℕ) → (v ≡ 32768 → ⊥) → sub_ℕ v 32768 ≡ pos 0 → ⊥
not_zero_lem v ne z = not_zero_by v (ltb v 32768) refl ne z
