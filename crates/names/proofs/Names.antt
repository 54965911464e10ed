-- The name of a bit reference, by the ranges of its number. Assumes nothing.
use Prim.Native.Nat.{ℕ, zero, suc, ◌+◌, ◌-◌, ◌/◌, ◌%◌, ◌<◌, ◌≤◌}
use mathlib.Core.Path.{◌≡◌, refl}
use mathlib.Core.List.{[], ◌∷◌, ◌++◌}
use native.Mathlib.Omega.{arith}
use lib.ListN.{length, length-append}
use Rattle.numbers.specs.Types.{bit_ref}
use Rattle.numbers.proofs.References.{bit_cases}
use Rattle.grammar.specs.Grammar.{digit, letter_b, letter_i}
use Rattle.shown.specs.Show.{in_digits, name_of}

module _ (r : ℕ) where
  pub name_steady : r < 2 → name_of (bit_ref r) ≡ (48 + r) ∷ []
  unfolding name_of
  name_steady h =
      bit_cases (λ b. name_of b ≡ (48 + r) ∷ []) r (λ e. rw e) (λ e. rw e) (λ f g. absurd (omega arith)) (λ f. absurd (omega arith))

  pub name_input : 2 ≤ r → r < 34 → name_of (bit_ref r) ≡ letter_i ∷ in_digits 2 (r - 2 + 1)
  unfolding name_of
  name_input g h =
      bit_cases (λ b. name_of b ≡ letter_i ∷ in_digits 2 (r - 2 + 1)) r (λ e. absurd (omega arith)) (λ e. absurd (omega arith)) (λ f g. refl)
      (λ f. absurd (omega arith))

  pub name_output : 34 ≤ r → name_of (bit_ref r) ≡ letter_b ∷ in_digits 3 (r - 34)
  unfolding name_of
  name_output h =
      bit_cases (λ b. name_of b ≡ letter_b ∷ in_digits 3 (r - 34)) r (λ e. absurd (omega arith)) (λ e. absurd (omega arith))
      (λ f g. absurd (omega arith)) (λ f. refl)

-- a number in k digits takes k bytes, and ends in its last digit
pub digits_long : (k n : ℕ) → length (in_digits k n) ≡ k
digits_long zero n = refl
digits_long (suc k) n = omega (arith, length-append (in_digits k (n / 10)) (digit (n % 10) ∷ []), digits_long k (n / 10))

pub digits_last : (k n : ℕ) → 0 < k → in_digits k n ≡ in_digits (k - 1) (n / 10) ++ (digit (n % 10) ∷ [])
digits_last zero n h = absurd (omega arith)
digits_last (suc k) n h = let e : suc k - 1 ≡ k = omega arith in rw e refl
