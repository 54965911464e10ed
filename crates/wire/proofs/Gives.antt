-- What holds of all that a reading gives: one law for a reading after another. Assumes nothing.
use Prim.Native.Nat.{ℕ, suc}
use mathlib.Core.Path.{◌≡◌, refl, ap}
use mathlib.Core.List.{List, ◌∷◌}
use lib.ListN.{length}
use Rattle.wire.specs.Reading.{Read, got, fault, and_then}

abbrev pub Gives : {A : Type 0} → (A → Type 0) → Read A → Type 0
Gives P (got a next) = P a
Gives P (fault n at) = Unit {0}

pub gives_by : {A : Type 0} (P : A → Type 0) (r : Read A) → ((a : A) (n : ℕ) → r ≡ got a n → P a) → Gives P r
gives_by P (got a n) h = h a n refl
gives_by P (fault n at) h = tt

pub gives_then :
    {A B : Type 0} (P : A → Type 0) (Q : B → Type 0) (r : Read A) (f : A → ℕ → Read B) → Gives P r →
    ((a : A) (n : ℕ) → P a → Gives Q (f a n)) → Gives Q (and_then r f)
gives_then P Q (got a n) f h g = g a n h
gives_then P Q (fault n at) f h g = tt

-- the same, where nothing is asked of the first
pub gives_after : {A B : Type 0} (Q : B → Type 0) (r : Read A) (f : A → ℕ → Read B) → ((a : A) (n : ℕ) → Gives Q (f a n)) → Gives Q (and_then r f)
gives_after Q r f g = gives_then (λ _. Unit {0}) Q r f (gives_by (λ _. Unit {0}) r (λ _ _ _. tt)) (λ a n _. g a n)

-- as many as were asked for
abbrev pub Long : {A : Type 0} → ℕ → Read (List A) → Type 0
Long n r = Gives (λ l. length l ≡ n) r

pub long_cons : {A : Type 0} (n : ℕ) (a : A) (r : Read (List A)) → Long n r → Long (suc n) (and_then r (λ l end. got (a ∷ l) end))
long_cons n a r h = gives_then (λ l. length l ≡ n) (λ l. length l ≡ suc n) r _ h (λ l end e. ap suc e)
