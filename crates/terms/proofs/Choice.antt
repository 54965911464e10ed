-- What holds of both ways of a choice holds of the choice; what is on is not off; two numbers by their order; two tests that both come out; and a test of every
-- element, on a walk from the front.
use mathlib.Core.Path.{◌≡◌, refl, sym, ap}
use mathlib.Core.Bool.{Bool, true, false, ◌&&◌}
use mathlib.Core.Logic.{◌⊎◌, inl, inr}
use mathlib.Core.List.{List}
use Prim.Native.Nat.{ℕ, ◌+◌, ◌≤◌, ◌<◌}
use native.Mathlib.Numerals.{add-one}
use native.Mathlib.Omega.{arith}
use lib.ListN.{length, drop, get_or, drop_of_length-le}
use lib.Seq.{drop-cons}
use lib.Dec.{leb}
use borrow.Author.Tests.{leb-true, leb-false}
use Rattle.terms.specs.Choice.{pick, when, every}

pub pick_case :
    {A : Type 0} (P : A → Type 0) (b : Bool) {x y : A} → (b ≡ true → P x) → (b ≡ false → P y) → P (pick b x y)
pick_case P true f g = f refl
pick_case P false f g = g refl

pub when_case :
    {A : Type 0} (P : A → Type 0) (b : Bool) (f g : Unit {0} → A) → (b ≡ true → P (f tt)) → (b ≡ false → P (g tt)) → P (when b f g)
when_case P true f g x y = x refl
when_case P false f g x y = y refl

pub never : {A : Type 0} → true ≡ false → A
never e = let z : ◌≡◌ {A = ℕ} 0 1 = cc in absurd (omega arith)

-- two pairs are equal in both their parts
pub pairs : {A B : Type 0} {a c : A} {b d : B} → ◌≡◌ {A = A × B} (a, b) (c, d) → (a ≡ c) × (b ≡ d)
pairs {A} {B} e = (ap (λ (p : A × B). p.0) e, ap (λ (p : A × B). p.1) e)

pub le_or_lt : (a b : ℕ) → (a ≤ b) ⊎ (b < a)
le_or_lt a b = go (leb a b) refl
  where
    go : (t : Bool) → leb a b ≡ t → (a ≤ b) ⊎ (b < a)
    go true e = inl (leb-true a b e)
    go false e = inr (leb-false a b e)

pub both : (a b : Bool) → (a && b) ≡ true → (a ≡ true) × (b ≡ true)
both true b e = (refl, e)
both false b e = never (sym e)

module _ {A : Type 0} (test : A → Bool) (xs : List A) (i : ℕ) where
  pub every_pass : (d : A) → i < length xs → test (get_or xs i d) ≡ true → every test (drop (i + 1) xs) ≡ every test (drop i xs)
  every_pass d h e = sym (rw (add-one, drop-cons xs i d, e))

  pub every_fail : (d : A) → i < length xs → test (get_or xs i d) ≡ false → every test (drop i xs) ≡ false
  every_fail d h e = rw (drop-cons xs i d, e)

  pub every_end : length xs ≤ i → every test (drop i xs) ≡ true
  every_end h = rw drop_of_length-le
