-- One reading after another, both ways: what is read of some numbers and of others behind them is read of all, and what is read was written in the
-- numbers of its parts. Assumes nothing.
use Prim.Native.Nat.{ℕ}
use mathlib.Core.Path.{◌≡◌}
use mathlib.Core.List.{List, ◌++◌}
use Rattle.wire.specs.Reading.{Read, got, fault, and_then}
use Rattle.forms.proofs.Standing.{past, past_both, Numbered, numbered_both}

-- what is read of some numbers and of others behind them is read of all
pub back_both :
    {A B C : Type 0} (c : A → B → C) (x y : List ℕ) (at : ℕ) (r : Read A) (f : A → ℕ → Read B) {a : A} {b : B} →
    r ≡ got a (past at x) → f a (past at x) ≡ got b (past (past at x) y) →
    and_then r (λ a n. and_then (f a n) (λ b m. got (c a b) m)) ≡ got (c a b) (past at (x ++ y))
back_both c x y at r f e h = rw (e, h, past_both x y at)

module _ (s : List ℕ) where
  -- what was read from a place on is of the numbers that stand there, and P holds of it
  pub data Formed {A : Type 0} (ns : A → List ℕ) (P : A → Type 0) (at : ℕ) : Read A → Type 0 where
    formed : {a : A} {next : ℕ} → Numbered s at (ns a) next → P a → Formed ns P at (got a next)
    stopped : {n p : ℕ} → Formed ns P at (fault n p)

  pub told : {A : Type 0} {ns : A → List ℕ} {P : A → Type 0} {at next : ℕ} {a : A} → Formed ns P at (got a next) → Numbered s at (ns a) next × P a
  told (formed x p) = (x, p)

  module _ {A B : Type 0} {nA : A → List ℕ} {P : A → Type 0} (nB : B → List ℕ) (Q : B → Type 0) {at : ℕ} where
    pub formed_then :
        {mid : ℕ} (r : Read A) (f : A → ℕ → Read B) → Formed nA P mid r →
        ((a : A) (next : ℕ) → Numbered s mid (nA a) next → P a → Formed nB Q at (f a next)) → Formed nB Q at (and_then r f)
    formed_then (got a next) f (formed x p) g = g a next x p
    formed_then (fault n p) f h g = stopped

    pub formed_map :
        (c : A → B) (r : Read A) → Formed nA P at r → ((a : A) → P a → (nB (c a) ≡ nA a) × Q (c a)) →
        Formed nB Q at (and_then r (λ a n. got (c a) n))
    formed_map c (got a next) (formed x p) g = let o = g a p in formed {a = c a} {next = next} (rw o.0 x) o.1
    formed_map c (fault n p) h g = stopped

    -- behind numbers that stand already
    pub formed_behind :
        {mid : ℕ} {ns : List ℕ} → Numbered s at ns mid → (c : A → B) (r : Read A) → Formed nA P mid r →
        ((a : A) → P a → (nB (c a) ≡ ns ++ nA a) × Q (c a)) → Formed nB Q at (and_then r (λ a n. got (c a) n))
    formed_behind x c (got a next) (formed y p) g = let o = g a p in formed {a = c a} {next = next} (rw o.0 (numbered_both s x y)) o.1
    formed_behind x c (fault n p) h g = stopped

  -- a reading after another, and what is made of both
  pub formed_both :
      {A B C : Type 0} {nA : A → List ℕ} {P : A → Type 0} {nB : B → List ℕ} {Q : A → B → Type 0} (nC : C → List ℕ) (R : C → Type 0) {at : ℕ}
      (c : A → B → C) (r : Read A) (f : A → ℕ → Read B) → Formed nA P at r → ((a : A) (next : ℕ) → Formed nB (Q a) next (f a next)) →
      ((a : A) (b : B) → P a → Q a b → (nC (c a b) ≡ nA a ++ nB b) × R (c a b)) →
      Formed nC R at (and_then r (λ a n. and_then (f a n) (λ b m. got (c a b) m)))
  formed_both nC R c r f h k g =
      formed_then nC R r _ h (λ a n x p. formed_behind nC R x (c a) (f a n) (k a n) (λ b q. g a b p q))
