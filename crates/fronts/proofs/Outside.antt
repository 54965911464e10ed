-- A reading that comes out as it should, or meets a fault outside: one number, and one reading after another. Assumes nothing.
use Prim.Native.Nat.{ℕ, ◌<◌, ◌≤◌}
use mathlib.Core.Path.{◌≡◌, refl}
use mathlib.Core.Bool.{Bool, true, false}
use mathlib.Core.List.{List, [], ◌∷◌, ◌++◌, append-nil}
use native.Mathlib.Omega.{arith}
use lib.Dec.{leb}
use lib.ListN.{take, drop, get_or, take-append-drop}
use borrow.Author.Tests.{leb-true}
use Rattle.terms.specs.Refusals.{outside}
use Rattle.terms.proofs.Every.{every_at}
use Rattle.wire.specs.Number.{number_at, groups_of}
use Rattle.wire.specs.Facts.{Stands}
use Rattle.wire.specs.Reading.{Read, got, fault, and_then}
use Rattle.wire.proofs.Laws.{back}
use Rattle.numbers.specs.Types.{limits, allowed}
use Rattle.numbers.specs.Reading.{typed_at}
use Rattle.writing.specs.Expressions.{bytes_of}
use Rattle.program.specs.Acceptance.{every_block}
use Rattle.program.proofs.FirstReading.{every_marked}
use Rattle.forms.proofs.Standing.{past, past_both, stands_numbers}
use Rattle.forms.proofs.Numbers.{typed_back}
use Rattle.fronts.specs.Fronts.{number_limit}

-- a is read up to next, and then P holds; or there is a fault, outside
pub data Comes {A : Type 0} (P : Type 0) (a : A) (next : ℕ) (r : Read A) : Type 0 where
  reads : P → r ≡ got a next → Comes P a next r
  refuses : (k : ℕ) → r ≡ fault outside k → Comes P a next r

-- a reading after another
pub comes_then :
    {A B : Type 0} {P Q : Type 0} {a : A} {b : B} {mid next : ℕ} (r : Read A) (f : A → ℕ → Read B) → Comes P a mid r →
    (P → Comes Q b next (f a mid)) → Comes Q b next (and_then r f)
comes_then r f (reads p e) h = rw e (h p)
comes_then r f (refuses k e) h = refuses k (rw e)

-- what is made of a reading
pub comes_map :
    {A B : Type 0} {P Q : Type 0} {a : A} {next : ℕ} (c : A → B) (r : Read A) → Comes P a next r → (P → Q) →
    Comes Q (c a) next (and_then r (λ a n. got (c a) n))
comes_map c r x h = comes_then r _ x (λ p. reads (h p) refl)

-- of some numbers and of others behind them, and what is made of both
pub comes_both :
    {A B C : Type 0} {P Q R : Type 0} {a : A} {b : B} (c : A → B → C) (x y : List ℕ) (at : ℕ) (r : Read A) (f : A → ℕ → Read B) →
    Comes P a (past at x) r → (P → Comes Q b (past (past at x) y) (f a (past at x))) → (P → Q → R) →
    Comes R (c a b) (past at (x ++ y)) (and_then r (λ a n. and_then (f a n) (λ b m. got (c a b) m)))
comes_both {a = a} c x y at r f g h k = rw (← (past_both x y at)) (comes_then r _ g (λ p. comes_map (c a) (f a (past at x)) (h p) (k p)))

-- every type's limit is one of numbers that have a form
pub limit_low : (ty : ℕ) → get_or limits ty 0 ≤ number_limit
limit_low ty = leb-true (get_or limits ty 0) number_limit (every_at (λ n. leb n number_limit) limits ty refl refl)

module _ (s : List ℕ) where
  -- of numbers that stand at a place the first do
  pub stands_first : (n : ℕ) (x : List ℕ) (at : ℕ) → Stands (bytes_of x) s at → Stands (bytes_of (take n x)) s at
  stands_first n x at st = (stands_numbers (take n x) (drop n x) s at (rw (take-append-drop n x) st)).0

  -- a number that stands at a place is read there if it is allowed, and else is outside
  pub number_comes :
      (ty before at v : ℕ) → v < number_limit → Stands (bytes_of (v ∷ [])) s at →
      Comes (allowed ty before v ≡ true) v (past at (v ∷ [])) (typed_at every_block ty before s at)
  unfolding typed_at number_at
  number_comes ty before at v h st = go (allowed ty before v) refl
    where
      go : (b : Bool) → allowed ty before v ≡ b → Comes (allowed ty before v ≡ true) v (past at (v ∷ [])) (typed_at every_block ty before s at)
      go true a = reads a (typed_back every_block ty before s at v a (every_marked ty before v a) st)
      go false a =
          let g : Stands (groups_of 3 v) s at = rw (append-nil (groups_of 3 v)) at st in
          refuses at (rw (back 3 s at v (omega arith) h g, a))
