-- What the bytes of a program hold can be shown: operators and references are in range, and it is no deeper than it may be. Assumes nothing.
use Prim.Native.Nat.{ℕ, zero, suc, ◌-◌, ◌≤◌, ◌<◌}
use mathlib.Core.Path.{◌≡◌, refl, subst}
use mathlib.Core.List.{List}
use native.Mathlib.Omega.{arith}
use Rattle.terms.specs.Refusals.{outside}
use Rattle.wire.specs.Reading.{Read, got, fault, and_then}
use Rattle.numbers.specs.Blocks.{Expr, nodes}
use Rattle.numbers.specs.Types.{bit_ref}
use Rattle.numbers.specs.Reading.{Marks}
use Rattle.numbers.proofs.References.{bit_cases}
use Rattle.nodes.specs.Reading.{head_at, grow, expr_at}
use Rattle.nodes.specs.Reading.{Node, Leaf, One, Two, Stop}
use Rattle.nodes.proofs.Expressions.{Sound, sound}
use Rattle.writing.specs.Expressions.{depth, InRange, Proper}

pub bit_in_range : (r : ℕ) → r < 234 → InRange (bit_ref r)
bit_in_range r h = bit_cases InRange r (λ _. tt) (λ _. tt) (λ g l. omega arith) (λ g. omega arith)

abbrev Fine : ℕ → Read Expr → Type 0
Fine levels (got t next) = Proper t × (depth t ≤ levels)
Fine levels (fault n at) = Unit {0}

then_fine :
    (d e : ℕ) (p : Read Expr) (f : Expr → ℕ → Read Expr) → Fine d p → ((t : Expr) (n : ℕ) → Proper t → depth t ≤ d → Fine e (f t n)) →
    Fine e (and_then p f)
then_fine d e (got t n) f h g = g t n h.0 h.1
then_fine d e (fault n at) f h g = tt

grow_fine :
    (part : ℕ → ℕ → Read Expr) (d left : ℕ) → ((l n : ℕ) → Fine d (part l n)) → (x : Node) → Sound (suc d) left x →
    Fine (suc d) (grow part left x)
grow_fine part d left h (Leaf r n) s = (bit_in_range r s.1.1, omega arith)
grow_fine part d left h (One n) s = then_fine d (suc d) (part (left - 1) n) _ (h (left - 1) n) (λ t n f g. (f, omega arith))
grow_fine part d left h (Two op n) s =
    then_fine d (suc d) (part (left - 1) n) _ (h (left - 1) n)
    (λ a n f g. then_fine d (suc d) (part (left - 1 - nodes a) n) _ (h (left - 1 - nodes a) n)
    (λ b m i j. ((s.1.1, (f, i)), omega arith)))
grow_fine part d left h (Stop n at) s = tt

stop_fine : (part : ℕ → ℕ → Read Expr) (left : ℕ) (x : Node) → Sound 0 left x → Fine 0 (grow part left x)
stop_fine part left (Leaf r n) s = absurd (omega arith)
stop_fine part left (One n) s = absurd (omega arith)
stop_fine part left (Two op n) s = absurd (omega arith)
stop_fine part left (Stop n at) s = tt

fine : (m : Marks) (d left : ℕ) (s : List ℕ) (at : ℕ) → Fine d (expr_at m d left s at)
unfolding expr_at
fine m zero left s at = stop_fine (λ l n. fault outside n) left (head_at m 0 left s at) (sound m 0 left s at refl)
fine m (suc d) left s at = grow_fine _ d left (λ l n. fine m d l s n) (head_at m (suc d) left s at) (sound m (suc d) left s at refl)

pub accepted_proper :
    (m : Marks) (d left : ℕ) (s : List ℕ) (at : ℕ) (t : Expr) (next : ℕ) → expr_at m d left s at ≡ got t next → Proper t × (depth t ≤ d)
accepted_proper m d left s at t next e = subst (Fine d) e (fine m d left s at)
