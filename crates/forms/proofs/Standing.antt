-- Numbers that stand in a program as bytes, some after others. Assumes nothing.
use Prim.Native.Nat.{ℕ, zero, suc, ◌+◌, ◌%◌, ◌/◌, ◌<◌}
use mathlib.Core.Path.{◌≡◌, refl}
use mathlib.Core.List.{List, [], ◌∷◌, ◌++◌, append_assoc}
use native.Mathlib.Nat.{add-zero}
use native.Mathlib.Omega.{arith}
use lib.Dec.{ltb}
use lib.ListN.{length, length-append}
use borrow.Author.Tests.{ltb-true}
use Rattle.terms.proofs.Choice.{pick_case}
use Rattle.wire.specs.Number.{groups_of}
use Rattle.wire.specs.Facts.{Stands, Bytes}
use Rattle.grammar.specs.Machine.{Spans}
use Rattle.grammar.proofs.From.{nothing, after}
use Rattle.writing.specs.Expressions.{bytes_of}

-- bytes that stand one after the other
pub stands_both : (a b s : List ℕ) (at : ℕ) → Stands (a ++ b) s at → Stands a s at × Stands b s (at + length a)
stands_both [] b s at h = (tt, rw (add-zero at) h)
stands_both (x ∷ a) b s at h =
    let o = stands_both a b s (at + 1) h.1.1 in
    let e : at + 1 + length a ≡ at + suc (length a) = omega arith in
    ((h.0, (h.1.0, o.0)), (rw e at o.1))

pub bytes_append : (a b : List ℕ) → bytes_of (a ++ b) ≡ bytes_of a ++ bytes_of b
bytes_append [] b = refl
bytes_append (v ∷ a) b = rw (bytes_append a b, append_assoc (groups_of 3 v) (bytes_of a) (bytes_of b))

-- numbers are written in bytes
bytes_cons : (x : ℕ) (l : List ℕ) → x < 256 → Bytes l → Bytes (x ∷ l)
bytes_cons x l h g zero = h
bytes_cons x l h g (suc i) = g i

bytes_join : (a b : List ℕ) → Bytes a → Bytes b → Bytes (a ++ b)
bytes_join [] b g h i = h i
bytes_join (x ∷ a) b g h zero = g 0
bytes_join (x ∷ a) b g h (suc i) = bytes_join a b (λ j. g (suc j)) h i

groups_bytes : (k v : ℕ) → Bytes (groups_of k v)
unfolding groups_of
groups_bytes zero v = λ i. omega arith
groups_bytes (suc k) v =
    pick_case Bytes (ltb v 128) (λ e. bytes_cons v [] (omega (arith, ltb-true v 128 e)) (λ i. omega arith))
    (λ _. bytes_cons (128 + v % 128) (groups_of k (v / 128)) (omega arith) (groups_bytes k (v / 128)))

pub numbers_bytes : (ns : List ℕ) → Bytes (bytes_of ns)
numbers_bytes [] = λ i. omega arith
numbers_bytes (v ∷ ns) = bytes_join (groups_of 3 v) (bytes_of ns) (groups_bytes 3 v) (numbers_bytes ns)

-- the place behind numbers that stand from a place on
abbrev pub past : ℕ → List ℕ → ℕ
past at ns = at + length (bytes_of ns)

pub past_both : (x y : List ℕ) (at : ℕ) → past (past at x) y ≡ past at (x ++ y)
past_both x y at = rw (bytes_append x y) (omega (arith, length-append (bytes_of x) (bytes_of y)))

pub stands_numbers : (x y s : List ℕ) (at : ℕ) → Stands (bytes_of (x ++ y)) s at → Stands (bytes_of x) s at × Stands (bytes_of y) s (past at x)
stands_numbers x y s at h = stands_both (bytes_of x) (bytes_of y) s at (rw (bytes_append x y) at h)

module _ (s : List ℕ) where
  -- these numbers stand from a place up to another
  pub record Numbered (at : ℕ) (ns : List ℕ) (next : ℕ) : Type 0 where
    pub spans : Spans s at (bytes_of ns) next

  pub none_numbered : {at : ℕ} → Numbered at [] at
  none_numbered {at} = record { spans = nothing s at }

  pub numbered_both : {at mid next : ℕ} {x y : List ℕ} → Numbered at x mid → Numbered mid y next → Numbered at (x ++ y) next
  numbered_both {x = x} {y = y} a b = record { spans = rw (bytes_append x y) (after s a.spans b.spans) }
