-- Numbers as bytes: how many there are at most, and group by group, number by number, what is left of them. Assumes nothing.
use Prim.Native.Nat.{ℕ, zero, suc, ◌+◌, ◌*◌, ◌-◌, ◌/◌, ◌%◌, ◌<◌, ◌≤◌}
use mathlib.Core.Path.{◌≡◌, refl}
use mathlib.Core.List.{List, [], ◌∷◌, ◌++◌, append_assoc}
use native.Mathlib.Omega.{arith}
use lib.Dec.{ltb}
use lib.ListN.{length, length-append}
use borrow.Author.Tests.{lt-ltb, le-ltb}
use Rattle.terms.proofs.Choice.{pick_case}
use Rattle.wire.specs.Number.{groups_of}
use Rattle.filling.specs.Filling.{Put}
use Rattle.writing.specs.Expressions.{bytes_of}

pub groups_few : (k v : ℕ) → length (groups_of k v) ≤ k
unfolding groups_of
groups_few zero v = omega arith
groups_few (suc k) v =
    pick_case (λ (l : List ℕ). length l ≤ suc k) (ltb v 128) (λ _. omega arith) (λ _. omega (arith, groups_few k (v / 128)))

-- the place behind a number
pub number_near : (v : ℕ) {l m : List ℕ} {at next : ℕ} → Put (groups_of 3 v) l at m next → next ≤ at + 3
number_near v q = omega (arith, q.place, groups_few 3 v)

pub bytes_few : (vs : List ℕ) → length (bytes_of vs) ≤ 3 * length vs
bytes_few [] = omega arith
bytes_few (v ∷ vs) = omega (arith, length-append (groups_of 3 v) (bytes_of vs), groups_few 3 v, bytes_few vs)

pub bytes_append : (a b : List ℕ) → bytes_of (a ++ b) ≡ bytes_of a ++ bytes_of b
bytes_append [] b = refl
bytes_append (v ∷ a) b = rw (bytes_append a b, append_assoc (groups_of 3 v) (bytes_of a) (bytes_of b))

-- the groups that are left after the first i
module _ (i v : ℕ) where
  pub group_last : i < 3 → v < 128 → groups_of (3 - i) v ≡ v ∷ []
  unfolding groups_of
  group_last h l = let e : 3 - i ≡ suc (3 - (i + 1)) = omega arith in rw (e, lt-ltb v 128 l)

  pub group_more : i < 3 → 128 ≤ v → groups_of (3 - i) v ≡ (128 + v % 128) ∷ groups_of (3 - (i + 1)) (v / 128)
  unfolding groups_of
  group_more h l = let e : 3 - i ≡ suc (3 - (i + 1)) = omega arith in rw (e, le-ltb v 128 l)

  pub group_none : 3 ≤ i → groups_of (3 - i) v ≡ []
  unfolding groups_of
  group_none h = let e : 3 - i ≡ 0 = omega arith in rw e
