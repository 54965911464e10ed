-- Loops that store one list over another: each turn makes the new front longer by one, and what stands behind it stays. Assumes nothing.
use mathlib.Core.Path.{◌≡◌, refl, ap, ◌∙◌}
use mathlib.Core.Bool.{Bool, false}
use mathlib.Core.List.{List, [], ◌∷◌, ◌++◌, map}
use Prim.Native.Nat.{ℕ, suc, ◌+◌, ◌<◌}
use native.Mathlib.Nat.{add_comm}
use native.Mathlib.Numerals.{add-one}
use native.Mathlib.Omega.{arith}
use mir.Val.{bool_byte}
use lib.ListN.{length, get_or, take, drop, set, get_or-map}
use lib.Seq.{take_at, drop_at, take-suc, length-take-le, drop-cons, set_at, append_snoc, get_or-drop}
use Rattle.terms.specs.Bits.{digit}
use Rattle.terms.proofs.Bits.{as_byte}
use Rattle.copies.specs.Copies.{over}

-- a store behind a first part
pub set_behind : {A : Type 0} (a b : List A) (k i : ℕ) (x : A) → length a ≡ k → set (a ++ b) (i + k) x ≡ a ++ set b i x
set_behind a b k i x e = rw (← e, add_comm i (length a)) (past a)
  where
    past : (a : List _) → set (a ++ b) (length a + i) x ≡ a ++ set b i x
    past [] = let z : 0 + i ≡ i = omega arith in rw z
    past (y ∷ a) = let z : suc (length a) + i ≡ suc (length a + i) = omega arith in rw z (ap (λ (l : List _). y ∷ l) (past a))

module _ {A : Type 0} (new old : List A) (i : ℕ) (d : A) {x : A} (h : i < length new) (k : i < length old) (q : x ≡ get_or new i d) where
  -- one more of the new list
  pub spliced : {v : List A} → v ≡ over i new old → set v i x ≡ over (i + 1) new old
  spliced e =
      rw (e, q, add-one i, drop-cons old i d k, take-suc new i d h, append_snoc (take i new) (get_or new i d) (drop (suc i) old))
      (set_at (take i new) (get_or old i d) (drop (suc i) old) (get_or new i d) i (length-take-le i new (omega arith)))

  -- the same behind a first part
  pub spliced_behind : (a : List A) (n : ℕ) → length a ≡ n → {v : List A} → v ≡ a ++ over i new old → set v (i + n) x ≡ a ++ over (i + 1) new old
  spliced_behind a n l {v} e =
      ap (λ (m : List A). set m (i + n) x) e ∙ set_behind a (over i new old) n i x l ∙ ap (λ (m : List A). a ++ m) (spliced refl)

-- two parts are given back
pub front_of : {A : Type 0} (a b : List A) (n : ℕ) {r : List A} → length a ≡ n → r ≡ a ++ b → take n r ≡ a
front_of a b n l e = rw (e, take_at a b n l)

pub rest_of : {A : Type 0} (a b : List A) (n : ℕ) {r : List A} → length a ≡ n → r ≡ a ++ b → drop n r ≡ b
rest_of a b n l e = rw (e, drop_at a b n l)

-- beyond what is dropped
pub beyond : {A : Type 0} (d : A) (n : ℕ) (l : List A) (i : ℕ) → get_or (drop n l) i d ≡ get_or l (i + n) d
beyond d n l i = rw (add_comm i n) (get_or-drop n l i d)

-- a bit as a byte, of what is beyond
pub byte_at : (n : ℕ) (l : List Bool) (i : ℕ) → bool_byte (get_or l (i + n) false) ≡ get_or (map digit (drop n l)) i 0
byte_at n l i = as_byte (get_or l (i + n) false) ∙ rw (← beyond false n l i, get_or-map digit (drop n l) i false)
