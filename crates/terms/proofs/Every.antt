-- What passes a test in every element still does after a store, a join, a cut at either end, and at each place. Assumes nothing.
use Prim.Native.Nat.{ℕ, zero, suc}
use mathlib.Core.Path.{◌≡◌, refl, sym}
use mathlib.Core.Bool.{Bool, true, ◌&&◌, and_assoc}
use mathlib.Core.List.{List, [], ◌∷◌, ◌++◌}
use lib.ListN.{take, drop, get_or, set, replicate}
use Rattle.terms.specs.Choice.{every}
use Rattle.terms.proofs.Choice.{both}

pub both_hold : {a b : Bool} → a ≡ true → b ≡ true → (a && b) ≡ true
both_hold e f = rw e f

module _ {A : Type 0} (test : A → Bool) where
  pub every_replicate : (n : ℕ) {a : A} → test a ≡ true → every test (replicate n a) ≡ true
  every_replicate zero h = refl
  every_replicate (suc n) h = both_hold h (every_replicate n h)

  pub every_at : (l : List A) (i : ℕ) {d : A} → every test l ≡ true → test d ≡ true → test (get_or l i d) ≡ true
  every_at [] i e h = h
  every_at (x ∷ l) zero e h = (both (test x) (every test l) e).0
  every_at (x ∷ l) (suc i) e h = every_at l i (both (test x) (every test l) e).1 h

  pub every_set : (l : List A) (i : ℕ) {a : A} → every test l ≡ true → test a ≡ true → every test (set l i a) ≡ true
  every_set [] i e h = refl
  every_set (x ∷ l) zero e h = both_hold h (both (test x) (every test l) e).1
  every_set (x ∷ l) (suc i) e h =
      let o = both (test x) (every test l) e in both_hold o.0 (every_set l i o.1 h)

  pub every_join : (a b : List A) → every test (a ++ b) ≡ (every test a && every test b)
  every_join [] b = refl
  every_join (x ∷ a) b = rw (every_join a b) (sym (and_assoc (test x) (every test a) (every test b)))

  pub every_append : (a b : List A) → every test a ≡ true → every test b ≡ true → every test (a ++ b) ≡ true
  every_append a b e f = rw (every_join a b) (both_hold e f)

  pub every_take : (n : ℕ) (l : List A) → every test l ≡ true → every test (take n l) ≡ true
  every_take zero l e = refl
  every_take (suc n) [] e = refl
  every_take (suc n) (x ∷ l) e = let o = both (test x) (every test l) e in both_hold o.0 (every_take n l o.1)

  pub every_drop : (n : ℕ) (l : List A) → every test l ≡ true → every test (drop n l) ≡ true
  every_drop zero l e = e
  every_drop (suc n) [] e = refl
  every_drop (suc n) (x ∷ l) e = every_drop n l (both (test x) (every test l) e).1

  -- what stands behind at most n elements is all that is left beyond n
  pub every_beyond : (n : ℕ) (l b : List A) → every test b ≡ true → every test (drop n (take n l ++ b)) ≡ true
  every_beyond zero l b e = e
  every_beyond (suc n) [] b e = every_drop (suc n) b e
  every_beyond (suc n) (x ∷ l) b e = every_beyond n l b e
