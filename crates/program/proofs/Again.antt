-- What was read, read again: the same, or a stop at a reference that is astray, by whether all of its references are there. One law for a reading
-- after another serves all of the reader. Assumes nothing.
use Prim.Native.Nat.{ℕ}
use mathlib.Core.Path.{◌≡◌, refl, ◌∙◌}
use mathlib.Core.Bool.{Bool, true, false, ◌&&◌}
use native.Mathlib.Omega.{arith}
use Rattle.terms.specs.Refusals.{astray}
use Rattle.wire.specs.Reading.{Read, got, fault, and_then}

-- what was got is got again if all of its references are there, and else the reading stops at one that is astray
pub data Again {A : Type 0} (there : Bool) (a : A) (next : ℕ) (r : Read A) : Type 0 where
  same : there ≡ true → r ≡ got a next → Again there a next r
  stray : there ≡ false → (at : ℕ) → r ≡ fault astray at → Again there a next r

module _ {A : Type 0} (ok : A → Bool) where
  abbrev pub AgainOf : Read A → Read A → Type 0
  AgainOf (got a next) r = Again (ok a) a next r
  AgainOf (fault n at) r = Unit {0}

  -- nothing is got but with a reference astray
  abbrev pub Never : Read A → Type 0
  Never (got a next) = ok a ≡ false
  Never (fault n at) = Unit {0}

  never_stray : (r q : Read A) (at : ℕ) → Never r → q ≡ fault astray at → AgainOf r q
  never_stray (got a n) q at h e = stray h at e
  never_stray (fault n p) q at h e = tt

-- one reading after another
module _ {A B : Type 0} (okA : A → Bool) (okB : B → Bool) where
  pub again_then :
      (r q : Read A) (f g : A → ℕ → Read B) → AgainOf okA r q → ((a : A) (n : ℕ) → okA a ≡ true → AgainOf okB (f a n) (g a n)) →
      ((a : A) (n : ℕ) → okA a ≡ false → Never okB (f a n)) → AgainOf okB (and_then r f) (and_then q g)
  again_then (got a n) q f g (same t e) h l = rw e (h a n t)
  again_then (got a n) q f g (stray t at e) h l = never_stray okB (f a n) (and_then q g) at (l a n t) (rw e)
  again_then (fault n at) q f g z h l = tt

  -- what is made of a reading has its references
  pub again_map :
      (c : A → B) → ((a : A) → okB (c a) ≡ okA a) → (r q : Read A) → AgainOf okA r q →
      AgainOf okB (and_then r (λ a n. got (c a) n)) (and_then q (λ a n. got (c a) n))
  again_map c e r q h = again_then r q _ _ h (λ a n t. same (e a ∙ t) refl) (λ a n t. e a ∙ t)

-- a reading without references before another
pub again_after :
    {A B : Type 0} (ok : B → Bool) (r q : Read A) (f g : A → ℕ → Read B) → AgainOf (λ _. true) r q →
    ((a : A) (n : ℕ) → AgainOf ok (f a n) (g a n)) → AgainOf ok (and_then r f) (and_then q g)
again_after ok r q f g h l =
    again_then (λ _. true) ok r q f g h (λ a n _. l a n) (λ a n e. let z : ◌≡◌ {A = ℕ} 0 1 = cc in absurd (omega arith))

-- what is made of two readings has the references of both
module _ {A B C : Type 0} (okA : A → Bool) (okB : B → Bool) (ok_c : C → Bool) (c : A → B → C)
    (e : (a : A) (b : B) → ok_c (c a b) ≡ (okA a && okB b)) where
  never_first : (a : A) → okA a ≡ false → (r : Read B) → Never ok_c (and_then r (λ b m. got (c a b) m))
  never_first a t (got b m) = e a b ∙ rw t
  never_first a t (fault n at) = tt

  pub again_both :
      (r q : Read A) (f g : A → ℕ → Read B) → AgainOf okA r q → ((a : A) (n : ℕ) → AgainOf okB (f a n) (g a n)) →
      AgainOf ok_c (and_then r (λ a n. and_then (f a n) (λ b m. got (c a b) m))) (and_then q (λ a n. and_then (g a n) (λ b m. got (c a b) m)))
  again_both r q f g h l =
      again_then okA ok_c r q _ _ h
      (λ a n t. again_map okB ok_c (c a) (λ b. e a b ∙ rw t) (f a n) (g a n) (l a n))
      (λ a n t. never_first a t (f a n))
