-- Elements put into a list from a place on, as far as it has places: one text after another, over another, before another. Assumes nothing.
use Prim.Native.Nat.{ℕ, suc, ◌+◌, ◌<◌, ◌≤◌}
use mathlib.Core.Path.{◌≡◌, refl, sym, ap, ◌∙◌}
use mathlib.Core.Logic.{⊎_elim}
use mathlib.Core.List.{List, [], ◌∷◌, ◌++◌}
use native.Mathlib.Nat.{add-zero}
use native.Mathlib.Omega.{arith}
use lib.ListN.{length, get_or, set, take, drop, length-set}
use lib.Seq.{sets, length-sets, drop-cons, set_out, set-set, set_comm, get_or-set_same, get_or-set_other, drop-set-lt}
use Rattle.terms.proofs.Choice.{le_or_lt}

module _ {A : Type 0} where
  -- right after another
  pub sets_append : (xs l ys : List A) (i : ℕ) → sets (sets l i xs) (i + length xs) ys ≡ sets l i (xs ++ ys)
  sets_append [] l ys i = rw add-zero
  sets_append (x ∷ xs) l ys i =
      let e : i + suc (length xs) ≡ suc i + length xs = omega arith in
      rw e (sets_append xs (set l i x) ys (suc i))

  -- where there are no places
  pub sets_out : (vs l : List A) (i : ℕ) → length l ≤ i → sets l i vs ≡ l
  sets_out [] l i h = refl
  sets_out (v ∷ vs) l i h = rw (set_out l i v h) (sets_out vs l (suc i) (omega arith))

  -- an element before them
  pub set_sets : (vs l : List A) (i j : ℕ) (a : A) → i < j → set (sets l j vs) i a ≡ sets (set l i a) j vs
  set_sets [] l i j a h = refl
  set_sets (v ∷ vs) l i j a h = set_sets vs (set l j v) i (suc j) a (omega arith) ∙ rw (set_comm l j i v a (λ e. omega arith))

  get_d_sets : (vs l : List A) (i j : ℕ) (d : A) → i < j → get_or (sets l j vs) i d ≡ get_or l i d
  get_d_sets [] l i j d h = refl
  get_d_sets (v ∷ vs) l i j d h = get_d_sets vs (set l j v) i (suc j) d (omega arith) ∙ get_or-set_other l j i v d (λ e. omega arith)

  -- over another that is no longer
  pub sets_over : (xs ys l : List A) (i : ℕ) → length xs ≤ length ys → sets (sets l i xs) i ys ≡ sets l i ys
  sets_over [] ys l i h = refl
  sets_over (x ∷ xs) [] l i h = absurd (omega arith)
  sets_over (x ∷ xs) (y ∷ ys) l i h =
      ap (λ (m : List A). sets m (suc i) ys) (set_sets xs (set l i x) i (suc i) y (omega arith) ∙ rw (set-set l i x y))
      ∙ sets_over xs ys (set l i y) (suc i) (omega arith)

  -- one element before those that stand there already, which move up by one
  module _ (x : A) (xs l : List A) (i : ℕ) (a d : A) where
    there : List A
    there = sets (set l i x) (suc i) xs

    out : length l ≤ i → there ≡ l
    unfolding there
    out h = rw (set_out l i x h) (sets_out xs l (suc i) (omega arith))

    front : i < length l → drop i there ≡ x ∷ drop (suc i) there
    unfolding there
    front h =
        drop-cons (sets (set l i x) (suc i) xs) i d (rw (length-sets (set l i x) (suc i) xs, length-set l i x) h)
        ∙ rw (get_d_sets xs (set l i x) i (suc i) d (omega arith), get_or-set_same l i x d h)

    other : set there i a ≡ sets (set l i a) (suc i) xs
    unfolding there
    other = set_sets xs (set l i x) i (suc i) a (omega arith) ∙ rw (set-set l i x a)

    same_rest : drop (suc i) there ≡ drop (suc i) (sets (set l i a) (suc i) xs)
    same_rest = sym (drop-set-lt (suc i) there i a (omega arith)) ∙ ap (drop (suc i)) other

    stays : length l ≤ i → sets there i (a ∷ take (suc (length xs)) (drop i there)) ≡ sets l i (a ∷ (x ∷ xs))
    stays h = rw (out h) (sets_out (a ∷ take (suc (length xs)) (drop i l)) l i h ∙ sym (sets_out (a ∷ (x ∷ xs)) l i h))

    moves :
        i < length l →
        sets (sets (set l i a) (suc i) xs) (suc i) (x ∷ take (length xs) (drop (suc i) (sets (set l i a) (suc i) xs))) ≡ sets (set l i a) (suc i) (x ∷ xs) →
        sets there i (a ∷ take (suc (length xs)) (drop i there)) ≡ sets l i (a ∷ (x ∷ xs))
    moves h e = rw (front h, same_rest, other) e

  pub inserted : (xs l : List A) (i : ℕ) (a d : A) → sets (sets l i xs) i (a ∷ take (length xs) (drop i (sets l i xs))) ≡ sets l i (a ∷ xs)
  unfolding there
  inserted [] l i a d = refl
  inserted (x ∷ xs) l i a d =
      ⊎_elim (stays x xs l i a d) (λ h. moves x xs l i a d h (inserted xs (set l i a) (suc i) x d)) (le_or_lt (length l) i)
