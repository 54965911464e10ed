-- Arrays made element by element, by `from_fn` of a function that changes nothing. Assumes nothing.
use mathlib.Core.Path.{◌≡◌, refl, sym, ap, subst, ◌∙◌}
use mathlib.Core.Bool.{Bool, true, false}
use mathlib.Core.List.{List, map}
use Prim.Native.Nat.{ℕ, zero, suc, ◌+◌, ◌<◌, ◌≤◌}
use native.Mathlib.Nat.{zero-add}
use native.Mathlib.Omega.{arith}
use denote.Param.Members.{Mut, Called}
use borrow.Author.Tests.{eqb-true, eqb-false}
use lib.Dec.{eqb}
use lib.ListN.{length, get_or}
use Rattle.std.specs.Array.{IsFromFnResult, IsFromFnResultFrom}
use Rattle.std.proofs.lemmas.List.{same_lists}
use Rattle.image.specs.Image.{listed}
use Rattle.image.proofs.Listed.{listed_long, listed_at, listed_all, map_listed}

listed_if :
    {A : Type 0} (n : ℕ) (ys : List A) (t : ℕ → A) → length ys ≡ n → ((k : ℕ) (d : A) → k < n → get_or ys k d ≡ t k) → ys ≡ listed n 0 t
listed_if n ys t e h =
    same_lists ys (listed n 0 t) (e ∙ sym (listed_long n 0 t))
    (λ k d q. let b : k < n = omega arith in h k d b ∙ sym (listed_at n 0 t k d b ∙ ap t (zero-add k)))

module _ {F A : Type 0} (g : Mut F (ℕ × Unit {0}) A) (f : F) (t : ℕ → A) (calls : (k : ℕ) (y : A) (q : F) → Called g f (k, tt) y q → (y ≡ t k) × (q ≡ f)) (ys : List A) where
  made_from : (n i : ℕ) → IsFromFnResultFrom g f ys i n → (k : ℕ) (d : A) → i ≤ k → k < i + n → get_or ys k d ≡ t k
  made_from zero i h k d p q = absurd (omega arith)
  made_from (suc n) i h k d p q =
      go (eqb k i) refl
      (made_from n (i + 1) (subst (λ (r : F). IsFromFnResultFrom g r ys (i + 1) n) (calls i h.1 h.0 h.3).1 h.4) k d)
    where
      go : (b : Bool) → eqb k i ≡ b → (i + 1 ≤ k → k < i + 1 + n → get_or ys k d ≡ t k) → get_or ys k d ≡ t k
      go true e more = rw (eqb-true k i e) (h.2.1 d ∙ (calls i h.1 h.0 h.3).0)
      go false e more = let o : k ≡ i → ⊥ = eqb-false k i e in more (omega arith) (omega arith)

  pub listed_made : (n : ℕ) → IsFromFnResult g f ys n → ys ≡ listed n 0 t
  listed_made n m = listed_if n ys t m.long (λ k d h. made_from n 0 m.each k d (omega arith) (omega arith))
