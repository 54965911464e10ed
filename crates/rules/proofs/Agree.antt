-- A block's turn depends on the values of its references alone: two ways to read references that agree on those of its fields give the same new place
-- in the same steps. Assumes nothing.
use Prim.Native.Nat.{ℕ, zero, suc, ◌+◌}
use mathlib.Core.Path.{◌≡◌, refl, ap, ◌∙◌, fun_ext}
use mathlib.Core.Bool.{Bool, true, not, ◌&&◌}
use mathlib.Core.List.{List, [], ◌∷◌, ◌++◌, map}
use lib.IntN.{ℤ}
use Rattle.terms.specs.Choice.{every}
use Rattle.terms.proofs.Choice.{both}
use Rattle.terms.proofs.Every.{every_join}
use Rattle.numbers.specs.Blocks.{Bit, Word, Expr, ref, inv, gate, Content, bit, word, number, tree, Block, leaves, refs_pass}
use Rattle.numbers.specs.Types.{setting_of}
use Rattle.numbers.proofs.References.{refs_cons}
use Rattle.expression.specs.Expression.{value, steps}
use Rattle.place.specs.declared.Place.{Place}
use Rattle.rules.specs.Rules.{field_of, pin_of, word_of_field, rule_of, ruled, steps_of}

-- bit references that pass test t read alike as f and as g
module _ (t : Bit → Bool) (f g : Bit → Bool) (bits : (r : Bit) → t r ≡ true → f r ≡ g r) where
  record Tree (e : Expr) : Type 0 where
    value : value f e ≡ value g e
    steps : steps f e ≡ steps g e

  tree_agrees : (e : Expr) → every t (leaves e) ≡ true → Tree e
  tree_agrees (ref b) h = record { value = bits b (both (t b) true h).0; steps = refl }
  tree_agrees (inv e) h =
      let u = tree_agrees e h in record { value = ap not u.value; steps = ap (λ (n : ℕ). n + 1) u.steps }
  tree_agrees (gate op a b) h =
      let o = both (every t (leaves a)) (every t (leaves b)) (rw (every_join t (leaves a) (leaves b)) at h) in
      let u = tree_agrees a o.0 in
      let w = tree_agrees b o.1 in
      record { value = rw (u.value, w.value); steps = rw (u.value, u.steps, w.steps) }

  -- a list of them
  pub bits_agree : (rs : List Bit) → every t rs ≡ true → map f rs ≡ map g rs
  bits_agree [] h = refl
  bits_agree (r ∷ rs) h = let o = both (t r) (every t rs) h in rw (bits r o.0, bits_agree rs o.1)

  -- word references that pass test u read alike as a and as b
  module _ (u : Word → Bool) (a b : Word → ℤ) (words : (w : Word) → u w ≡ true → a w ≡ b w) where
    record Same (c : Content) : Type 0 where
      pin : pin_of f c ≡ pin_of g c
      word : word_of_field a c ≡ word_of_field b c
      steps : (cs : List Content) → steps_of f (c ∷ cs) ≡ steps_of g (c ∷ cs)

    same_number : (n : ℕ) → Same (number n)
    same_number n = record { pin = refl; word = refl; steps = λ cs. refl }

    same : (c : Content) → refs_pass t u (c ∷ []) ≡ true → Same c
    same (bit r) h = record { pin = bits r (both (t r) true (both (t r && true) true h).0).0; word = refl; steps = λ cs. refl }
    same (word w) h = record { pin = refl; word = words w (both (u w) true h).0; steps = λ cs. refl }
    same (number n) h = same_number n
    same (tree e) h =
        let k = (both (every t (leaves e ++ [])) true h).0 in
        let o = both (every t (leaves e)) true (rw (every_join t (leaves e) []) at k) in
        let v = tree_agrees e o.0 in
        record { pin = v.value; word = refl; steps = λ cs. v.steps }

    field : (cs : List Content) → refs_pass t u cs ≡ true → (i : ℕ) → Same (field_of cs i)
    field [] h i = same_number 0
    field (c ∷ cs) h zero = same c (both (refs_pass t u (c ∷ [])) (refs_pass t u cs) (rw (refs_cons t u c cs) at h)).0
    field (c ∷ cs) h (suc i) = field cs (both (refs_pass t u (c ∷ [])) (refs_pass t u cs) (rw (refs_cons t u c cs) at h)).1 i

    -- a block's turn
    pub record Turn (c : Block) : Type 0 where
      pub place : (e : ℕ) (p : Place) → ruled f a e c p ≡ ruled g b e c p
      pub steps : steps_of f c.fields ≡ steps_of g c.fields

    row_steps : (cs : List Content) → refs_pass t u cs ≡ true → steps_of f cs ≡ steps_of g cs
    row_steps [] h = refl
    row_steps (c ∷ cs) h = (field (c ∷ cs) h 0).steps cs

    row_ruled : (c : Block) → refs_pass t u c.fields ≡ true → (e : ℕ) (p : Place) → ruled f a e c p ≡ ruled g b e c p
    unfolding ruled
    row_ruled c h e p =
        let cs = c.fields in
        ap (λ (x : ℕ → Bool). rule_of c.kind x (λ i. word_of_field a (field_of cs i)) (λ i. setting_of (field_of cs i)) e p) (fun_ext (λ i. (field cs h i).pin))
        ∙ ap (λ (x : ℕ → ℤ). rule_of c.kind (λ i. pin_of g (field_of cs i)) x (λ i. setting_of (field_of cs i)) e p) (fun_ext (λ i. (field cs h i).word))

    pub same_turn : (c : Block) → refs_pass t u c.fields ≡ true → Turn c
    same_turn c h = record { place = row_ruled c h; steps = row_steps c.fields h }
