-- Which blocks a row asks for their words: one word reference after the other, and none of a kind below CP. Assumes nothing.
use Prim.Native.Nat.{ℕ, suc, ◌-◌, ◌<◌, ◌≤◌}
use mathlib.Core.Path.{◌≡◌, refl, sym, ◌∙◌}
use mathlib.Core.Bool.{Bool, true, false, not, ◌&&◌, ◌||◌}
use mathlib.Core.List.{List, [], ◌∷◌}
use native.Mathlib.Omega.{arith}
use lib.Dec.{T, eqb, leb}
use lib.ListN.{get_or, set}
use borrow.Author.Tests.{eq-eqb, ne_eqb, lt-leb}
use Rattle.terms.proofs.Choice.{pick_case}
use Rattle.numbers.specs.Blocks.{Word, analog, word_of, constant, Content, word}
use Rattle.numbers.specs.Types.{pin, word_pin, word_ref, content_of}
use Rattle.kinds.specs.Kinds.{Kind, kind, kinds, kind_of, types_of}
use Rattle.block.specs.Asking.{asking}
use Rattle.numbers.proofs.References.{word_cases}
use Rattle.terms.proofs.Table.{both_left, both_right, at}
use Rattle.rules.specs.Rows.{contents}

-- a word reference by the range of its number
pub asks_block : (l : List ℕ) (r : ℕ) → 8 ≤ r → r < 208 → set l (r - 8) 1 ≡ asking (word (word_ref r) ∷ []) l
asks_block l r g h =
    word_cases (λ w. set l (r - 8) 1 ≡ asking (word w ∷ []) l) r (λ a. absurd (omega arith)) (λ a b. refl) (λ a. absurd (omega arith))

pub asks_none : (l : List ℕ) (r : ℕ) → (8 ≤ r → r < 208 → ⊥) → l ≡ asking (word (word_ref r) ∷ []) l
asks_none l r h = word_cases (λ w. l ≡ asking (word w ∷ []) l) r (λ a. refl) (λ a b. absurd (h a b)) (λ a. refl)

-- a word reference before other fields
asks_then : (w : Word) (cs : List Content) (l : List ℕ) {m n : List ℕ} → m ≡ asking (word w ∷ []) l → n ≡ asking cs m → n ≡ asking (word w ∷ cs) l
asks_then (analog i) cs l a b = rw a at b
asks_then (word_of i) cs l a b = rw a at b
asks_then (constant v) cs l a b = rw a at b

-- two and three of them
module _ (l : List ℕ) {m n : List ℕ} where
  pub asks_two : (v w : Word) → m ≡ asking (word v ∷ []) l → n ≡ asking (word w ∷ []) m → n ≡ asking (word v ∷ word w ∷ []) l
  asks_two v w a b = asks_then v (word w ∷ []) l a b

  pub asks_three : (v w x : Word) {o : List ℕ} → m ≡ asking (word v ∷ []) l → n ≡ asking (word w ∷ []) m → o ≡ asking (word x ∷ []) n
      → o ≡ asking (word v ∷ word w ∷ word x ∷ []) l
  asks_three v w x a b d = asks_then v (word w ∷ word x ∷ []) l a (asks_then w (word x ∷ []) m b d)

-- a field of another type asks for nothing
no_word : (ty v : ℕ) (cs : List Content) (l : List ℕ) → (ty ≡ word_pin → ⊥) → asking (content_of ty v ∷ cs) l ≡ asking cs l
unfolding content_of
no_word ty v cs l ne =
    rw (ne_eqb ty word_pin ne) (pick_case (λ c. asking (c ∷ cs) l ≡ asking cs l) (eqb ty pin) (λ _. refl) (λ _. refl))

-- no type of a list is a word reference
abbrev wordless : List ℕ → Bool
wordless [] = true
wordless (ty ∷ ts) = not (eqb ty word_pin) && wordless ts

wordless_asks : (ts : List ℕ) → T (wordless ts) → (i : ℕ) (f l : List ℕ) → asking (contents ts i f) l ≡ l
unfolding contents
wordless_asks [] h i f l = refl
wordless_asks (ty ∷ ts) h i f l =
    let ne : ty ≡ word_pin → ⊥ = λ e. rw (eq-eqb ty word_pin e) at (both_left (not (eqb ty word_pin)) (wordless ts) h) in
    no_word ty (get_or f i 0) (contents ts (suc i) f) l ne ∙ wordless_asks ts (both_right (not (eqb ty word_pin)) (wordless ts) h) (suc i) f l

-- no kind below CP has one
pub low_asks : (k : ℕ) → k < 9 → (f l : List ℕ) → l ≡ asking (contents (types_of k) 0 f) l
unfolding kind_of
low_asks k h f l =
    let t : T (leb 9 k || wordless (types_of k)) = at (λ (k : ℕ) (r : Kind). leb 9 k || wordless r.types) (kind [] 0 false) kinds tt k (omega arith) in
    let u : T (wordless (types_of k)) = rw (lt-leb 9 k h) at t in
    sym (wordless_asks (types_of k) u 0 f l)
