-- Bit and word references by the ranges of their numbers, what a number says in a field, and the references of fields. Assumes nothing.
use mathlib.Core.Path.{◌≡◌, refl, sym, ◌∙◌}
use mathlib.Core.Bool.{Bool, true, false, not, ◌&&◌, and-true}
use mathlib.Core.List.{List, [], ◌∷◌}
use Prim.Native.Nat.{ℕ, ◌-◌, ◌≤◌, ◌<◌}
use native.Mathlib.Omega.{arith}
use lib.Dec.{ltb, leb, eqb}
use lib.ListN.{get_or}
use borrow.Author.Tests.{eqb-true, eqb-false, ltb-true, ltb-false, leb-true, leb-false, lt-ltb, le-ltb, ne_eqb}
use Rattle.terms.specs.Choice.{every}
use Rattle.terms.proofs.Choice.{pick_case, both}
use Rattle.terms.proofs.Every.{every_join}
use Rattle.numbers.specs.Blocks.{Bit, off, on, input, output, Word, analog, word_of, constant, Content, bit}
use Rattle.numbers.specs.Blocks.{word, bits_in, words_in, bit_refs, word_refs, refs_pass, nodes_of, bit_code, word_code, code_of}
use Rattle.numbers.specs.Types.{pin, word_pin, node_number, said_by, limits, allowed, bit_ref, word_ref, content_of, setting_of}
use Rattle.numbers.specs.Reading.{Marks, bit_marked, word_marked, marked}

-- by the four ranges of a bit reference
pub bit_cases :
    (P : Bit → Type 0) (r : ℕ) → (r ≡ 0 → P off) → (r ≡ 1 → P on) → (2 ≤ r → r < 34 → P (input (r - 2))) →
    (34 ≤ r → P (output (r - 34))) → P (bit_ref r)
unfolding bit_ref
bit_cases P r a b c d =
    pick_case P (eqb r 0) (λ e. a (eqb-true r 0 e))
    (λ e. pick_case P (eqb r 1) (λ f. b (eqb-true r 1 f))
    (λ f. pick_case P (ltb r 34) (λ g. c (omega (arith, eqb-false r 0 e, eqb-false r 1 f)) (ltb-true r 34 g))
    (λ g. d (ltb-false r 34 g))))

-- by the three ranges of a word reference
pub word_cases :
    (P : Word → Type 0) (r : ℕ) → (r < 8 → P (analog r)) → (8 ≤ r → r < 208 → P (word_of (r - 8))) → (208 ≤ r → P (constant r)) →
    P (word_ref r)
unfolding word_ref
word_cases P r a b c =
    pick_case P (ltb r 8) (λ e. a (ltb-true r 8 e))
    (λ e. pick_case P (ltb r 208) (λ f. b (ltb-false r 8 e) (ltb-true r 208 f)) (λ f. c (ltb-false r 208 f)))

pub bit_code_lem : (r : ℕ) → bit_code (bit_ref r) ≡ r
bit_code_lem r = bit_cases (λ b. bit_code b ≡ r) r sym sym (λ a b. omega arith) (λ a. omega arith)

pub word_code_lem : (r : ℕ) → word_code (word_ref r) ≡ r
word_code_lem r = word_cases (λ w. word_code w ≡ r) r (λ a. refl) (λ a b. omega arith) (λ a. refl)

-- an allowed number is below its type's limit
pub allowed_below : (ty before v : ℕ) → allowed ty before v ≡ true → v < get_or limits ty 0
unfolding allowed
allowed_below ty before v e = ltb-true v (get_or limits ty 0) (both (ltb v (get_or limits ty 0)) _ e).0

pub leb_not : (a b : ℕ) → leb a b ≡ not (ltb b a)
leb_not a b = go (leb a b) refl
  where
    go : (x : Bool) → leb a b ≡ x → x ≡ not (ltb b a)
    go true e = rw (le-ltb b a (leb-true a b e))
    go false e = rw (lt-ltb b a (leb-false a b e))

-- what a number is in a field: its own code, no node, and where it is no reference, a setting
module _ (ty v : ℕ) where
  pub content_code : code_of (content_of ty v) ≡ v
  unfolding content_of
  content_code =
      pick_case (λ c. code_of c ≡ v) (eqb ty pin) (λ _. bit_code_lem v)
      (λ _. pick_case (λ c. code_of c ≡ v) (eqb ty word_pin) (λ _. word_code_lem v) (λ _. refl))

  pub content_nodes : nodes_of (content_of ty v) ≡ 0
  unfolding content_of
  content_nodes =
      pick_case (λ c. nodes_of c ≡ 0) (eqb ty pin) (λ _. refl)
      (λ _. pick_case (λ c. nodes_of c ≡ 0) (eqb ty word_pin) (λ _. refl) (λ _. refl))

  pub content_setting : 1 < ty → setting_of (content_of ty v) ≡ v
  unfolding content_of
  content_setting h = rw (ne_eqb ty 0 (λ z. omega arith), ne_eqb ty 1 (λ z. omega arith))

-- the references of one field alone
module _ (b : Bit → Bool) (w : Word → Bool) where
  pub one_bit : (r : Bit) → b r ≡ refs_pass b w (bit r ∷ [])
  one_bit r = sym (and-true (b r && true) ∙ and-true (b r))

  pub one_word : (r : Word) → w r ≡ refs_pass b w (word r ∷ [])
  one_word r = sym (and-true (w r))

  -- and of one before others
  between : (p q r s : Bool) → ((p && r) && (q && s)) ≡ ((p && true) && (q && true) && (r && s))
  between false q r s = refl
  between true false false s = refl
  between true false true s = refl
  between true true r s = refl

  pub refs_cons : (c : Content) (cs : List Content) → refs_pass b w (c ∷ cs) ≡ (refs_pass b w (c ∷ []) && refs_pass b w cs)
  refs_cons c cs =
      rw (every_join b (bits_in c) (bit_refs cs), every_join w (words_in c) (word_refs cs), every_join b (bits_in c) [], every_join w (words_in c) [])
      (between (every b (bits_in c)) (every w (words_in c)) (every b (bit_refs cs)) (every w (word_refs cs)))

-- what a number refers to, by its type
module _ (m : Marks) (v : ℕ) where
  pub marked_pin : bit_marked m (bit_ref v) ≡ marked m pin v
  unfolding marked said_by content_of
  marked_pin = one_bit (bit_marked m) (word_marked m) (bit_ref v)

  pub marked_operator : v < 6 → true ≡ marked m node_number v
  unfolding marked said_by
  marked_operator h = rw (lt-ltb v 6 h)

  pub marked_leaf : 6 ≤ v → bit_marked m (bit_ref (v - 6)) ≡ marked m node_number v
  unfolding marked said_by
  marked_leaf h = rw (le-ltb v 6 h) (one_bit (bit_marked m) (word_marked m) (bit_ref (v - 6)))

  pub marked_other : (ty : ℕ) → (ty ≡ pin → ⊥) → (ty ≡ node_number → ⊥) → (ty ≡ word_pin → ⊥) → true ≡ marked m ty v
  unfolding marked said_by content_of
  marked_other ty a b c = rw (ne_eqb ty node_number b, ne_eqb ty pin a, ne_eqb ty word_pin c)
