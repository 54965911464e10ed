-- How long a field is. Assumes nothing.
use Prim.Native.Nat.{ℕ, ◌-◌, ◌≤◌}
use mathlib.Core.Path.{refl}
use mathlib.Core.Bool.{Bool}
use mathlib.Core.List.{List, ◌∷◌}
use native.Mathlib.Omega.{arith}
use lib.Dec.{eqb, ltb, leb}
use lib.ListN.{length, length-append}
use borrow.Author.Tests.{leb-true}
use Rattle.terms.proofs.Choice.{pick_case}
use Rattle.terms.proofs.Every.{every_at}
use Rattle.filling.proofs.Decimals.{digits_short}
use Rattle.numbers.specs.Blocks.{Word, analog, word_of, constant}
use Rattle.numbers.specs.Types.{pin, word_pin, bit_ref, word_ref}
use Rattle.shown.proofs.Plain.{name_short}
use Rattle.words.specs.Words.{words, word_text}
use Rattle.values.specs.Values.{constant_bias, signed, word_name, bias_of, value_text}
use Rattle.kinds.specs.Kinds.{Field}
use Rattle.layout.specs.Layout.{equals}
use Rattle.layout.specs.Listed.{leaves_out, field_text}

few_letters : List ℕ → Bool
few_letters w = leb (length w) 8

pub any_word_short : (w : ℕ) → length (word_text w) ≤ 8
unfolding word_text few_letters
any_word_short w = leb-true (length (word_text w)) 8 (every_at few_letters words w refl refl)

signed_short : (bias v : ℕ) → length (signed bias v) ≤ 21
unfolding signed
signed_short bias v =
    pick_case (λ (t : List ℕ). length t ≤ 21) (ltb v bias) (λ _. omega (arith, digits_short 20 (bias - v))) (λ _. omega (arith, digits_short 20 (v - bias)))

word_name_short : (w : Word) → length (word_name w) ≤ 21
unfolding word_name
word_name_short (analog i) = omega arith
word_name_short (word_of k) = omega arith
word_name_short (constant n) = signed_short constant_bias n

value_short : (ty v : ℕ) → length (value_text ty v) ≤ 21
unfolding value_text
value_short ty v =
    let P : List ℕ → Type 0 = λ t. length t ≤ 21 in
    pick_case P (eqb ty pin) (λ _. omega (arith, name_short (bit_ref v)))
    (λ _. pick_case P (eqb ty word_pin) (λ _. word_name_short (word_ref v)) (λ _. signed_short (bias_of ty) v))

pub field_short : (f : Field) (v : ℕ) → length (field_text f v) ≤ 31
unfolding field_text
field_short f v =
    pick_case (λ (t : List ℕ). length t ≤ 31) (leaves_out f.left_out_as v) (λ _. omega arith)
    (λ _. omega (arith, length-append (word_text f.name) (equals ∷ value_text f.type v), any_word_short f.name, value_short f.type v))
