-- What the form puts into a line holds no line end: no byte below the space. Assumes nothing.
use Prim.Native.Nat.{ℕ, zero, suc, ◌+◌, ◌-◌}
use mathlib.Core.Path.{◌≡◌, refl}
use mathlib.Core.Bool.{Bool, true, false}
use mathlib.Core.List.{List, [], ◌∷◌, ◌++◌}
use native.Mathlib.Omega.{arith}
use lib.Dec.{ltb, leb, eqb}
use lib.ListN.{length, get_or, get_or-eq_default}
use borrow.Author.Tests.{le-leb, ltb-true, ltb-false}
use Rattle.terms.specs.Choice.{every}
use Rattle.terms.proofs.Choice.{pick_case, both}
use Rattle.terms.proofs.Every.{both_hold, every_append}
use Rattle.terms.proofs.Table.{at as entry}
use Rattle.numbers.specs.Blocks.{Bit, off, on, input, output, Expr, Word, analog, word_of, constant, Content, Block}
use Rattle.numbers.specs.Types.{pin, word_pin, bit_ref, word_ref}
use Rattle.filling.specs.Filling.{decimal}
use Rattle.grammar.specs.Grammar.{spaces, digit, Decimal, no_digits, one_more, Name, name_0, name_1, name_I, name_B, Level}
use Rattle.grammar.specs.Grammar.{Operator, and_sign, nand_sign, xor_sign, or_sign, nor_sign, Reads, alone, joined, named, negated, grouped}
use Rattle.grammar.specs.Machine.{is_digit}
use Rattle.shown.specs.Show.{in_digits, name_of}
use Rattle.words.specs.Words.{alarms, letters_of, words, word_text}
use Rattle.values.specs.Values.{signed, word_name, bias_of, value_text}
use Rattle.kinds.specs.Kinds.{Field}
use Rattle.layout.specs.Layout.{Fields, no_more, given, left_out, formula, BlockLine, block_line, Names, no_names, one_name, AlarmsLine, alarms_line}
use Rattle.layout.proofs.Runs.{AllDigits, digit_bounds, in_digits_all}
use Rattle.layout.proofs.Signed.{decimal_all}
use Rattle.layout.proofs.Rows.{is_true}

abbrev pub Inline : List ℕ → Type 0
Inline w = every (leb 32) w ≡ true

join : (v w : List ℕ) → Inline v → Inline w → Inline (v ++ w)
join v w = every_append (leb 32) v w

spaces_inline : (n : ℕ) → Inline (spaces n)
spaces_inline zero = refl
spaces_inline (suc n) = spaces_inline n

digits_inline : (w : List ℕ) → AllDigits w → Inline w
digits_inline [] d = refl
digits_inline (x ∷ w) d =
    let o = both (is_digit x) (every is_digit w) d in
    let b = digit_bounds x o.0 in
    both_hold (le-leb 32 x (omega arith)) (digits_inline w o.1)

name_inline : (b : Bit) → Inline (name_of b)
unfolding name_of
name_inline off = refl
name_inline on = refl
name_inline (input n) = digits_inline (in_digits 2 (n + 1)) (in_digits_all 2 (n + 1))
name_inline (output n) = digits_inline (in_digits 3 n) (in_digits_all 3 n)

decimal_inline : {k n : ℕ} {w : List ℕ} → Decimal k n w → Inline w
decimal_inline no_digits = refl
decimal_inline (one_more {w = w} d h x) = join w (digit d ∷ []) (decimal_inline x) (both_hold (le-leb 32 (48 + d) (omega arith)) refl)

word_inline : (w : ℕ) → Inline (word_text w)
unfolding word_text
word_inline w = go (ltb w (length words)) refl
  where
    go : (b : Bool) → ltb w (length words) ≡ b → Inline (get_or words w [])
    go true e = is_true _ (entry (λ (k : ℕ) (x : List ℕ). every (leb 32) x) [] words tt w (ltb-true w (length words) e))
    go false e = rw (get_or-eq_default words [] (ltb-false w (length words) e))

signed_inline : (bias v : ℕ) → Inline (signed bias v)
unfolding signed
signed_inline bias v =
    pick_case Inline (ltb v bias) (λ _. digits_inline (decimal (bias - v)) (decimal_all (bias - v))) (λ _. digits_inline (decimal (v - bias)) (decimal_all (v - bias)))

word_name_inline : (w : Word) → Inline (word_name w)
unfolding word_name
word_name_inline (analog i) = digits_inline (in_digits 2 (i + 1)) (in_digits_all 2 (i + 1))
word_name_inline (word_of k) = digits_inline (in_digits 3 k) (in_digits_all 3 k)
word_name_inline (constant n) = signed_inline 33768 n

value_inline : (ty v : ℕ) → Inline (value_text ty v)
unfolding value_text
value_inline ty v =
    pick_case Inline (eqb ty pin) (λ _. name_inline (bit_ref v))
    (λ _. pick_case Inline (eqb ty word_pin) (λ _. word_name_inline (word_ref v)) (λ _. signed_inline (bias_of ty) v))

-- formulas
sign_inline : {l : Level} {o : ℕ} {w : List ℕ} → Operator l o w → Inline w
sign_inline and_sign = refl
sign_inline nand_sign = refl
sign_inline xor_sign = refl
sign_inline or_sign = refl
sign_inline nor_sign = refl

bit_inline : {w : List ℕ} {b : Bit} → Name w b → Inline w
bit_inline name_0 = refl
bit_inline name_1 = refl
bit_inline (name_I h x) = decimal_inline x
bit_inline (name_B h x) = decimal_inline x

formula_inline : {around : ℕ} {l : Level} {w : List ℕ} {t : Expr} → Reads around l w t → Inline w
formula_inline (alone m x) = formula_inline x
formula_inline (joined {v = v} {sign = s} {w = w} m x o y) = join v (s ++ w) (formula_inline x) (join s w (sign_inline o) (formula_inline y))
formula_inline (named {w = w} m n x) = join (spaces m) (w ++ spaces n) (spaces_inline m) (join w (spaces n) (bit_inline x) (spaces_inline n))
formula_inline (negated {w = w} m x) = join (spaces m) (33 ∷ w) (spaces_inline m) (formula_inline x)
formula_inline (grouped {w = w} m n h x) =
    join (spaces m) (40 ∷ (w ++ (41 ∷ spaces n))) (spaces_inline m) (join w (41 ∷ spaces n) (formula_inline x) (spaces_inline n))

-- lines
fields_inline : {fs : List Field} {cs : List Content} {w : List ℕ} → Fields fs cs w → Inline w
fields_inline (no_more n) = spaces_inline n
fields_inline (given {f = f} {w = w} n v h x) =
    join (spaces (suc n)) (word_text f.name ++ (61 ∷ (value_text f.type v ++ w))) (spaces_inline (suc n))
    (join (word_text f.name) (61 ∷ (value_text f.type v ++ w)) (word_inline f.name)
    (join (value_text f.type v) w (value_inline f.type v) (fields_inline x)))
fields_inline (left_out v e x) = fields_inline x
fields_inline (formula e x) = formula_inline x

pub block_inline : {i : ℕ} {w : List ℕ} {b : Block} → BlockLine i w b → Inline w
block_inline (block_line {i = i} {kind = k} {w = w} m n h l x) =
    join (spaces m) (name_of (output i) ++ (spaces (suc n) ++ (word_text (letters_of k) ++ w))) (spaces_inline m)
    (join (name_of (output i)) (spaces (suc n) ++ (word_text (letters_of k) ++ w)) (name_inline (output i))
    (join (spaces (suc n)) (word_text (letters_of k) ++ w) (spaces_inline (suc n)) (join (word_text (letters_of k)) w (word_inline (letters_of k)) (fields_inline x))))

names_inline : {rs : List Bit} {w : List ℕ} → Names rs w → Inline w
names_inline (no_names n) = spaces_inline n
names_inline (one_name {b = b} {w = w} n h x) =
    join (spaces (suc n)) (name_of b ++ w) (spaces_inline (suc n)) (join (name_of b) w (name_inline b) (names_inline x))

pub alarms_inline : {w : List ℕ} {rs : List Bit} → AlarmsLine w rs → Inline w
alarms_inline (alarms_line {w = w} m c x) =
    join (spaces m) (word_text alarms ++ w) (spaces_inline m) (join (word_text alarms) w (word_inline alarms) (names_inline x))
