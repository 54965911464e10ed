-- Names at a place of a line: a letter and so many digits. What is read is the text of the reference, and its text is read as it. Assumes nothing.
use Prim.Native.Nat.{ℕ, zero, suc, ◌+◌, ◌*◌, ◌-◌, ◌<◌, ◌≤◌}
use mathlib.Core.Path.{◌≡◌, refl, sym, ap, ◌∙◌}
use mathlib.Core.Bool.{true}
use mathlib.Core.List.{List, [], ◌∷◌}
use native.Mathlib.Nat.{add-zero, add-mul, mul_assoc, mul_left_comm, mul-le-mul_right, mul-one}
use native.Mathlib.Omega.{arith}
use lib.ListN.{length}
use Rattle.terms.specs.Choice.{every}
use Rattle.terms.proofs.Choice.{both}
use Rattle.wire.specs.Facts.{Stands}
use Rattle.numbers.specs.Blocks.{Bit, off, on, input, output, bit_code}
use Rattle.numbers.specs.Types.{bit_ref}
use Rattle.grammar.specs.Grammar.{no_digits, Name, name_0, name_1, name_I, name_B}
use Rattle.grammar.specs.Machine.{tens, may_be, is_digit}
use Rattle.grammar.proofs.Complete.{may}
use Rattle.writing.specs.Expressions.{InRange}
use Rattle.writing.proofs.Back.{ref_back}
use Rattle.spelling.specs.Spelling.{Got as DigitsGot}
use Rattle.spelling.specs.Spelling.{Bit as BitName}
use Rattle.spelling.specs.Spelling.{digits_at, name_at}
use Rattle.spelling.proofs.Names.{digits_good, name_good}
use Rattle.shown.specs.Show.{in_digits, name_of}
use Rattle.layout.proofs.Runs.{number_in, AllDigits, digit_bounds, in_digits_long, in_digits_all, in_digits_number, decimal_digits}
use Rattle.layout.proofs.Signed.{Read}

-- what digits that follow a number make of it
number_between : (n : ℕ) (w : List ℕ) → AllDigits w → (n * tens (length w) ≤ number_in n w) × (number_in n w < n * tens (length w) + tens (length w))
unfolding number_in tens
number_between n [] d = (omega (arith, mul-one n), omega (arith, mul-one n))
number_between n (x ∷ w) d =
    let o = both (is_digit x) (every is_digit w) d in
    let b = digit_bounds x o.0 in
    let v = x - 48 in
    let r = number_between (10 * n + v) w o.1 in
    let p = tens (length w) in
    let l : v * p ≤ 9 * p = mul-le-mul_right p (omega arith) in (
      omega (arith, r.0, add-mul (10 * n) v p, mul_assoc 10 n p, mul_left_comm n 10 p),
      omega (arith, r.1, add-mul (10 * n) v p, mul_assoc 10 n p, mul_left_comm n 10 p),
    )

module _ (s : List ℕ) (least most : ℕ) where
  digits_there :
      (k n at : ℕ) (w : List ℕ) → length w ≡ k → AllDigits w → Stands w s at → least ≤ number_in n w → number_in n w ≤ most →
      digits_at k n least most s at ≡ DigitsGot (number_in n w) (at + k)
  unfolding digits_at number_in
  digits_there zero n at [] e d st l h = rw (add-zero at)
  digits_there zero n at (x ∷ w) e d st l h = absurd (omega arith)
  digits_there (suc k) n at [] e d st l h = absurd (omega arith)
  digits_there (suc k) n at (x ∷ w) e d st l h =
      let o = both (is_digit x) (every is_digit w) d in
      let f : length w ≡ k = omega arith in
      let b = rw f at (number_between (10 * n + (x - 48)) w o.1) in
      let m : may_be least most k (10 * n + (x - 48)) ≡ true = may least most k (10 * n + (x - 48)) (omega (arith, b.0)) (omega (arith, b.1)) in
      let a : at + suc k ≡ at + 1 + k = omega arith in
      rw (st.1.0, o.0, m, a) (digits_there k (10 * n + (x - 48)) (at + 1) w f o.1 st.1.1 l h)

  -- so many digits of a number in the range
  pub digits_read : (k v at : ℕ) → v < tens k → least ≤ v → v ≤ most → Stands (in_digits k v) s at → digits_at k 0 least most s at ≡ DigitsGot v (at + k)
  digits_read k v at t l h st =
      let e = in_digits_number k v t in
      let r = digits_there k 0 at (in_digits k v) (in_digits_long k v) (in_digits_all k v) st (rw e l) (rw e h) in
      rw e at r

  pub digits_told : (k v at next : ℕ) → may_be least most k 0 ≡ true → digits_at k 0 least most s at ≡ DigitsGot v next →
      Read s (in_digits k v) at next × ((least ≤ v) × (v ≤ most))
  digits_told k v at next m e =
      let r = digits_good least most s k 0 at 0 v next [] m no_digits e in
      let z : 0 + k ≡ k = omega arith in
      let d : r.text ≡ in_digits k v = decimal_digits (rw z at r.number) in
      (rw (← d) (record { stands = r.stands.stands; end = r.stands.end }), (r.low, r.high))

-- the grammar's name of a bit is its text
name_text : {w : List ℕ} {b : Bit} → Name w b → (w ≡ name_of b) × InRange b
unfolding name_of
name_text name_0 = (refl, tt)
name_text name_1 = (refl, tt)
name_text (name_I h x) = (ap (λ (l : List ℕ). 73 ∷ l) (decimal_digits x), h)
name_text (name_B h x) = (ap (λ (l : List ℕ). 66 ∷ l) (decimal_digits x), h)

module _ (s : List ℕ) (at : ℕ) where
  -- a bit's name
  pub name_told : (v next : ℕ) → name_at s at ≡ BitName v next → Read s (name_of (bit_ref v)) at next × (v < 234)
  name_told v next e =
      let r = name_good s at v next e in
      let t = name_text r.name in
      let b = ref_back r.bit t.1 in
      let f : name_of (bit_ref v) ≡ r.text = ap (λ (c : ℕ). name_of (bit_ref c)) r.code ∙ ap name_of b.0 ∙ sym t.0 in
      (rw f (record { stands = r.stands.stands; end = r.stands.end }), omega (arith, b.1, r.code))

  pub name_read : (b : Bit) → InRange b → Stands (name_of b) s at → name_at s at ≡ BitName (bit_code b) (at + length (name_of b))
  unfolding name_at name_of tens
  name_read off h st = rw st.1.0
  name_read on h st = rw st.1.0
  name_read (input n) h st =
      let d = digits_read s 1 32 2 (n + 1) (at + 1) (omega arith) (omega arith) (omega arith) st.1.1 in
      let a : 1 + (n + 1) ≡ n + 2 = omega arith in
      let c : at + length (73 ∷ in_digits 2 (n + 1)) ≡ at + 1 + 2 = omega (arith, in_digits_long 2 (n + 1)) in
      rw (st.1.0, d, a, c)
  name_read (output n) h st =
      let d = digits_read s 0 199 3 n (at + 1) (omega arith) (omega arith) (omega arith) st.1.1 in
      let a : 34 + n ≡ n + 34 = omega arith in
      let c : at + length (66 ∷ in_digits 3 n) ≡ at + 1 + 3 = omega (arith, in_digits_long 3 n) in
      rw (st.1.0, d, a, c)
