-- Digits that stand in a text: their number, and the digits of a number. Assumes nothing.
use Prim.Native.Nat.{ℕ, zero, suc, ◌+◌, ◌*◌, ◌-◌, ◌/◌, ◌%◌, ◌<◌, ◌≤◌}
use mathlib.Core.Path.{◌≡◌, refl, sym, ◌∙◌}
use mathlib.Core.Bool.{Bool, true, false}
use mathlib.Core.List.{List, [], ◌∷◌, ◌++◌, append_assoc, append-nil}
use native.Mathlib.Nat.{add-zero}
use native.Mathlib.Omega.{arith}
use lib.ListN.{length, length-append}
use lib.Dec.{leb}
use borrow.Author.Tests.{leb-true}
use Rattle.terms.specs.Choice.{every}
use Rattle.terms.proofs.Choice.{both}
use Rattle.terms.proofs.Every.{both_hold, every_append}
use Rattle.wire.specs.Number.{byte_at}
use Rattle.wire.specs.Facts.{Stands}
use Rattle.grammar.specs.Grammar.{digit, Decimal, no_digits, one_more}
use Rattle.grammar.specs.Machine.{tens, is_digit}
use Rattle.grammar.proofs.Complete.{is_digit_lem}
use Rattle.grammar.proofs.From.{there}
use Rattle.shown.specs.Show.{in_digits}
use Rattle.values.specs.Reading.{run_at}

-- the number of digits that follow a number
unfoldable pub number_in : ℕ → List ℕ → ℕ
number_in n [] = n
number_in n (x ∷ xs) = number_in (10 * n + (x - 48)) xs

abbrev pub AllDigits : List ℕ → Type 0
AllDigits w = every is_digit w ≡ true

-- a digit in numbers
pub digit_bounds : (x : ℕ) → is_digit x ≡ true → (48 ≤ x) × (x ≤ 57)
unfolding is_digit
digit_bounds x e = let o = both (leb 48 x) (leb x 57) e in (leb-true 48 x o.0, leb-true x 57 o.1)

-- one digit more
pub number_snoc : (n : ℕ) (w : List ℕ) (x : ℕ) → number_in n (w ++ (x ∷ [])) ≡ 10 * number_in n w + (x - 48)
unfolding number_in
number_snoc n [] x = refl
number_snoc n (y ∷ w) x = number_snoc (10 * n + (y - 48)) w x

-- k digits of a number: so many, all digits, and its number
pub in_digits_long : (k n : ℕ) → length (in_digits k n) ≡ k
in_digits_long zero n = refl
in_digits_long (suc k) n = omega (arith, length-append (in_digits k (n / 10)) (digit (n % 10) ∷ []), in_digits_long k (n / 10))

pub in_digits_all : (k n : ℕ) → AllDigits (in_digits k n)
in_digits_all zero n = refl
in_digits_all (suc k) n =
    every_append is_digit (in_digits k (n / 10)) (digit (n % 10) ∷ []) (in_digits_all k (n / 10)) (both_hold (is_digit_lem (n % 10) (omega arith)) refl)

pub in_digits_number : (k n : ℕ) → n < tens k → number_in 0 (in_digits k n) ≡ n
unfolding tens number_in
in_digits_number zero n h = omega arith
in_digits_number (suc k) n h =
    let e : 10 * (n / 10) + (48 + n % 10 - 48) ≡ n = omega arith in
    number_snoc 0 (in_digits k (n / 10)) (digit (n % 10)) ∙ rw (in_digits_number k (n / 10) (omega arith)) e

-- digits are those of their number
digits_behind : (k n : ℕ) (w : List ℕ) → AllDigits w → in_digits (length w + k) (number_in n w) ≡ in_digits k n ++ w
unfolding number_in
digits_behind k n [] h = let e : 0 + k ≡ k = omega arith in rw e (sym (append-nil (in_digits k n)))
digits_behind k n (x ∷ w) h =
    let o = both (is_digit x) (every is_digit w) h in
    let b = digit_bounds x o.0 in
    let d = x - 48 in
    let v = 10 * n + d in
    let q : v / 10 ≡ n = omega arith in
    let r : 48 + v % 10 ≡ x = omega arith in
    let e : suc (length w) + k ≡ length w + suc k = omega arith in
    rw e (digits_behind (suc k) v w o.1 ∙ rw (q, r) (append_assoc (in_digits k n) (x ∷ []) w))

pub digits_of_lem : (w : List ℕ) → AllDigits w → in_digits (length w) (number_in 0 w) ≡ w
digits_of_lem w h = let e : length w + 0 ≡ length w = add-zero (length w) in rw e at (digits_behind 0 0 w h)

-- the grammar's digits are these
pub decimal_digits : {k n : ℕ} {w : List ℕ} → Decimal k n w → w ≡ in_digits k n
decimal_digits no_digits = refl
decimal_digits (one_more {k = k} {n = n} {w = w} d h x) =
    let q : (10 * n + d) / 10 ≡ n = omega arith in
    let r : (10 * n + d) % 10 ≡ d = omega arith in
    rw (q, r, decimal_digits x)

module _ (s : List ℕ) where
  -- over digits that stand there, and no further
  pub run_over :
      (l c n at : ℕ) (w : List ℕ) → Stands w s at → AllDigits w → length w < l → is_digit (byte_at s (at + length w)) ≡ false →
      run_at l c n s at ≡ record { count = c + length w; number = number_in n w }
  unfolding run_at number_in
  run_over zero c n at w st d h e = absurd (omega arith)
  run_over (suc l) c n at [] st d h e =
      let f : is_digit (byte_at s at) ≡ false = rw (add-zero at) at e in
      rw (f, add-zero c)
  run_over (suc l) c n at (x ∷ w) st d h e =
      let o = both (is_digit x) (every is_digit w) d in
      let a : at + suc (length w) ≡ at + 1 + length w = omega arith in
      let b : c + suc (length w) ≡ c + 1 + length w = omega arith in
      rw (st.1.0, o.0, b) (run_over l (c + 1) (10 * n + (x - 48)) (at + 1) w st.1.1 o.1 (omega arith) (rw a at e))

  -- what was run over
  pub record Ran (l c n at : ℕ) : Type 0 where
    pub text : List ℕ
    pub stands : Stands text s at
    pub digits : AllDigits text
    pub is : run_at l c n s at ≡ record { count = c + length text; number = number_in n text }

  pub ran : (l c n at : ℕ) → Ran l c n at
  unfolding run_at number_in
  ran zero c n at = record { text = []; stands = tt; digits = refl; is = rw (add-zero c) }
  ran (suc l) c n at = go (is_digit (byte_at s at)) refl (ran l (c + 1) (10 * n + (byte_at s at - 48)) (at + 1))
    where
      go : (b : Bool) → is_digit (byte_at s at) ≡ b → Ran l (c + 1) (10 * n + (byte_at s at - 48)) (at + 1) → Ran (suc l) c n at
      go true e r =
          let b : c + suc (length r.text) ≡ c + 1 + length r.text = omega arith in
          let h = digit_bounds (byte_at s at) e in
          record {
            text = byte_at s at ∷ r.text;
            stands = (there s at (byte_at s at) (omega arith) refl, (refl, r.stands));
            digits = both_hold e r.digits;
            is = rw (e, b) r.is;
          }
      go false e r = record { text = []; stands = tt; digits = refl; is = rw (e, add-zero c) }
