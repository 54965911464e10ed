-- Digits from a place on, one more or no more, as the code looks at them; how large their number can be, and how many digits a number has. Assumes
-- nothing.
use Prim.Native.Nat.{ℕ, zero, suc, ◌+◌, ◌*◌, ◌-◌, ◌/◌, ◌^◌, ◌<◌, ◌≤◌}
use mathlib.Core.Path.{◌≡◌, refl, ap, ◌∙◌}
use mathlib.Core.Bool.{true, false}
use mathlib.Core.List.{List}
use native.Mathlib.Nat.{pow-suc, pow-le-pow_right, one-le-pow}
use native.Mathlib.Omega.{arith}
use lib.ListN.{length, length-append}
use lib.Dec.{leb}
use borrow.Author.Tests.{leb-true}
use Rattle.terms.proofs.Choice.{pick_case, both}
use Rattle.wire.specs.Number.{byte_at}
use Rattle.grammar.specs.Machine.{is_digit}
use Rattle.filling.specs.Filling.{digits_of}
use Rattle.filling.proofs.Decimals.{digits_one, digits_more}
use Rattle.values.specs.declared.Run.{Run}
use Rattle.values.specs.Reading.{run_at}

-- a byte that is a digit
record Digit (x : ℕ) : Type 0 where
  low : 48 ≤ x
  high : x ≤ 57

is_digit_lem : (x : ℕ) → is_digit x ≡ true → Digit x
unfolding is_digit
is_digit_lem x e = let o = both (leb 48 x) (leb x 57) e in record { low = leb-true 48 x o.0; high = leb-true x 57 o.1 }

module _ (s : List ℕ) (at left c n : ℕ) where
  pub ends : left ≤ 0 → run_at left c n s at ≡ record { count = c; number = n }
  unfolding run_at
  ends h = let e : left ≡ 0 = omega arith in rw e

  module _ (more : 0 < left) where
    pub no_digit : is_digit (byte_at s at) ≡ false → run_at left c n s at ≡ record { count = c; number = n }
    unfolding run_at
    no_digit h = let e : left ≡ suc (left - 1) = omega arith in rw (e, h)

    pub goes_on :
        {v : ℕ} → is_digit (byte_at s at) ≡ true → v ≡ 10 * n + (byte_at s at - 48) →
        run_at left c n s at ≡ run_at (left - 1) (c + 1) v s (at + 1)
    unfolding run_at
    goes_on digit f =
        let e : left ≡ suc (left - 1) = omega arith in
        ap (λ (k : ℕ). run_at k c n s at) e ∙ rw (digit, ← f) refl

-- what is read so far is no more than the whole, and the whole has no more digits than are looked at
pub number_grows : (left c n : ℕ) (s : List ℕ) (at : ℕ) → n ≤ (run_at left c n s at).number
unfolding run_at
number_grows zero c n s at = omega arith
number_grows (suc left) c n s at =
    pick_case (λ (r : Run). n ≤ r.number) (is_digit (byte_at s at))
    (λ _. omega (arith, number_grows left (c + 1) (10 * n + (byte_at s at - 48)) s (at + 1))) (λ _. omega arith)

pub number_small : (left c n : ℕ) (s : List ℕ) (at : ℕ) → n < 10 ^ c → (run_at left c n s at).number < 10 ^ (c + left)
unfolding run_at
number_small zero c n s at h = let e : c ≡ c + 0 = omega arith in rw (← e) h
number_small (suc left) c n s at h =
    pick_case (λ (r : Run). r.number < 10 ^ (c + suc left)) (is_digit (byte_at s at))
    (λ d.
    let x = is_digit_lem (byte_at s at) d in
    let e : suc c + left ≡ c + suc left = omega arith in
    let f : c + 1 ≡ suc c = omega arith in
    rw (f, ← e) (number_small left (suc c) (10 * n + (byte_at s at - 48)) s (at + 1) (omega (arith, pow-suc 10 c))))
    (λ _. omega (arith, pow-le-pow_right {n = 10} (omega arith) {i = c} {j = c + suc left} (omega arith)))

-- how many digits a number has, by its range
pub size_one : (k n : ℕ) → n < 10 → 1 ≡ length (digits_of (suc k) n)
size_one k n h = rw (digits_one k n h)

pub size_more : (j k n : ℕ) → 10 ^ j ≤ n → n < 10 ^ suc j → suc j ≡ length (digits_of (suc (j + k)) n)
size_more zero k n g h = let e : 0 + k ≡ k = omega arith in rw e (size_one k n (omega (arith, pow-suc 10 0)))
size_more (suc j) k n g h =
    let p = one-le-pow j 10 (omega arith) in
    let q = pow-suc 10 j in
    let e : suc j + k ≡ suc (j + k) = omega arith in
    rw (e, digits_more (suc (j + k)) n (omega arith))
    (simp length-append (omega (arith, size_more j k (n / 10) (omega arith) (omega (arith, pow-suc 10 (suc j))))))
