-- One digit more of a number in a name, as the code looks at it. Assumes nothing.
use Prim.Native.Nat.{ℕ, zero, suc, ◌+◌, ◌*◌, ◌-◌, ◌<◌, ◌≤◌}
use mathlib.Core.Path.{◌≡◌, refl, sym, ap, ◌∙◌}
use mathlib.Core.Bool.{Bool, true, false, ◌&&◌}
use mathlib.Core.List.{List}
use native.Mathlib.Nat.{mul-le-mul, le-mul_of_pos_right}
use native.Mathlib.Omega.{arith}
use lib.ListN.{length}
use lib.Dec.{leb}
use borrow.Author.Tests.{leb-true, le-leb, lt-leb, lt-ltb, le-ltb}
use Rattle.std.specs.Char.{is_ascii_digit}
use Rattle.terms.proofs.Choice.{both}
use Rattle.wire.specs.Number.{byte_at}
use Rattle.grammar.specs.Machine.{tens, may_be, is_digit}
use Rattle.grammar.proofs.Complete.{some_tens}
use Rattle.grammar.proofs.From.{there}
use Rattle.spelling.specs.Spelling.{Got, Bad}
use Rattle.spelling.specs.Spelling.{digits_at}

-- the test of a digit, as the code asks it
pub digit_is : (s : List ℕ) (at : ℕ) {b : ℕ} {r t : Bool} → b ≡ byte_at s at → r ≡ is_ascii_digit b → r ≡ t → is_digit (byte_at s at) ≡ t
unfolding is_digit
digit_is s at e f g = rw (← e) (sym f ∙ g)

pub digit_most : (s : List ℕ) (at : ℕ) → is_digit (byte_at s at) ≡ true → byte_at s at ≤ 57
unfolding is_digit
digit_most s at e = leb-true (byte_at s at) 57 (both (leb 48 (byte_at s at)) (leb (byte_at s at) 57) e).1

-- a digit stands within the text
pub digit_here : (s : List ℕ) (at : ℕ) → is_digit (byte_at s at) ≡ true → at < length s
unfolding is_digit
digit_here s at e =
    let l = leb-true 48 (byte_at s at) (both (leb 48 (byte_at s at)) (leb (byte_at s at) 57) e).0 in
    there s at (byte_at s at) (omega arith) refl

tens_most : (k : ℕ) → k ≤ 2 → tens k ≤ 100
unfolding tens
tens_most zero h = omega arith
tens_most (suc zero) h = omega arith
tens_most (suc (suc zero)) h = omega arith
tens_most (suc (suc (suc k))) h = absurd (omega arith)

-- nothing is too large for 32 bits
pub unit_most : (unit k : ℕ) → unit ≡ tens k → k ≤ 2 → unit ≤ 100
unit_most unit k e h = omega (arith, tens_most k h)

pub product : (v unit k : ℕ) → unit ≡ tens k → k ≤ 2 → v ≤ 9999 → v * unit ≤ 999900
product v unit k e h l = mul-le-mul l (unit_most unit k e h)

pub still_small : (v unit k most : ℕ) → unit ≡ tens k → v * unit ≤ most → v ≤ most
still_small v unit k most e h =
    let p : 0 < unit = omega (arith, some_tens k) in
    omega (arith, le-mul_of_pos_right v p)

module _ (s : List ℕ) (at n least most left : ℕ) (more : 0 < left) where
  -- the test of a digit, by its parts
  fails : (is_digit (byte_at s at) && may_be least most (left - 1) (10 * n + (byte_at s at - 48))) ≡ false → digits_at left n least most s at ≡ Bad at
  unfolding digits_at
  fails e = let l : left ≡ suc (left - 1) = omega arith in rw l (rw e refl)

  pub no_digit : is_digit (byte_at s at) ≡ false → digits_at left n least most s at ≡ Bad at
  no_digit h = fails (rw h refl)

  module _ (digit : is_digit (byte_at s at) ≡ true) {v unit : ℕ} (e : v ≡ 10 * n + (byte_at s at - 48)) (f : unit ≡ tens (left - 1)) where
    pub too_large : most < v * unit → digits_at left n least most s at ≡ Bad at
    unfolding may_be
    too_large h = fails (rw (digit, ← e, ← f, lt-leb (v * unit) most h))

    pub too_small : v * unit ≤ most → v * unit + unit ≤ least → digits_at left n least most s at ≡ Bad at
    unfolding may_be
    too_small g h = fails (rw (digit, ← e, ← f, le-leb (v * unit) most g, le-ltb least (v * unit + unit) h))

    pub goes_on : v * unit ≤ most → least < v * unit + unit → digits_at left n least most s at ≡ digits_at (left - 1) v least most s (at + 1)
    unfolding digits_at may_be
    goes_on g h =
        let l : left ≡ suc (left - 1) = omega arith in
        let i : left - 1 ≡ suc (left - 1) - 1 = omega arith in
        ap (λ (k : ℕ). digits_at k n least most s at) l ∙ rw (digit, ← e, ← f, le-leb (v * unit) most g, lt-ltb least (v * unit + unit) h)

pub ends : (s : List ℕ) (at n least most left : ℕ) → left ≤ 0 → digits_at left n least most s at ≡ Got n at
unfolding digits_at
ends s at n least most left h = let e : left ≡ 0 = omega arith in rw e
