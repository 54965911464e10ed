-- What the grammar reads, the acceptor passes over. Assumes nothing.
use Prim.Native.Nat.{ℕ, zero, suc, ◌+◌, ◌*◌, ◌-◌, ◌<◌, ◌≤◌}
use mathlib.Core.Path.{◌≡◌, refl}
use mathlib.Core.List.{List, [], ◌∷◌}
use mathlib.Core.Bool.{true}
use native.Mathlib.Nat.{add-mul, mul_assoc, mul_left_comm, mul-le-mul_right}
use native.Mathlib.Omega.{arith}
use lib.Dec.{ltb, leb}
use borrow.Author.Tests.{le-leb, lt-ltb, leb-true, ltb-true}
use Rattle.terms.proofs.Choice.{both}
use Rattle.terms.proofs.Every.{both_hold}
use Rattle.numbers.specs.Blocks.{Bit, Expr}
use Rattle.grammar.specs.Grammar.{opening, closing, digit, spaces, Decimal, Name, name_0, name_1, name_I, name_B, Level}
use Rattle.grammar.specs.Grammar.{Operator, and_sign, nand_sign, xor_sign, or_sign, nor_sign, Reads, alone, joined, named, negated, grouped}
use Rattle.grammar.specs.Machine.{want, had, digits, tens, may_be, is_digit, to_come, in_number, closes, step}
use Rattle.grammar.proofs.Machines.{run, Goes, ◌then◌, over_spaces, over_digits}

pub some_tens : (k : ℕ) → 1 ≤ tens k
unfolding tens
some_tens zero = omega arith
some_tens (suc k) = omega (arith, some_tens k)

-- what a number may still be, in numbers
pub may_be_lem : (least most k n : ℕ) → may_be least most k n ≡ true → (n * tens k ≤ most) × (least < n * tens k + tens k)
unfolding may_be
may_be_lem least most k n e =
    let o = both (leb (n * tens k) most) (ltb least (n * tens k + tens k)) e in (leb-true (n * tens k) most o.0, ltb-true least (n * tens k + tens k) o.1)

pub may : (least most k n : ℕ) → n * tens k ≤ most → least < n * tens k + tens k → may_be least most k n ≡ true
unfolding may_be
may least most k n l h = both_hold (le-leb (n * tens k) most l) (lt-ltb least (n * tens k + tens k) h)

-- if it may be something with one digit more, it may be that before
may_before : (least most k n d : ℕ) → d < 10 → may_be least most k (10 * n + d) ≡ true → may_be least most (suc k) n ≡ true
unfolding tens
may_before least most k n d h e =
    let o = may_be_lem least most k (10 * n + d) e in
    let p = tens k in
    let l : d * p ≤ 9 * p = mul-le-mul_right p (omega arith) in
    may least most (suc k) n (omega (arith, o.0, add-mul (10 * n) d p, mul_assoc 10 n p, mul_left_comm n 10 p))
    (omega (arith, o.1, add-mul (10 * n) d p, mul_assoc 10 n p, mul_left_comm n 10 p))

pub is_digit_lem : (d : ℕ) → d < 10 → is_digit (48 + d) ≡ true
unfolding is_digit
is_digit_lem d h = both_hold (le-leb 48 (48 + d) (omega arith)) (le-leb (48 + d) 57 (omega arith))

-- one digit more of a number that may be
pub next_digit :
    (k n least most d v : ℕ) → v < 10 → may_be least most k (10 * n + v) ≡ true →
    step (digits k n least most d) (digit v) ≡ to_come k (10 * n + v) least most d
unfolding step in_number
next_digit k n least most d v h e = let a : 10 * n + ((48 + v) - 48) ≡ 10 * n + v = omega arith in rw (a, is_digit_lem v h, e)

module _ (d : ℕ) where
  pub spaces_want : (n : ℕ) → Goes step (want d) (spaces n) (want d)
  unfolding step
  spaces_want = over_spaces step (want d) refl

  pub spaces_had : (n : ℕ) → Goes step (had d) (spaces n) (had d)
  unfolding step
  spaces_had = over_spaces step (had d) refl

  number : (least most : ℕ) {j n : ℕ} {w : List ℕ} → Decimal j n w → may_be least most 0 n ≡ true
      → Goes step (to_come (j + 0) 0 least most d) w (to_come 0 n least most d)
  unfolding to_come
  number least most =
      over_digits step (λ l n. to_come l n least most d) (λ l n. may_be least most l n ≡ true) (may_before least most)
      (λ l n v. next_digit l n least most d v) 0

  whole_number : (least most : ℕ) {j n : ℕ} {w : List ℕ} → Decimal j n w → least ≤ n → n ≤ most → Goes step (to_come j 0 least most d) w (had d)
  unfolding to_come tens
  whole_number least most {j} {n} x l h =
      let a : j + 0 ≡ j = omega arith in
      rw a at (number least most x (may least most 0 n (omega arith) (omega arith)))

  pub name : {w : List ℕ} {b : Bit} → Name w b → Goes step (want d) w (had d)
  unfolding run step
  name name_0 = record { there = refl }
  name name_1 = record { there = refl }
  name (name_I h x) = record { there = (whole_number 1 32 x (omega arith) (omega arith)).there }
  name (name_B h x) = record { there = (whole_number 0 199 x (omega arith) (omega arith)).there }

  pub sign : {list : Level} {o : ℕ} {w : List ℕ} → Operator list o w → Goes step (had d) w (want d)
  unfolding run step
  sign and_sign = record { there = refl }
  sign nand_sign = record { there = refl }
  sign xor_sign = record { there = refl }
  sign or_sign = record { there = refl }
  sign nor_sign = record { there = refl }

  pub opens : d < 16 → Goes step (want d) (opening ∷ []) (want (suc d))
  unfolding run step
  opens h = record { there = rw (lt-ltb d 16 h) }

pub passes : {d : ℕ} {l : Level} {w : List ℕ} {t : Expr} → Reads d l w t → Goes step (want d) w (had d)
unfolding run step closes
passes (alone c x) = passes x
passes (joined {around = d} c x o y) = passes x then sign d o then passes y
passes (named {around = d} m n x) = spaces_want d m then name d x then spaces_had d n
passes (negated {around = d} m x) = spaces_want d m then record { there = (passes x).there }
passes (grouped {around = d} m n h x) =
    let behind : Goes step (had (suc d)) (closing ∷ spaces n) (had d) = record { there = (spaces_had d n).there } in
    spaces_want d m then opens d h then passes x then behind
