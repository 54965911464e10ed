-- Laws of decimals: a number has few digits, and more places for digits than it needs change nothing. Assumes nothing.
use Prim.Native.Nat.{ℕ, zero, suc, ◌+◌, ◌/◌, ◌%◌, ◌^◌, ◌≤◌, ◌<◌}
use mathlib.Core.Path.{◌≡◌}
use mathlib.Core.List.{List, [], ◌∷◌, ◌++◌}
use native.Mathlib.Nat.{pow-suc}
use native.Mathlib.Omega.{arith}
use lib.ListN.{length, length-append}
use lib.Dec.{ltb}
use borrow.Author.Tests.{lt-ltb, le-ltb}
use Rattle.terms.proofs.Choice.{pick_case}
use Rattle.filling.specs.Filling.{digits_of, decimal}

-- a number below ten, and one from ten on
pub digits_one : (k n : ℕ) → n < 10 → digits_of (suc k) n ≡ (48 + n) ∷ []
unfolding digits_of
digits_one k n h = rw (lt-ltb n 10 h)

pub digits_more : (k n : ℕ) → 10 ≤ n → digits_of (suc k) n ≡ digits_of k (n / 10) ++ ((48 + n % 10) ∷ [])
unfolding digits_of
digits_more k n h = rw (le-ltb n 10 h)

-- a number of at most k digits takes at most k bytes
pub digits_short : (k n : ℕ) → length (digits_of k n) ≤ k
unfolding digits_of
digits_short zero n = omega arith
digits_short (suc k) n =
    pick_case (λ (ds : List ℕ). length ds ≤ suc k) (ltb n 10) (λ _. omega arith)
    (λ _. simp length-append (omega (arith, digits_short k (n / 10))))

-- a number of at most k digits, with places for more
pub digits_same : (k j n : ℕ) → n < 10 ^ suc k → digits_of (suc k) n ≡ digits_of (suc (k + j)) n
unfolding digits_of
digits_same zero j n h = rw (lt-ltb n 10 h)
digits_same (suc k) j n h =
    let below : n / 10 < 10 ^ suc k = omega (arith, pow-suc 10 (suc k)) in
    let e : suc k + j ≡ suc (k + j) = omega arith in
    rw (e, digits_same k j (n / 10) below)

-- a decimal of several digits ends in its last; one below ten has no other
pub decimal_one : (n : ℕ) → n < 10 → decimal n ≡ (48 + n % 10) ∷ []
decimal_one n h = let e : n % 10 ≡ n = omega arith in rw (e, digits_one 19 n h)

pub decimal_more : (n : ℕ) → n < 10 ^ 10 → 10 ≤ n → decimal n ≡ decimal (n / 10) ++ ((48 + n % 10) ∷ [])
decimal_more n l h =
    let below : n / 10 < 10 ^ 9 = omega (arith, pow-suc 10 9) in
    let e : digits_of 9 (n / 10) ≡ digits_of 19 (n / 10) = digits_same 8 10 (n / 10) below in
    let f : digits_of 9 (n / 10) ≡ decimal (n / 10) = digits_same 8 11 (n / 10) below in
    rw (digits_more 19 n h, ← e, f)

-- a number below ten to the tenth takes at most ten bytes, one without its last digit at most nine
pub decimal_short : (n : ℕ) → n < 10 ^ 10 → length (decimal (n / 10)) ≤ 9
decimal_short n l =
    let below : n / 10 < 10 ^ 9 = omega (arith, pow-suc 10 9) in
    rw (← (digits_same 8 11 (n / 10) below)) (digits_short 9 (n / 10))
