-- Why a number is not read: it is cut, or it is badly formed. Each by induction on the number of groups. Assumes nothing.
use Prim.Native.Nat.{ℕ, zero, suc, ◌+◌, ◌%◌, ◌<◌, ◌≤◌}
use mathlib.Core.Path.{◌≡◌, refl, subst}
use mathlib.Core.Logic.{◌↔◌}
use mathlib.Core.List.{List}
use native.Mathlib.Omega.{arith}
use native.Mathlib.Nat.{add-zero}
use lib.ListN.{length}
use lib.Dec.{ltb}
use borrow.Author.Tests.{ltb-true, ltb-false, lt-ltb, le-ltb}
use Rattle.wire.specs.Number.{Num, Got, Bad, Cut}
use Rattle.wire.specs.Number.{byte_at, more, not_zero, groups_at}
use Rattle.wire.specs.Facts.{Highs, IsCut, cut_short, IsBad, too_long, not_shortest}
use Rattle.terms.proofs.Choice.{pick_case}

-- one byte with the high bit before others
highs_cons : (s : List ℕ) (at n : ℕ) → at < length s → 128 ≤ byte_at s at → Highs s (at + 1) n → Highs s at (suc n)
highs_cons s at n inside high h zero l = rw (add-zero at) (inside, high)
highs_cons s at n inside high h (suc i) l = let e : at + suc i ≡ at + 1 + i = omega arith in rw e (h i (omega arith))

highs_tail : (s : List ℕ) (at n : ℕ) → Highs s at (suc n) → Highs s (at + 1) n
highs_tail s at n h i l = let e : at + 1 + i ≡ at + suc i = omega arith in rw e (h (suc i) (omega arith))

highs_head : (s : List ℕ) (at n : ℕ) → Highs s at (suc n) → (at < length s) × (128 ≤ byte_at s at)
highs_head s at n h = let e : at + 0 ≡ at = add-zero at in rw e at (h 0 (omega arith))

none : (s : List ℕ) (at : ℕ) → Highs s at 0
none s at i l = absurd (omega arith)

-- why a number of at most k groups, whose last is at least `least`, is not read
data WhyBad (k least : ℕ) (s : List ℕ) (at : ℕ) : Type 0 where
  long : Highs s at k → WhyBad k least s at
  low : 0 < k → at < length s → byte_at s at < least → WhyBad k least s at
  zero_last : (n : ℕ) → 0 < n → n < k → at + n < length s → byte_at s (at + n) ≡ 0 → Highs s at n → WhyBad k least s at

abbrev Why : ℕ → ℕ → List ℕ → ℕ → Num → Type 0
Why k least s at (Got v next) = Unit {0}
Why k least s at Bad = WhyBad k least s at
Why k least s at Cut = IsCut k s at

why_more :
    (k least g : ℕ) (s : List ℕ) (at : ℕ) (r : Num) → at < length s → 128 ≤ byte_at s at →
    Why k not_zero s (at + 1) r → Why (suc k) least s at (more g r)
why_more k least g s at (Got v next) inside high w = tt
why_more k least g s at Bad inside high (long h) = long (highs_cons s at k inside high h)
why_more k least g s at Bad inside high (low p i z) =
    zero_last 1 (omega arith) (omega arith) i (omega arith) (highs_cons s at 0 inside high (none s (at + 1)))
why_more k least g s at Bad inside high (zero_last n p l i z h) =
    let e : at + suc n ≡ at + 1 + n = omega arith in
    zero_last (suc n) (omega arith) (omega arith) (rw e i) (rw e z) (highs_cons s at n inside high h)
why_more k least g s at Cut inside high (cut_short n l e h) =
    cut_short (suc n) (omega arith) (omega arith) (highs_cons s at n inside high h)

why : (k least : ℕ) (s : List ℕ) (at : ℕ) → Why k least s at (groups_at k least s at)
unfolding groups_at
why zero least s at = long (none s at)
why (suc k) least s at =
    let b : ℕ = byte_at s at in
    let F : Num → Type 0 = Why (suc k) least s at in
    pick_case F (ltb at (length s))
    (λ inside. pick_case F (ltb b 128)
    (λ lt. pick_case F (ltb b least) (λ z. low (omega arith) (ltb-true at (length s) inside) (ltb-true b least z)) (λ _. tt))
    (λ ge. why_more k least (b % 128) s at (groups_at k not_zero s (at + 1)) (ltb-true at (length s) inside) (ltb-false b 128 ge) (why k not_zero s (at + 1))))
    (λ out. cut_short 0 (omega arith) (omega (arith, ltb-false at (length s) out)) (none s at))

-- and back: what is so is told
cut_back : (k n least : ℕ) (s : List ℕ) (at : ℕ) → n < k → length s ≤ at + n → Highs s at n → groups_at k least s at ≡ Cut
unfolding groups_at
cut_back zero n least s at l e h = absurd (omega arith)
cut_back (suc k) zero least s at l e h = rw (le-ltb at (length s) (omega arith))
cut_back (suc k) (suc n) least s at l e h =
    let t = highs_head s at n h in
    rw (
      lt-ltb _ _ t.0,
      le-ltb (byte_at s at) 128 t.1,
      cut_back k n not_zero s (at + 1) (omega arith) (omega arith) (highs_tail s at n h),
    )

long_back : (k least : ℕ) (s : List ℕ) (at : ℕ) → Highs s at k → groups_at k least s at ≡ Bad
unfolding groups_at
long_back zero least s at h = refl
long_back (suc k) least s at h =
    let t = highs_head s at k h in
    rw (lt-ltb _ _ t.0, le-ltb (byte_at s at) 128 t.1, long_back k not_zero s (at + 1) (highs_tail s at k h))

zero_back : (k n : ℕ) (s : List ℕ) (at : ℕ) → n < k → at + n < length s → byte_at s (at + n) ≡ 0 → Highs s at n → groups_at k not_zero s at ≡ Bad
unfolding groups_at
zero_back zero n s at l i z h = absurd (omega arith)
zero_back (suc k) zero s at l i z h =
    let b : byte_at s at ≡ 0 = rw (add-zero at) at z in
    rw (lt-ltb _ _ (rw (add-zero at) at i), b)
zero_back (suc k) (suc n) s at l i z h =
    let t = highs_head s at n h in
    let e : at + suc n ≡ at + 1 + n = omega arith in
    rw (
      lt-ltb _ _ t.0,
      le-ltb (byte_at s at) 128 t.1,
      zero_back k n s (at + 1) (omega arith) (rw e at i) (rw e at z) (highs_tail s at n h),
    )

module _ (k : ℕ) (s : List ℕ) (at : ℕ) where
  cut_told : IsCut k s at → groups_at k 0 s at ≡ Cut
  cut_told (cut_short n l e h) = cut_back k n 0 s at l e h

  pub cut_exactly : groups_at k 0 s at ≡ Cut ↔ IsCut k s at
  cut_exactly = (λ e. subst (Why k 0 s at) e (why k 0 s at), cut_told)

  from_bad : WhyBad k 0 s at → IsBad k s at
  from_bad (long h) = too_long h
  from_bad (low p i z) = absurd (omega arith)
  from_bad (zero_last n p l i z h) = not_shortest n (omega arith) l i z h

bad_told : (k : ℕ) (s : List ℕ) (at : ℕ) → IsBad k s at → groups_at k 0 s at ≡ Bad
unfolding groups_at
bad_told k s at (too_long h) = long_back k 0 s at h
bad_told zero s at (not_shortest n p l i z h) = absurd (omega arith)
bad_told (suc k) s at (not_shortest zero p l i z h) = absurd (omega arith)
bad_told (suc k) s at (not_shortest (suc n) p l i z h) =
    let t = highs_head s at n h in
    let e : at + suc n ≡ at + 1 + n = omega arith in
    rw (
      lt-ltb _ _ t.0,
      le-ltb (byte_at s at) 128 t.1,
      zero_back k n s (at + 1) (omega arith) (rw e at i) (rw e at z) (highs_tail s at n h),
    )

pub bad_exactly : (k : ℕ) (s : List ℕ) (at : ℕ) → groups_at k 0 s at ≡ Bad ↔ IsBad k s at
bad_exactly k s at = (λ e. from_bad k s at (subst (Why k 0 s at) e (why k 0 s at)), bad_told k s at)
