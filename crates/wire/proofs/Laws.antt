-- Laws of numbers, each by induction on the number of groups. Assumes nothing.
use Prim.Native.Nat.{ℕ, zero, suc, ◌+◌, ◌*◌, ◌%◌, ◌/◌, ◌^◌, ◌<◌, ◌≤◌}
use mathlib.Core.Path.{◌≡◌, refl, subst}
use mathlib.Core.List.{List}
use native.Mathlib.Omega.{arith}
use native.Mathlib.Nat.{pow-suc, one-le-pow, pow-zero}
use lib.ListN.{length}
use lib.Dec.{ltb}
use borrow.Author.Tests.{ltb-true, ltb-false, lt-ltb, le-ltb}
use Rattle.wire.specs.Number.{Num, Got, Bad, Cut}
use Rattle.wire.specs.Number.{byte_at, more, not_zero, groups_at, groups_of}
use Rattle.wire.specs.Facts.{Stands, Bytes, NumberFacts}
use Rattle.terms.proofs.Choice.{pick_case}
use Rattle.wire.proofs.Reasons.{cut_exactly, bad_exactly}

-- what an answer of at most k groups, from `at` on, tells of its value and of the place after it
abbrev Fair : ℕ → List ℕ → ℕ → Num → Type 0
Fair k s at (Got v next) = (v < 128 ^ k) × ((at < next) × ((next ≤ at + k) × (next ≤ length s)))
Fair k s at Bad = Unit {0}
Fair k s at Cut = Unit {0}

fair_more : (k g : ℕ) (s : List ℕ) (at : ℕ) (r : Num) → g < 128 → Fair k s (at + 1) r → Fair (suc k) s at (more g r)
fair_more k g s at (Got v next) h f = let e = pow-suc 128 k in omega arith
fair_more k g s at Bad h f = tt
fair_more k g s at Cut h f = tt

fair : (k least : ℕ) (s : List ℕ) (at : ℕ) → Fair k s at (groups_at k least s at)
unfolding groups_at
fair zero least s at = tt
fair (suc k) least s at =
    let b : ℕ = byte_at s at in
    let F : Num → Type 0 = Fair (suc k) s at in
    let e = pow-suc 128 k in
    let p = one-le-pow k 128 (omega arith) in
    pick_case F (ltb at (length s))
    (λ inside. pick_case F (ltb b 128)
    (λ lt. pick_case F (ltb b least) (λ _. tt) (λ _. omega (arith, ltb-true b 128 lt, ltb-true at (length s) inside)))
    (λ _. fair_more k (b % 128) s at (groups_at k not_zero s (at + 1)) (omega arith) (fair k not_zero s (at + 1))))
    (λ _. tt)

pub below : (k least : ℕ) (s : List ℕ) (at v next : ℕ) → groups_at k least s at ≡ Got v next → v < 128 ^ k
below k least s at v next e = (subst (Fair k s at) e (fair k least s at)).0

pub takes :
    (k least : ℕ) (s : List ℕ) (at v next : ℕ) → groups_at k least s at ≡ Got v next →
    (at < next) × ((next ≤ at + k) × (next ≤ length s))
takes k least s at v next e = (subst (Fair k s at) e (fair k least s at)).1

-- reading what is written: `least` may be anything up to the value
back_from :
    (k v least : ℕ) (s : List ℕ) (at : ℕ) → 0 < k + v → v < 128 ^ k → least ≤ v →
    Stands (groups_of k v) s at → groups_at k least s at ≡ Got v (at + length (groups_of k v))
unfolding groups_at groups_of
back_from zero v least s at pos h l st = let z : ⊥ = omega (arith, pow-zero 128) in absurd z
back_from (suc k) v least s at pos h l st =
    pick_case (λ (x : List ℕ). Stands x s at → groups_at (suc k) least s at ≡ Got v (at + length x)) (ltb v 128)
    (λ lt st. rw (lt-ltb _ _ st.0, st.1.0, lt, le-ltb v least l))
    (λ ge st.
    let g = ltb-false v 128 ge in
    let ih = back_from k (v / 128) not_zero s (at + 1) (omega arith) (omega (arith, rw pow-suc at h)) (omega arith) st.1.1 in
    let m : (128 + v % 128) % 128 ≡ v % 128 = omega arith in
    let w : v % 128 + v / 128 * 128 ≡ v = omega arith in
    let n : at + 1 + length (groups_of k (v / 128)) ≡ at + suc (length (groups_of k (v / 128))) = omega arith in
    rw (lt-ltb _ _ st.0, st.1.0, le-ltb (128 + v % 128) 128 (omega arith), m, ih, w, n))
    st

pub back :
    (k : ℕ) (s : List ℕ) (at v : ℕ) → 0 < k → v < 128 ^ k → Stands (groups_of k v) s at →
    groups_at k 0 s at ≡ Got v (at + length (groups_of k v))
back k s at v pos h st = back_from k v 0 s at (omega arith) h (omega arith) st

-- what an answer of at most k groups tells of the bytes that it passed
abbrev Formed : ℕ → ℕ → List ℕ → ℕ → Num → Type 0
Formed k least s at (Got v next) = (least ≤ v) × (Stands (groups_of k v) s at × (next ≡ at + length (groups_of k v)))
Formed k least s at Bad = Unit {0}
Formed k least s at Cut = Unit {0}

formed_last :
    (k least : ℕ) (s : List ℕ) (at : ℕ) → at < length s → byte_at s at < 128 → least ≤ byte_at s at →
    Formed (suc k) least s at (Got (byte_at s at) (at + 1))
unfolding groups_of
formed_last k least s at inside low ge = rw (lt-ltb (byte_at s at) 128 low) (ge, ((inside, (refl, tt)), refl))

formed_more :
    (k least : ℕ) (s : List ℕ) (at : ℕ) (r : Num) → at < length s → 128 ≤ byte_at s at → byte_at s at < 256 → least ≤ 1 →
    Formed k not_zero s (at + 1) r → Formed (suc k) least s at (more (byte_at s at % 128) r)
unfolding groups_of
formed_more k least s at (Got v next) inside high byte l (pos, (st, e)) =
    let b : ℕ = byte_at s at in
    let low : (b % 128 + v * 128) % 128 ≡ b % 128 = omega arith in
    let rest : (b % 128 + v * 128) / 128 ≡ v = omega arith in
    let whole : b ≡ 128 + b % 128 = omega arith in
    let n : next ≡ at + suc (length (groups_of k v)) = omega arith in
    rw (le-ltb (b % 128 + v * 128) 128 (omega arith), low, rest) (omega arith, ((inside, (whole, st)), n))
formed_more k least s at Bad inside high byte l f = tt
formed_more k least s at Cut inside high byte l f = tt

formed : (k least : ℕ) (s : List ℕ) (at : ℕ) → Bytes s → least ≤ 1 → Formed k least s at (groups_at k least s at)
unfolding groups_at
formed zero least s at bytes l = tt
formed (suc k) least s at bytes l =
    let b : ℕ = byte_at s at in
    let F : Num → Type 0 = Formed (suc k) least s at in
    pick_case F (ltb at (length s))
    (λ inside. pick_case F (ltb b 128)
    (λ lt. pick_case F (ltb b least) (λ _. tt) (λ ge. formed_last k least s at (ltb-true at (length s) inside) (ltb-true b 128 lt) (ltb-false b least ge)))
    (λ ge. formed_more k least s at (groups_at k not_zero s (at + 1)) (ltb-true at (length s) inside) (ltb-false b 128 ge) (bytes at) l
    (formed k not_zero s (at + 1) bytes (omega arith))))
    (λ _. tt)

pub form :
    (k : ℕ) (s : List ℕ) (at v next : ℕ) → Bytes s → groups_at k 0 s at ≡ Got v next →
    Stands (groups_of k v) s at × (next ≡ at + length (groups_of k v))
form k s at v next bytes e = (subst (Formed k 0 s at) e (formed k 0 s at bytes (omega arith))).1

-- no number has no groups
pub some : (k : ℕ) (s : List ℕ) (at v next : ℕ) → groups_at k 0 s at ≡ Got v next → 0 < k
some k s at v next e = let t = takes k 0 s at v next e in omega arith

pub agree :
    (k : ℕ) (s t : List ℕ) (at to v next : ℕ) → groups_at k 0 s at ≡ Got v next → Stands (groups_of k v) t to →
    groups_at k 0 t to ≡ Got v (to + length (groups_of k v))
agree k s t at to v next e st = back k t to v (some k s at v next e) (below k 0 s at v next e) st

pub facts : NumberFacts
facts = record { below = below; takes = takes; back = back; form = form; agree = agree; cut = cut_exactly; bad = bad_exactly }
