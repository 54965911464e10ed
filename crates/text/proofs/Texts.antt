-- Laws of text: a number's digits are its decimal form, and what is put after another text joins it. Assumes nothing.
use Prim.Native.Nat.{ℕ, zero, suc, ◌+◌, ◌-◌, ◌/◌, ◌%◌, ◌^◌, ◌≤◌, ◌<◌}
use mathlib.Core.Path.{◌≡◌, refl, sym, ap, ◌∙◌}
use mathlib.Core.List.{List, [], ◌∷◌, ◌++◌, append_assoc}
use native.Mathlib.Nat.{pow-suc, one-le-pow, pow-le-pow_right, mod-lt, mod-eq_of_lt}
use native.Mathlib.Omega.{arith, by_contra}
use borrow.Rule.Slice.PartMut.{put_mid}
use lib.ListN.{length, set, take, drop, length-append}
use lib.Seq.{sets, length-sets, sets-eq, drop-drop}
use lib.Dec.{ltb}
use borrow.Author.Tests.{lt-ltb, le-ltb}
use Rattle.terms.proofs.Choice.{pick_case}
use Rattle.terms.proofs.Sets.{sets_append}
use Rattle.io.specs.Digits.{hex_digit_ascii, last_digits, IsDigitCount}
use Rattle.text.specs.Text.{digits_of, decimal, Put}

-- a part of a buffer that became a text
pub put_part :
    (text l : List ℕ) (at : ℕ) {part : List ℕ} → at + length text ≤ length l → part ≡ text →
    put_mid at (at + length text - at) l part ≡ sets l at text
put_part text l at h e =
    let k : at + length text - at ≡ length text = omega arith in
    let same = append_assoc (take at l) text (drop (at + length text) l) in
    rw (e, k, drop-drop (length text) at l) (sym (sets-eq text l at h ∙ same))

-- a text put right after another
module _ {xs ys l : List ℕ} {i : ℕ} {m : List ℕ} {j : ℕ} {n : List ℕ} {k : ℕ} where
  pub put_then : Put xs l i m j → Put ys m j n k → Put (xs ++ ys) l i n k
  put_then p q =
      record {
        bytes = q.bytes ∙ rw (p.bytes, p.place) (sets_append xs l ys i);
        place = simp length-append (omega (arith, p.place, q.place));
      }

-- the same, where the first text ends in a byte
pub put_ended :
    (xs : List ℕ) (e : ℕ) {ys l : List ℕ} {i : ℕ} {m : List ℕ} {j : ℕ} {n : List ℕ} {k : ℕ} →
    Put (xs ++ (e ∷ [])) l i m j → Put ys m j n k → Put (xs ++ (e ∷ ys)) l i n k
put_ended xs e {ys} p q = rw (append_assoc xs (e ∷ []) ys) at (put_then p q)

pub put_length : {xs l : List ℕ} {i : ℕ} {m : List ℕ} {j : ℕ} → Put xs l i m j → length m ≡ length l
put_length {xs} {l} {i} p = ap length p.bytes ∙ length-sets l i xs

-- the digit of a number below ten
digit : (d : ℕ) → d < 10 → hex_digit_ascii d ≡ 48 + d
digit d h = rw (lt-ltb d 10 h)

-- the fewest digits of a number are its decimal form
digits_decimal :
    (k m n : ℕ) → n < 10 ^ suc k → (0 < k → 10 ^ k ≤ n) → k < m → last_digits 10 (suc k) n ≡ digits_of m n
unfolding digits_of
digits_decimal k zero n h g l = absurd (omega arith)
digits_decimal zero (suc m) n h g l =
    rw (lt-ltb n 10 h, mod-eq_of_lt h) (ap (λ (d : ℕ). d ∷ []) (digit n h))
digits_decimal (suc k) (suc m) n h g l =
    let some : 10 ≤ n = omega (arith, g (omega arith), pow-suc 10 k, one-le-pow k 10 (omega arith)) in
    let below : n / 10 < 10 ^ suc k = omega (arith, pow-suc 10 (suc k)) in
    let front : last_digits 10 (suc k) (n / 10) ≡ digits_of m (n / 10) =
    digits_decimal k m (n / 10) below (λ _. omega (arith, g (omega arith), pow-suc 10 k)) (omega arith) in
    rw (le-ltb n 10 some, digit (n % 10) (mod-lt n (omega arith))) (ap (λ (ds : List ℕ). ds ++ ((48 + n % 10) ∷ [])) front)

-- a number of 64 bits has at most 20 digits
pub fewest_few : (k n : ℕ) → IsDigitCount 10 1 n k → n < 2 ^ 64 → k ≤ 20
fewest_few k n f h =
    by_contra k 20
    (λ l.
    let g : 20 ≤ k - 1 = omega arith in
    omega (arith, f.2 (omega arith), pow-le-pow_right {n = 10} (omega arith) g))

-- at most 20 digits that are the fewest of a number are its decimal form
fewest_decimal : (k n : ℕ) → IsDigitCount 10 1 n k → k ≤ 20 → last_digits 10 k n ≡ decimal n
fewest_decimal zero n f l = absurd (omega arith)
fewest_decimal (suc k) n f l =
    digits_decimal k 20 n f.1 (λ h. let e : suc k - 1 ≡ k = omega arith in rw e at (f.2 (omega arith))) (omega arith)

-- a number put and the byte that ends it
pub put_number :
    {n k : ℕ} {ds l : List ℕ} {i : ℕ} {m : List ℕ} {j : ℕ} (e : ℕ) → IsDigitCount 10 1 n k → n < 2 ^ 64 → ds ≡ last_digits 10 k n → Put ds l i m j →
    Put (decimal n ++ (e ∷ [])) l i (set m j e) (j + 1)
put_number {n} {k} e f h d p =
    rw (d ∙ fewest_decimal k n f (fewest_few k n f h)) at (put_then {ys = e ∷ []} p (record { bytes = refl; place = refl }))

-- a number of at most k digits takes at most k bytes
pub digits_short : (k n : ℕ) → length (digits_of k n) ≤ k
unfolding digits_of
digits_short zero n = omega arith
digits_short (suc k) n =
    pick_case (λ (ds : List ℕ). length ds ≤ suc k) (ltb n 10) (λ _. omega arith)
    (λ _. simp length-append (omega (arith, digits_short k (n / 10))))

pub put_small : (n e : ℕ) {l : List ℕ} {i : ℕ} {m : List ℕ} {j : ℕ} → Put (decimal n ++ (e ∷ [])) l i m j → (j ≤ i + 21) × (length m ≡ length l)
put_small n e p = (omega (arith, p.place, length-append (decimal n) (e ∷ []), digits_short 20 n), put_length p)
