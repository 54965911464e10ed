-- Decimals at a place of a line: what is read is the text of the number, and the text of a number is read as it, where no digit follows. Assumes nothing.
use Prim.Native.Nat.{ℕ, zero, suc, ◌+◌, ◌*◌, ◌-◌, ◌/◌, ◌%◌, ◌^◌, ◌<◌, ◌≤◌}
use mathlib.Core.Path.{◌≡◌, refl, sym, ap, ◌∙◌}
use mathlib.Core.Bool.{true, false, ◌&&◌}
use mathlib.Core.Logic.{⊎_elim}
use mathlib.Core.List.{List, [], ◌∷◌, ◌++◌}
use native.Mathlib.Nat.{pow-suc}
use native.Mathlib.Omega.{arith}
use lib.ListN.{length, length-append}
use lib.Dec.{ltb, leb, eqb}
use borrow.Author.Tests.{lt-ltb, le-ltb, ltb-true, leb-true, le-leb, eqb-true, eqb-false, eq-eqb, ne_eqb}
use Rattle.terms.specs.Choice.{every}
use Rattle.terms.proofs.Choice.{both, pick_case, le_or_lt}
use Rattle.terms.proofs.Every.{both_hold, every_append}
use Rattle.wire.specs.Number.{byte_at}
use Rattle.wire.specs.Facts.{Stands}
use Rattle.filling.specs.Filling.{digits_of, decimal}
use Rattle.filling.proofs.Decimals.{digits_short, digits_same}
use Rattle.grammar.specs.Grammar.{digit}
use Rattle.grammar.specs.Machine.{is_digit}
use Rattle.grammar.proofs.Complete.{is_digit_lem}
use Rattle.grammar.proofs.From.{there}
use Rattle.shown.specs.Show.{in_digits}
use Rattle.values.specs.Reading.{Value}
use Rattle.values.specs.Reading.{Got, Bad}
use Rattle.values.specs.Values.{minus, signed}
use Rattle.values.specs.Reading.{plain_of, plain_at, above, below, signed_at}
use Rattle.layout.proofs.Runs.{number_in, AllDigits, digit_bounds, number_snoc, digits_of_lem, run_over, ran}

-- the digits of a decimal: as many as it has, all digits, and its number
decimal_digits_of : (k n : ℕ) → digits_of k n ≡ in_digits (length (digits_of k n)) n
unfolding digits_of
decimal_digits_of zero n = refl
decimal_digits_of (suc k) n =
    pick_case (λ (ds : List ℕ). ds ≡ in_digits (length ds) n) (ltb n 10)
    (λ e. let h = ltb-true n 10 e in let r : n % 10 ≡ n = omega arith in rw r)
    (λ _.
    let l : length (digits_of k (n / 10) ++ (digit (n % 10) ∷ [])) ≡ suc (length (digits_of k (n / 10))) =
    length-append (digits_of k (n / 10)) (digit (n % 10) ∷ []) ∙ omega arith in
    rw l (ap (λ (ds : List ℕ). ds ++ (digit (n % 10) ∷ [])) (decimal_digits_of k (n / 10))))

all_digits : (k n : ℕ) → AllDigits (digits_of k n)
unfolding digits_of
all_digits zero n = refl
all_digits (suc k) n =
    pick_case (λ (ds : List ℕ). every is_digit ds ≡ true) (ltb n 10)
    (λ e. both_hold (is_digit_lem n (ltb-true n 10 e)) refl)
    (λ _. every_append is_digit (digits_of k (n / 10)) (digit (n % 10) ∷ []) (all_digits k (n / 10)) (both_hold (is_digit_lem (n % 10) (omega arith)) refl))

digits_number : (k n : ℕ) → n < 10 ^ k → number_in 0 (digits_of k n) ≡ n
unfolding digits_of number_in
digits_number zero n h = omega arith
digits_number (suc k) n h =
    pick_case (λ (ds : List ℕ). number_in 0 ds ≡ n) (ltb n 10)
    (λ e. omega arith)
    (λ e.
    let f : 10 * (n / 10) + (48 + n % 10 - 48) ≡ n = omega arith in
    number_snoc 0 (digits_of k (n / 10)) (digit (n % 10)) ∙ rw (digits_number k (n / 10) (omega (arith, pow-suc 10 k))) f)

pub decimal_all : (n : ℕ) → AllDigits (decimal n)
decimal_all n = all_digits 20 n

-- a number below 100,000 has at most five
pub decimal_short : (n : ℕ) → n < 100000 → length (decimal n) ≤ 5
decimal_short n h = rw (sym (digits_same 4 15 n h)) (digits_short 5 n)

pub decimal_some : (n : ℕ) → 0 < length (decimal n)
unfolding digits_of
decimal_some n =
    pick_case (λ (ds : List ℕ). 0 < length ds) (ltb n 10) (λ _. omega arith)
    (λ _. omega (arith, length-append (digits_of 19 (n / 10)) (digit (n % 10) ∷ [])))

-- a text that stands at a place, and what follows it
pub record Read (s w : List ℕ) (at next : ℕ) : Type 0 where
  pub stands : Stands w s at
  pub end : next ≡ at + length w

abbrev pub NoDigit : List ℕ → ℕ → Type 0
NoDigit s at = is_digit (byte_at s at) ≡ false

module _ (s : List ℕ) (at : ℕ) where
  pub plain_good : (most n next : ℕ) → plain_at most s at ≡ Got n next → Read s (decimal n) at next × (n ≤ most)
  unfolding plain_at plain_of
  plain_good most n next e =
      let r = ran s 6 0 0 at in
      let w = r.text in
      let v = number_in 0 w in
      let f : plain_of most at (record { count = 0 + length w; number = v }) ≡ Got n next = rw r.is at e in
      pick_case (λ (x : Value). x ≡ Got n next → Read s (decimal n) at next × (n ≤ most)) (eqb (0 + length w) (length (decimal v)) && leb v most)
      (λ t g.
      let o = both (eqb (0 + length w) (length (decimal v))) (leb v most) t in
      let a : v ≡ n = cc in
      let b : at + (0 + length w) ≡ next = cc in
      let c : length w ≡ length (decimal v) = omega (arith, eqb-true (0 + length w) (length (decimal v)) o.0) in
      let d : w ≡ decimal v = sym (digits_of_lem w r.digits) ∙ rw c (sym (decimal_digits_of 20 v)) in
      (rw (← a, ← d) (record { stands = r.stands; end = omega arith }), omega (arith, leb-true v most o.1)))
      (λ _ g. let z : ◌≡◌ {A = ℕ} 0 1 = cc in absurd (omega arith))
      f

  pub plain_read :
      (most n : ℕ) → n ≤ most → most < 100000 → Stands (decimal n) s at → NoDigit s (at + length (decimal n)) →
      plain_at most s at ≡ Got n (at + length (decimal n))
  unfolding plain_at plain_of
  plain_read most n h l st e =
      let w = decimal n in
      let r = run_over s 6 0 0 at w st (decimal_all n) (omega (arith, decimal_short n (omega arith))) e in
      let v : number_in 0 w ≡ n = digits_number 20 n (omega arith) in
      let z : 0 + length w ≡ length w = omega arith in
      rw (r, v, z, eq-eqb (length w) (length w) refl, le-leb n most h)

  -- the first byte of a decimal is a digit
  first_digit : (n : ℕ) → Stands (decimal n) s at → (byte_at s at ≡ minus → ⊥)
  first_digit n st = go (decimal n) (decimal_some n) (decimal_all n) st
    where
      go : (w : List ℕ) → 0 < length w → AllDigits w → Stands w s at → byte_at s at ≡ minus → ⊥
      go [] h d t e = omega arith
      go (x ∷ w) h d t e = let b = digit_bounds x (both (is_digit x) (every is_digit w) d).0 in omega (arith, t.1.0)

-- the text of a number below its bias, and of another
pub signed_below : (bias v : ℕ) → v < bias → signed bias v ≡ minus ∷ decimal (bias - v)
unfolding signed
signed_below bias v h = rw (lt-ltb v bias h)

pub signed_above : (bias v : ℕ) → bias ≤ v → signed bias v ≡ decimal (v - bias)
unfolding signed
signed_above bias v h = rw (le-ltb v bias h)

module _ (s : List ℕ) (at : ℕ) where
  -- it begins with a digit or a sign
  pub signed_first : (bias v : ℕ) → Stands (signed bias v) s at → byte_at s at ≤ 57
  unfolding signed
  signed_first bias v =
      pick_case (λ (w : List ℕ). Stands w s at → byte_at s at ≤ 57) (ltb v bias) (λ _ st. omega (arith, st.1.0))
      (λ _ st. digit_first (decimal (v - bias)) (decimal_some (v - bias)) (decimal_all (v - bias)) st)
    where
      digit_first : (w : List ℕ) → 0 < length w → AllDigits w → Stands w s at → byte_at s at ≤ 57
      digit_first [] h d t = absurd (omega arith)
      digit_first (x ∷ w) h d t = let b = digit_bounds x (both (is_digit x) (every is_digit w) d).0 in omega (arith, t.1.0)

  module _ (bias down up : ℕ) (low : down ≤ bias) (small : down < 100000) (small' : up < 100000) where
    -- a number in a decimal's range, at a place
    abbrev pub Signed : ℕ → ℕ → Type 0
    Signed v next = Read s (signed bias v) at next × ((bias ≤ v + down) × (v ≤ bias + up))

    negative : (v next : ℕ) (x : Value) → plain_at down s (at + 1) ≡ x → byte_at s at ≡ minus → below bias x ≡ Got v next → Signed v next
    negative v next Bad e m g = let z : ◌≡◌ {A = ℕ} 0 1 = cc in absurd (omega arith)
    negative v next (Got n to) e m g =
        pick_case (λ (x : Value). x ≡ Got v next → Read s (signed bias v) at next × ((bias ≤ v + down) × (v ≤ bias + up))) (eqb n 0)
        (λ _ f. let z : ◌≡◌ {A = ℕ} 0 1 = cc in absurd (omega arith))
        (λ z f.
        let o = plain_good s (at + 1) down n to e in
        let k : 0 < n = omega (arith, eqb-false n 0 z) in
        let a : bias - n ≡ v = cc in
        let b : to ≡ next = cc in
        let c : bias - v ≡ n = omega (arith, o.1) in
        let r : Read s (minus ∷ decimal n) at next =
        record { stands = (there s at minus (omega arith) m, (m, o.0.stands)); end = omega (arith, o.0.end) } in
        (rw (signed_below bias v (omega (arith, o.1)), c) r, (omega (arith, o.1), omega arith)))
        g

    positive : (v next : ℕ) (x : Value) → plain_at up s at ≡ x → above bias x ≡ Got v next → Signed v next
    positive v next Bad e g = let z : ◌≡◌ {A = ℕ} 0 1 = cc in absurd (omega arith)
    positive v next (Got n to) e g =
        let a : bias + n ≡ v = cc in
        let b : to ≡ next = cc in
        let o = plain_good s at up n to e in
        let c : v - bias ≡ n = omega arith in
        (rw (signed_above bias v (omega arith), c, ← b) o.0, (omega arith, omega (arith, o.1)))

    pub signed_good : (v next : ℕ) → signed_at bias down up s at ≡ Got v next → Signed v next
    unfolding signed_at
    signed_good v next =
        pick_case (λ (x : Value). x ≡ Got v next → Signed v next) (eqb (byte_at s at) minus)
        (λ m. negative v next (plain_at down s (at + 1)) refl (eqb-true (byte_at s at) minus m))
        (λ _. positive v next (plain_at up s at) refl)

    pub signed_read :
        (v : ℕ) → bias ≤ v + down → v ≤ bias + up → Stands (signed bias v) s at → NoDigit s (at + length (signed bias v)) →
        signed_at bias down up s at ≡ Got v (at + length (signed bias v))
    unfolding signed_at
    signed_read v l h st e =
        ⊎_elim
        (λ (g : bias ≤ v).
        let t = signed_above bias v g in
        let d : Stands (decimal (v - bias)) s at = rw t at st in
        let n : NoDigit s (at + length (decimal (v - bias))) = rw t at e in
        let a : bias + (v - bias) ≡ v = omega arith in
        rw (t, ne_eqb (byte_at s at) minus (first_digit s at (v - bias) d), plain_read s at up (v - bias) (omega arith) small' d n, a))
        (λ (g : v < bias).
        let t = signed_below bias v g in
        let d : Stands (minus ∷ decimal (bias - v)) s at = rw t at st in
        let k : at + length (minus ∷ decimal (bias - v)) ≡ at + 1 + length (decimal (bias - v)) = omega arith in
        let n : NoDigit s (at + 1 + length (decimal (bias - v))) = rw (t, k) at e in
        let a : bias - (bias - v) ≡ v = omega arith in
        rw (
          t,
          k,
          eq-eqb (byte_at s at) minus d.1.0,
          plain_read s (at + 1) down (bias - v) (omega arith) small d.1.1 n,
          ne_eqb (bias - v) 0 (λ z. omega arith),
          a,
        ))
        (le_or_lt bias v)
