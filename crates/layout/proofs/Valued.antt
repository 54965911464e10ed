-- The value of a field at a place of a line: what is read is the text of the number, and its text is read as it, where no digit follows. Assumes nothing.
use Prim.Native.Nat.{ℕ, ◌+◌, ◌-◌, ◌<◌, ◌≤◌}
use mathlib.Core.Path.{◌≡◌, refl, sym}
use mathlib.Core.Bool.{Bool, true, false, not, ◌&&◌, ◌||◌}
use mathlib.Core.Logic.{⊎_elim}
use mathlib.Core.List.{List, ◌∷◌}
use native.Mathlib.Omega.{arith}
use lib.ListN.{length, get_or}
use lib.Dec.{T, ltb, leb, eqb, ltb→lt}
use borrow.Author.Tests.{lt-ltb, le-ltb, ltb-true, le-leb, lt-leb, eqb-true, eqb-false, ne_eqb}
use Rattle.terms.proofs.Choice.{both, pick_case, le_or_lt, never}
use Rattle.terms.proofs.Table.{both_left, both_right, at as entry}
use Rattle.wire.specs.Number.{byte_at}
use Rattle.wire.specs.Facts.{Stands}
use Rattle.numbers.specs.Blocks.{Word, analog, word_of, constant}
use Rattle.numbers.proofs.References.{bit_code_lem}
use Rattle.numbers.specs.Types.{pin, word_pin, plus_minus, divisor, limits, number_types, bit_ref, word_ref}
use Rattle.grammar.specs.Machine.{tens, may_be}
use Rattle.grammar.proofs.From.{there}
use Rattle.spelling.specs.Spelling.{Digits}
use Rattle.spelling.specs.Spelling.{Got as DigitsGot, Bad as DigitsBad}
use Rattle.spelling.specs.Spelling.{Named}
use Rattle.spelling.specs.Spelling.{Bit as BitName, NoName}
use Rattle.spelling.specs.Spelling.{digits_at, name_at}
use Rattle.forms.proofs.Numbers.{bit_in_range}
use Rattle.shown.specs.Show.{in_digits}
use Rattle.values.specs.Reading.{Value}
use Rattle.values.specs.Reading.{Got}
use Rattle.values.specs.Values.{letter_a, letter_w, constant_bias, word_name, bias_of, value_text, in_field}
use Rattle.values.specs.Reading.{signed_at, analog_of, word_of_block, word_at, bit_of, value_at}
use Rattle.layout.proofs.Runs.{in_digits_long}
use Rattle.layout.proofs.Signed.{Read, NoDigit, signed_first, signed_good, signed_read}
use Rattle.layout.proofs.Names.{digits_read, digits_told, name_told, name_read}

-- a word by its number
word_analog : (v : ℕ) → v < 8 → word_ref v ≡ analog v
unfolding word_ref
word_analog v h = rw (lt-ltb v 8 h)

word_block : (v : ℕ) → 8 ≤ v → v < 208 → word_ref v ≡ word_of (v - 8)
unfolding word_ref
word_block v l h = rw (le-ltb v 8 l, lt-ltb v 208 h)

word_constant : (v : ℕ) → 208 ≤ v → word_ref v ≡ constant v
unfolding word_ref
word_constant v l = rw (le-ltb v 8 (omega arith), le-ltb v 208 l)

-- the numbers of a word
word_low : (v : ℕ) → v < 208 → in_field word_pin v ≡ true
unfolding in_field
word_low v h = rw (lt-ltb v 66536 (omega arith), lt-leb 208 v h)

word_high : (v : ℕ) → 1000 ≤ v → v ≤ 66535 → in_field word_pin v ≡ true
unfolding in_field
word_high v l h = rw (lt-ltb v 66536 (omega arith), le-leb 208 v (omega arith), le-ltb v 1000 l)

in_range : (ty v : ℕ) → in_field ty v ≡ true → v < get_or limits ty 0
unfolding in_field
in_range ty v e = ltb-true v (get_or limits ty 0) (both (ltb v (get_or limits ty 0)) (not (eqb ty word_pin && (leb 208 v && ltb v 1000))) e).0

no_gap : (v : ℕ) → in_field word_pin v ≡ true → 208 ≤ v → 1000 ≤ v
unfolding in_field
no_gap v e l =
    ⊎_elim (λ (h : 1000 ≤ v). h)
    (λ (h : v < 1000).
    let z : ◌≡◌ {A = Bool} (ltb v 66536 && not (leb 208 v && ltb v 1000)) true = e in
    let y : (ltb v 66536 && false) ≡ true = rw (le-leb 208 v l, lt-ltb v 1000 h) at z in
    never (sym (both (ltb v 66536) false y).1))
    (le_or_lt 1000 v)

-- the range of a type that is neither a bit nor a word
record Wide (ty : ℕ) : Type 0 where
  above : bias_of ty < get_or limits ty 0
  high : get_or limits ty 0 < 70000
  low : bias_of ty ≤ 32768

wide : (ty : ℕ) → ty < number_types → Wide ty
unfolding bias_of
wide ty h =
    let t : T (ltb (bias_of ty) (get_or limits ty 0) && ltb (get_or limits ty 0) 70000) =
    entry (λ (k : ℕ) (l : ℕ). ltb (bias_of k) l && ltb l 70000) 0 limits tt ty h in
    record {
      above = ltb→lt _ _ (both_left (ltb (bias_of ty) (get_or limits ty 0)) _ t);
      high = ltb→lt _ _ (both_right (ltb (bias_of ty) (get_or limits ty 0)) _ t);
      low = pick_case (λ (b : ℕ). b ≤ 32768) (eqb ty plus_minus || eqb ty divisor) (λ _. omega arith) (λ _. omega arith);
    }

-- any of its numbers has a text
plain_range : (ty v : ℕ) → (ty ≡ word_pin → ⊥) → v < get_or limits ty 0 → in_field ty v ≡ true
unfolding in_field
plain_range ty v n h = rw (lt-ltb v (get_or limits ty 0) h, ne_eqb ty word_pin n)

module _ (s : List ℕ) (at : ℕ) where
  -- a value that was read
  unfoldable pub Told : ℕ → ℕ → ℕ → Type 0
  Told ty v next = Read s (value_text ty v) at next × (in_field ty v ≡ true)

  ToldWord : ℕ → ℕ → Type 0
  ToldWord v next = Read s (word_name (word_ref v)) at next × (in_field word_pin v ≡ true)

  analog_told : (v next : ℕ) (d : Digits) → digits_at 2 0 1 8 s (at + 1) ≡ d → byte_at s at ≡ letter_a → analog_of d ≡ Got v next → ToldWord v next
  unfolding ToldWord word_name may_be tens
  analog_told v next (DigitsBad q) e b g = let z : ◌≡◌ {A = ℕ} 0 1 = cc in absurd (omega arith)
  analog_told v next (DigitsGot n q) e b g =
      let o = digits_told s 1 8 2 n (at + 1) q refl e in
      let a : n - 1 ≡ v = cc in
      let c : q ≡ next = cc in
      let f : v + 1 ≡ n = omega (arith, o.1.0) in
      let r : Read s (letter_a ∷ in_digits 2 n) at next =
      record { stands = (there s at letter_a (omega arith) b, (b, o.0.stands)); end = omega (arith, o.0.end) } in
      (rw (word_analog v (omega (arith, o.1.1, o.1.0)), f) r, word_low v (omega (arith, o.1.1)))

  block_told : (v next : ℕ) (d : Digits) → digits_at 3 0 0 199 s (at + 1) ≡ d → byte_at s at ≡ letter_w → word_of_block d ≡ Got v next → ToldWord v next
  unfolding ToldWord word_name may_be tens
  block_told v next (DigitsBad q) e b g = let z : ◌≡◌ {A = ℕ} 0 1 = cc in absurd (omega arith)
  block_told v next (DigitsGot n q) e b g =
      let o = digits_told s 0 199 3 n (at + 1) q refl e in
      let a : n + 8 ≡ v = cc in
      let c : q ≡ next = cc in
      let f : v - 8 ≡ n = omega arith in
      let r : Read s (letter_w ∷ in_digits 3 n) at next =
      record { stands = (there s at letter_w (omega arith) b, (b, o.0.stands)); end = omega (arith, o.0.end) } in
      (rw (word_block v (omega arith) (omega (arith, o.1.1)), f) r, word_low v (omega (arith, o.1.1)))

  constant_told : (v next : ℕ) → signed_at constant_bias 32768 32767 s at ≡ Got v next → ToldWord v next
  unfolding ToldWord word_name
  constant_told v next e =
      let o = signed_good s at constant_bias 32768 32767 (omega arith) (omega arith) (omega arith) v next e in
      (rw (word_constant v (omega (arith, o.1.0))) o.0, word_high v (omega (arith, o.1.0)) (omega (arith, o.1.1)))

  word_told : (v next : ℕ) → word_at s at ≡ Got v next → ToldWord v next
  unfolding word_at
  word_told v next =
      let b = byte_at s at in
      pick_case (λ (x : Value). x ≡ Got v next → ToldWord v next) (eqb b letter_a)
      (λ e. analog_told v next (digits_at 2 0 1 8 s (at + 1)) refl (eqb-true b letter_a e))
      (λ _. pick_case (λ (x : Value). x ≡ Got v next → ToldWord v next) (eqb b letter_w)
      (λ e. block_told v next (digits_at 3 0 0 199 s (at + 1)) refl (eqb-true b letter_w e))
      (λ _. constant_told v next))

  bit_told : (v next : ℕ) (n : Named) → name_at s at ≡ n → bit_of n ≡ Got v next → Told pin v next
  unfolding Told value_text
  bit_told v next (NoName q) e g = let z : ◌≡◌ {A = ℕ} 0 1 = cc in absurd (omega arith)
  bit_told v next (BitName r q) e g =
      let a : r ≡ v = cc in
      let b : q ≡ next = cc in
      let o = name_told s at r q e in
      let k : v < 234 = omega (arith, o.1) in
      (rw (← a, ← b) o.0, plain_range pin v (λ z. omega arith) k)

  number_told :
      (ty v next : ℕ) → ty < number_types → (ty ≡ pin → ⊥) → (ty ≡ word_pin → ⊥) →
      signed_at (bias_of ty) (bias_of ty) (get_or limits ty 0 - 1 - bias_of ty) s at ≡ Got v next → Told ty v next
  unfolding Told value_text
  number_told ty v next h np nw e =
      let w = wide ty h in
      let o = signed_good s at (bias_of ty) (bias_of ty) (get_or limits ty 0 - 1 - bias_of ty) (omega arith) (omega (arith, w.low)) (omega (arith, w.high)) v next e in
      (rw (ne_eqb ty pin np, ne_eqb ty word_pin nw) o.0, plain_range ty v nw (omega (arith, w.above, o.1.1)))

  told_word : (ty v next : ℕ) → ty ≡ word_pin → ToldWord v next → Told ty v next
  unfolding Told ToldWord value_text
  told_word ty v next e o = rw e o

  pub value_told : (ty v next : ℕ) → ty < number_types → value_at ty s at ≡ Got v next → Told ty v next
  unfolding value_at
  value_told ty v next h =
      pick_case (λ (x : Value). x ≡ Got v next → Told ty v next) (eqb ty pin)
      (λ e g. let a : pin ≡ ty = sym (eqb-true ty pin e) in rw a at (bit_told v next (name_at s at) refl g))
      (λ np. pick_case (λ (x : Value). x ≡ Got v next → Told ty v next) (eqb ty word_pin)
      (λ e g. told_word ty v next (eqb-true ty word_pin e) (word_told v next g))
      (λ nw. number_told ty v next h (eqb-false ty pin np) (eqb-false ty word_pin nw)))

  -- the text of a number of a field stands here, and no digit behind it
  pub record Standing (ty v : ℕ) : Type 0 where
    pub text : Stands (value_text ty v) s at
    pub alone : NoDigit s (at + length (value_text ty v))

  -- a word, by the three ways to name it
  ReadWord : ℕ → Word → Type 0
  ReadWord v w = word_at s at ≡ Got v (at + length (word_name w))

  analog_read : (v : ℕ) → v < 8 → Stands (word_name (analog v)) s at → ReadWord v (analog v)
  unfolding ReadWord word_at word_name tens
  analog_read v g st =
      let d = digits_read s 1 8 2 (v + 1) (at + 1) (omega arith) (omega arith) (omega arith) st.1.1 in
      let a : v + 1 - 1 ≡ v = omega arith in
      let c : at + length (letter_a ∷ in_digits 2 (v + 1)) ≡ at + 1 + 2 = omega (arith, in_digits_long 2 (v + 1)) in
      rw (st.1.0, d, a, c)

  block_read : (v : ℕ) → 8 ≤ v → v < 208 → Stands (word_name (word_of (v - 8))) s at → ReadWord v (word_of (v - 8))
  unfolding ReadWord word_at word_name tens
  block_read v l g st =
      let d = digits_read s 0 199 3 (v - 8) (at + 1) (omega arith) (omega arith) (omega arith) st.1.1 in
      let a : v - 8 + 8 ≡ v = omega arith in
      let c : at + length (letter_w ∷ in_digits 3 (v - 8)) ≡ at + 1 + 3 = omega (arith, in_digits_long 3 (v - 8)) in
      rw (st.1.0, d, a, c)

  constant_read : (v : ℕ) → 1000 ≤ v → v < 66536 → Stands (word_name (constant v)) s at → NoDigit s (at + length (word_name (constant v))) → ReadWord v (constant v)
  unfolding ReadWord word_at word_name
  constant_read v l g st n =
      let o = signed_first s at constant_bias v st in
      rw (ne_eqb (byte_at s at) letter_a (λ z. omega (arith, o)), ne_eqb (byte_at s at) letter_w (λ z. omega (arith, o)))
      (signed_read s at constant_bias 32768 32767 (omega arith) (omega arith) (omega arith) v (omega arith) (omega arith) st n)

  word_read : (v : ℕ) → in_field word_pin v ≡ true → Stands (word_name (word_ref v)) s at → NoDigit s (at + length (word_name (word_ref v))) → ReadWord v (word_ref v)
  word_read v h st n =
      let b = in_range word_pin v h in
      ⊎_elim
      (λ (l : 208 ≤ v).
      let e = word_constant v l in
      rw e (constant_read v (no_gap v h l) b (rw e at st) (rw e at n)))
      (λ (l : v < 208).
      ⊎_elim (λ (g : 8 ≤ v). let e = word_block v g l in rw e (block_read v g l (rw e at st)))
      (λ (g : v < 8). let e = word_analog v g in rw e (analog_read v g (rw e at st))) (le_or_lt 8 v))
      (le_or_lt 208 v)

  unfoldable pub ReadAs : ℕ → ℕ → Type 0
  ReadAs ty v = value_at ty s at ≡ Got v (at + length (value_text ty v))

  bit_read : (v : ℕ) → v < 234 → Standing pin v → ReadAs pin v
  unfolding ReadAs value_at value_text
  bit_read v h st = rw (name_read s at (bit_ref v) (bit_in_range v h) st.text, bit_code_lem v)

  told_as_word : (v : ℕ) → in_field word_pin v ≡ true → Standing word_pin v → ReadAs word_pin v
  unfolding ReadAs ReadWord value_at value_text
  told_as_word v f st = word_read v f st.text st.alone

  number_read : (ty v : ℕ) → ty < number_types → (ty ≡ pin → ⊥) → (ty ≡ word_pin → ⊥) → v < get_or limits ty 0 → Standing ty v → ReadAs ty v
  unfolding ReadAs value_at value_text
  number_read ty v h np nw l st =
      let w = wide ty h in
      let p = ne_eqb ty pin np in
      let q = ne_eqb ty word_pin nw in
      rw (p, q)
      (signed_read s at (bias_of ty) (bias_of ty) (get_or limits ty 0 - 1 - bias_of ty) (omega arith) (omega (arith, w.low)) (omega (arith, w.high)) v
      (omega arith) (omega (arith, w.above)) (rw (p, q) at st.text) (rw (p, q) at st.alone))

  pub value_read : (ty v : ℕ) → ty < number_types → in_field ty v ≡ true → Standing ty v → ReadAs ty v
  value_read ty v h f st = by_bit (eqb ty pin) refl
    where
      by_word : (b : Bool) → eqb ty word_pin ≡ b → eqb ty pin ≡ false → ReadAs ty v
      by_word true e n = let a = eqb-true ty word_pin e in rw a (told_as_word v (rw a at f) (rw a at st))
      by_word false e n = number_read ty v h (eqb-false ty pin n) (eqb-false ty word_pin e) (in_range ty v f) st

      by_bit : (b : Bool) → eqb ty pin ≡ b → ReadAs ty v
      by_bit true e = let a = eqb-true ty pin e in rw a (bit_read v (rw a at (in_range ty v f)) (rw a at st))
      by_bit false e = by_word (eqb ty word_pin) refl e
