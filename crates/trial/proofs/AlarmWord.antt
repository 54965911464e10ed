-- The alarm word, one reference after the other: the first weighs 1, each next twice as much. Assumes nothing.
use Prim.Native.Nat.{ℕ, suc, ◌+◌, ◌*◌, ◌-◌, ◌^◌, ◌<◌, ◌≤◌}
use mathlib.Core.Path.{◌≡◌, refl, sym, ap, ◌∙◌}
use Rattle.std.specs.Prelude.{Option, Some, None}
use mathlib.Core.Bool.{Bool, true, false}
use mathlib.Core.List.{List, ◌∷◌, map}
use native.Mathlib.Omega.{arith}
use native.Mathlib.Nat.{mul-add, mul_assoc, mul-one, mul-zero, pow-suc, pow-le-pow_right, add-zero}
use lib.Dec.{lit<, ltb}
use lib.ListN.{length}
use borrow.Author.Tests.{lt-ltb, le-ltb}
use Rattle.terms.specs.Choice.{pick}
use Rattle.numbers.specs.Blocks.{Bit}
use Rattle.numbers.specs.Types.{pin, alarm_count, bit_ref}
use Rattle.terms.specs.Refusals.{outside}
use Rattle.wire.specs.Reading.{Read, got, fault, and_then}
use Rattle.numbers.specs.Reading.{Marks, typed_at}
use Rattle.program.specs.Program.{references_at, end_at, alarms_at}
use Rattle.expression.specs.Expression.{bit_in}
use Rattle.terms.specs.Bits.{packed}
use Rattle.trial.specs.Trial.{alarmed_of, to_end}

-- one bit more
heavier : (b : Bool) (word weight p : ℕ) → word + weight * (pick b 1 0 + 2 * p) ≡ word + pick b weight 0 + weight * 2 * p
heavier true word weight p = rw (mul-add weight 1 (2 * p), mul-one weight, ← mul_assoc weight 2 p) (omega arith)
heavier false word weight p = rw (mul-add weight 0 (2 * p), mul-zero weight, ← mul_assoc weight 2 p) (omega arith)

pub light : (b : Bool) (word weight : ℕ) → word < weight → word + pick b weight 0 < weight * 2
light true word weight h = omega arith
light false word weight h = omega arith

-- what references that are left come to, with the word so far and the weight of the first of them
abbrev pub more : ℕ → ℕ → List Bool → Read (List Bit) → Option ℕ
more word weight bits (got rs end) = Some (word + weight * packed (map (bit_in bits) rs))
more word weight bits (fault n at) = None

more_begin : (bits : List Bool) (r : Read (List Bit)) → alarmed_of bits r ≡ more 0 1 bits r
more_begin bits (got rs end) = let e : packed (map (bit_in bits) rs) ≡ 0 + 1 * packed (map (bit_in bits) rs) = omega arith in rw (← e)
more_begin bits (fault n at) = refl

more_ref :
    (word weight : ℕ) (bits : List Bool) (s : List ℕ) (b : Bit) (r : Read (List Bit)) →
    more word weight bits (to_end s (and_then r (λ rs end. got (b ∷ rs) end))) ≡ more (word + pick (bit_in bits b) weight 0) (weight * 2) bits (to_end s r)
unfolding end_at
more_ref word weight bits s b (got rs end) = go (ltb end (length s))
  where
    go : (t : Bool)
        → more word weight bits (pick t (fault outside end) (got (b ∷ rs) end))
        ≡ more (word + pick (bit_in bits b) weight 0) (weight * 2) bits (pick t (fault outside end) (got rs end))
    go true = refl
    go false = rw (heavier (bit_in bits b) word weight (packed (map (bit_in bits) rs)))
more_ref word weight bits s b (fault n at) = refl

module _ (word weight : ℕ) (bits : List Bool) (k : Marks) (s : List ℕ) (at : ℕ) where
  more_got : {left v next : ℕ} → 0 < left → typed_at k pin 0 s at ≡ got v next
      → more word weight bits (to_end s (references_at k left s at))
      ≡ more (word + pick (bit_in bits (bit_ref v)) weight 0) (weight * 2) bits (to_end s (references_at k (left - 1) s next))
  unfolding references_at
  more_got {left} {v} {next} h e =
      let d : left ≡ suc (left - 1) = omega arith in
      ap (λ (n : ℕ). more word weight bits (to_end s (references_at k n s at))) d
      ∙ rw e (more_ref word weight bits s (bit_ref v) (references_at k (left - 1) s next))

  more_fault : {left x y : ℕ} → 0 < left → typed_at k pin 0 s at ≡ fault x y → more word weight bits (to_end s (references_at k left s at)) ≡ None
  unfolding references_at
  more_fault {left} h e =
      let d : left ≡ suc (left - 1) = omega arith in
      ap (λ (n : ℕ). more word weight bits (to_end s (references_at k n s at))) d ∙ rw e

  more_over : {left : ℕ} → left ≡ 0 → at < length s → more word weight bits (to_end s (references_at k left s at)) ≡ None
  unfolding references_at end_at
  more_over z h = rw (z, lt-ltb _ _ h)

  more_end : {left : ℕ} → left ≡ 0 → length s ≤ at → more word weight bits (to_end s (references_at k left s at)) ≡ Some word
  unfolding references_at end_at
  more_end z h = rw (z, le-ltb _ _ h, mul-zero weight, add-zero word)

-- the walk over the references, where `left` of n are left
pub record Walk (bits : List Bool) (k : Marks) (n : ℕ) (s : List ℕ) (start word weight at left : ℕ) : Type 0 where
  pub most : left ≤ n
  pub power : weight ≡ 2 ^ (n - left)
  pub low : word < weight
  pub sum : alarmed_of bits (to_end s (references_at k n s start)) ≡ more word weight bits (to_end s (references_at k left s at))

module _ (bits : List Bool) (k : Marks) (n : ℕ) (s : List ℕ) (start : ℕ) where
  pub walk_begin : Walk bits k n s start 0 1 start n
  walk_begin =
      let z : n - n ≡ 0 = omega arith in
      record { most = omega arith; power = rw z; low = omega arith; sum = more_begin bits (to_end s (references_at k n s start)) }

  module _ {word weight at left : ℕ} (w : Walk bits k n s start word weight at left) where
    pub walk_on : {v next : ℕ} → 0 < left → typed_at k pin 0 s at ≡ got v next
        → Walk bits k n s start (word + pick (bit_in bits (bit_ref v)) weight 0) (weight * 2) next (left - 1)
    walk_on {v} p e =
        let d : n - (left - 1) ≡ suc (n - left) = omega (arith, w.most) in
        record {
          most = omega (arith, w.most);
          power = rw (d, w.power) (sym (pow-suc 2 (n - left)));
          low = light (bit_in bits (bit_ref v)) word weight w.low;
          sum = w.sum ∙ more_got word weight bits k s at p e;
        }

    pub walk_fault : {x y : ℕ} → 0 < left → typed_at k pin 0 s at ≡ fault x y → None ≡ alarmed_of bits (to_end s (references_at k n s start))
    walk_fault p e = sym (w.sum ∙ more_fault word weight bits k s at p e)

    pub walk_over : left ≡ 0 → at < length s → None ≡ alarmed_of bits (to_end s (references_at k n s start))
    walk_over z h = sym (w.sum ∙ more_over word weight bits k s at z h)

    pub walk_end : left ≡ 0 → length s ≤ at → Some word ≡ alarmed_of bits (to_end s (references_at k n s start))
    walk_end z h = sym (w.sum ∙ more_end word weight bits k s at z h)

    -- a word of at most 32 bits
    pub walk_fits : n ≤ 32 → (word < 2 ^ 32) × (weight ≤ 2 ^ 32)
    walk_fits h =
        let m : n - left ≤ 32 = omega arith in
        let p : 2 ^ (n - left) ≤ 2 ^ 32 = pow-le-pow_right (lit< tt) m in
        let e = w.power in
        let l = w.low in
        (omega arith, omega arith)

-- the alarms, by their count
module _ (bits : List Bool) (k : Marks) (s : List ℕ) (at : ℕ) where
  pub counted : {n next : ℕ} → typed_at k alarm_count 0 s at ≡ got n next
      → alarmed_of bits (to_end s (references_at k n s next)) ≡ alarmed_of bits (alarms_at k s at)
  unfolding alarms_at
  counted e = rw e

  pub uncounted : {x y : ℕ} → typed_at k alarm_count 0 s at ≡ fault x y → None ≡ alarmed_of bits (alarms_at k s at)
  unfolding alarms_at
  uncounted e = rw e
