-- Laws of a program's alarms: one reference more before the rest, and where they end. Assumes nothing.
use Prim.Native.Nat.{ℕ, suc, ◌-◌, ◌<◌, ◌≤◌}
use mathlib.Core.Path.{◌≡◌, refl, ap, ◌∙◌}
use mathlib.Core.List.{List, ◌∷◌}
use native.Mathlib.Omega.{arith}
use lib.ListN.{length}
use borrow.Author.Tests.{lt-ltb, le-ltb}
use Rattle.terms.specs.Refusals.{outside}
use Rattle.numbers.specs.Blocks.{Bit}
use Rattle.numbers.specs.Types.{pin, alarm_count, bit_ref}
use Rattle.wire.specs.Reading.{Read, got, fault, and_then}
use Rattle.numbers.specs.Reading.{Marks, typed_at}
use Rattle.program.specs.Program.{references_at, end_at, alarms_at}
use Rattle.program.specs.Answers.{end_of}

-- one reference before the rest
references_then : (r : Read ℕ) (f : ℕ → Read (List Bit)) {v next : ℕ} → r ≡ got v next →
    end_of (and_then r (λ v at. and_then (f at) (λ rs end. got (bit_ref v ∷ rs) end))) ≡ end_of (f next)
references_then r f {v} {next} e = rw e (go (f next))
  where
    go : (q : Read (List Bit)) → end_of (and_then q (λ rs end. got (bit_ref v ∷ rs) end)) ≡ end_of q
    go (got rs end) = refl
    go (fault x at) = refl

module _ (k : Marks) (s : List ℕ) (at : ℕ) where
  pub references_got : {n v next : ℕ} → 0 < n → typed_at k pin 0 s at ≡ got v next
      → end_of (references_at k n s at) ≡ end_of (references_at k (n - 1) s next)
  unfolding references_at
  references_got {n} h e =
      let d : n ≡ suc (n - 1) = omega arith in
      ap (λ (n : ℕ). end_of (references_at k n s at)) d ∙ references_then (typed_at k pin 0 s at) (λ at. references_at k (n - 1) s at) e

  pub references_stop : {n x p : ℕ} → 0 < n → typed_at k pin 0 s at ≡ fault x p → end_of (references_at k n s at) ≡ fault x p
  unfolding references_at
  references_stop {n} h e =
      let d : n ≡ suc (n - 1) = omega arith in
      ap (λ (n : ℕ). end_of (references_at k n s at)) d ∙ rw e

  pub references_end : {n : ℕ} → n ≡ 0 → end_of (references_at k n s at) ≡ got at at
  unfolding references_at
  references_end h = rw h

-- what an end tells of what was read
pub data Ended {A : Type 0} (r : Read A) (next : ℕ) : Type 0 where
  ended : (a : A) → r ≡ got a next → Ended r next

pub end_got : {A : Type 0} (r : Read A) {next : ℕ} → end_of r ≡ got next next → Ended r next
end_got (got a n) e = ended a (cc)
end_got (fault x at) e = let z : ◌≡◌ {A = ℕ} 0 1 = cc in absurd (omega arith)

pub end_stop : {A : Type 0} (r : Read A) {x p : ℕ} → end_of r ≡ fault x p → r ≡ fault x p
end_stop (got a n) e = let z : ◌≡◌ {A = ℕ} 0 1 = cc in absurd (omega arith)
end_stop (fault x at) e = cc

-- the alarms, by their count and their references
module _ (k : Marks) (s : List ℕ) (at : ℕ) where
  pub alarms_bad : {x p : ℕ} → typed_at k alarm_count 0 s at ≡ fault x p → fault x p ≡ end_of (alarms_at k s at)
  unfolding alarms_at
  alarms_bad e = rw e

  module _ {n next : ℕ} (e : typed_at k alarm_count 0 s at ≡ got n next) where
    pub alarms_stop : {x p : ℕ} → end_of (references_at k n s next) ≡ fault x p → fault x p ≡ end_of (alarms_at k s at)
    unfolding alarms_at
    alarms_stop h = rw (e, end_stop (references_at k n s next) h)

    pub alarms_more : {end : ℕ} → end_of (references_at k n s next) ≡ got end end → end < length s → fault outside end ≡ end_of (alarms_at k s at)
    unfolding alarms_at end_at
    alarms_more {end} h l = go (end_got (references_at k n s next) h)
      where
        go : Ended (references_at k n s next) end → fault outside end ≡ end_of (alarms_at k s at)
        go (ended rs w) = rw (e, w, lt-ltb _ _ l)

    pub alarms_end : {end : ℕ} → end_of (references_at k n s next) ≡ got end end → length s ≤ end → got end end ≡ end_of (alarms_at k s at)
    unfolding alarms_at end_at
    alarms_end {end} h l = go (end_got (references_at k n s next) h)
      where
        go : Ended (references_at k n s next) end → got end end ≡ end_of (alarms_at k s at)
        go (ended rs w) = rw (e, w, le-ltb _ _ l)
