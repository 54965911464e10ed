-- What was read is no fault, and what was read first for it is none; and where a row ends. Assumes nothing.
use Prim.Native.Nat.{ℕ}
use mathlib.Core.Path.{◌≡◌, refl}
use mathlib.Core.List.{List}
use native.Mathlib.Omega.{arith}
use Rattle.wire.specs.Reading.{Read, got, fault, and_then, IsGot, is_got, next_of}
use Rattle.numbers.specs.Blocks.{Content}
use Rattle.block.specs.Answers.{row_of}

pub no_fault : {A B : Type 0} {r : Read A} {n at : ℕ} → IsGot r → r ≡ fault n at → B
no_fault (is_got a next e) f = let z : ◌≡◌ {A = ℕ} 0 1 = cc in absurd (omega arith)

pub got_first : {A B : Type 0} (r : Read A) (f : A → ℕ → Read B) → IsGot (and_then r f) → IsGot r
got_first (got a n) f h = is_got a n refl
got_first (fault n at) f h = no_fault h refl

-- the place after a row, whether it is read or refused
pub row_place : (r : Read (List Content)) → next_of (row_of r) ≡ next_of r
unfolding row_of
row_place (got cs next) = refl
row_place (fault n at) = refl
