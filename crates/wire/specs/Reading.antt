-- Document 01, "Numbers of refusal": "The program is read front to back; the first fault in reading order is reported".
use Rattle.std.specs.Prelude.{ℕ, ◌≡◌, Result, Ok, Err}
use Rattle.terms.specs.declared.refusal.Fault.{Fault}
use Rattle.terms.specs.Refusals.{number_of}

-- what is read and the place after it, or the number of refusal and its place
pub data Read (A : Type 0) : Type 0 where
  got : A → ℕ → Read A
  fault : ℕ → ℕ → Read A

abbrev pub and_then : {A B : Type 0} → Read A → (A → ℕ → Read B) → Read B
and_then (got a next) f = f a next
and_then (fault n at) f = fault n at

-- something was read
pub data IsGot {A : Type 0} (r : Read A) : Type 0 where
  is_got : (a : A) (next : ℕ) → r ≡ got a next → IsGot r

-- the place after what was read; where nothing was, that of the fault
abbrev pub next_of : {A : Type 0} → Read A → ℕ
next_of (got a next) = next
next_of (fault n at) = at

-- what an answer of the code says: an Ok has what was read and the place after it, an Err a fault
abbrev pub read_of : {A : Type 0} → Result (A × ℕ) Fault → Read A
read_of (Ok (a, next)) = got a next
read_of (Err f) = fault (number_of f.refusal) f.at
