-- What an answer of the code says tells which answer it is. Assumes nothing.
use Rattle.std.proofs.Common.{◌≡◌, ℕ, refl, ap, ◌∙◌}
use Rattle.std.specs.Prelude.{Result, Ok, Err}
use Rattle.terms.specs.declared.refusal.Fault.{Fault}
use Rattle.terms.proofs.Refusals.{fault_of, fault_back, undone}
use Rattle.wire.specs.declared.Unread.{Unread}
use Rattle.wire.specs.declared.Unread.TheVariants.{BadlyFormed, Cut as CutShort}
use Rattle.wire.specs.Number.{Num, Got, Bad, Cut, as_num}
use Rattle.wire.specs.Reading.{Read, got, fault, read_of}

abbrev answer_of : {A : Type 0} → Read A → Result (A × ℕ) Fault
answer_of (got a next) = Ok (a, next)
answer_of (fault n at) = Err (fault_of n at)

back : {A : Type 0} (a : Result (A × ℕ) Fault) → answer_of (read_of a) ≡ a
back (Ok (a, next)) = refl
back (Err f) = ap Err (fault_back f)

pub one_read : {A : Type 0} (a b : Result (A × ℕ) Fault) → read_of a ≡ read_of b → a ≡ b
one_read a b e = undone read_of answer_of back a b e

-- what the code's answer says of a number
abbrev pub num_of : Result (ℕ × ℕ) Unread → Num
num_of (Ok (v, next)) = Got v next
num_of (Err BadlyFormed) = Bad
num_of (Err CutShort) = Cut

pub num_is : (r : Num) {a : Result (ℕ × ℕ) Unread} → as_num r ≡ a → r ≡ num_of a
num_is (Got v next) e = ap num_of e
num_is Bad e = ap num_of e
num_is Cut e = ap num_of e

pub num_unread : (r : Num) {u v : Unread} → as_num r ≡ Err u → u ≡ v → r ≡ num_of (Err v)
num_unread r e f = num_is r (e ∙ ap Err f)
