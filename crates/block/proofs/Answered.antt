-- What an answer of the code says tells which answer it is. Assumes nothing.
use Rattle.std.proofs.Common.{◌≡◌, refl, ap}
use Rattle.std.specs.Prelude.{Result, Ok, Err}
use Rattle.terms.specs.declared.refusal.Fault.{Fault}
use Rattle.terms.proofs.Refusals.{fault_of, fault_back, undone}
use Rattle.wire.specs.Reading.{Read, got, fault}
use Rattle.block.specs.declared.Row.{Row}
use Rattle.block.specs.declared.Brief.{Brief}
use Rattle.block.specs.Answers.{row_of_answer, brief_of_answer}

-- what was read, or the fault
abbrev pub answer_of : {A : Type 0} → Read A → Result A Fault
answer_of (got a next) = Ok a
answer_of (fault n at) = Err (fault_of n at)

row_back : (a : Result Row Fault) → answer_of (row_of_answer a) ≡ a
row_back (Ok row) = refl
row_back (Err f) = ap Err (fault_back f)

pub one_row : (a b : Result Row Fault) → row_of_answer a ≡ row_of_answer b → a ≡ b
one_row a b e = undone row_of_answer answer_of row_back a b e

brief_back : (a : Result Brief Fault) → answer_of (brief_of_answer a) ≡ a
brief_back (Ok x) = refl
brief_back (Err f) = ap Err (fault_back f)

pub one_brief : (a b : Result Brief Fault) → brief_of_answer a ≡ brief_of_answer b → a ≡ b
one_brief a b e = undone brief_of_answer answer_of brief_back a b e
