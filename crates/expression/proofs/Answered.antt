-- What an answer of the code says tells which answer it is. Assumes nothing.
use Rattle.std.proofs.Common.{◌≡◌, refl, ap}
use Rattle.std.specs.Prelude.{Result, Ok, Err}
use Rattle.terms.specs.declared.refusal.Fault.{Fault}
use Rattle.terms.proofs.Refusals.{fault_of, fault_back, undone}
use Rattle.expression.specs.declared.Value.{Value as ValueFound}
use Rattle.expression.specs.Expression.{Value, Done, Broken, value_of_answer}

abbrev answer_of : Value → Result ValueFound Fault
answer_of (Done on steps next left) = Ok (record { on = on; steps = steps; next = next; left = left })
answer_of (Broken n at) = Err (fault_of n at)

back : (a : Result ValueFound Fault) → answer_of (value_of_answer a) ≡ a
back (Ok v) = refl
back (Err f) = ap Err (fault_back f)

pub one_value : (a b : Result ValueFound Fault) → value_of_answer a ≡ value_of_answer b → a ≡ b
one_value a b e = undone value_of_answer answer_of back a b e
