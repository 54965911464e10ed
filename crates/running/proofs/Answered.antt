-- What an answer of the code says tells which answer it is. Assumes nothing.
use Rattle.std.proofs.Common.{◌≡◌, refl, ap}
use Rattle.std.specs.Prelude.{Result, Ok, Err}
use Rattle.terms.specs.declared.refusal.Fault.{Fault}
use Rattle.terms.proofs.Refusals.{fault_back, undone}
use Rattle.block.proofs.Answered.{answer_of}
use Rattle.running.specs.declared.Turned.{Turned}
use Rattle.running.specs.Turns.{turned_of_answer}

back : (a : Result Turned Fault) → answer_of (turned_of_answer a) ≡ a
back (Ok t) = refl
back (Err f) = ap Err (fault_back f)

pub one_turn : (a b : Result Turned Fault) → turned_of_answer a ≡ turned_of_answer b → a ≡ b
one_turn a b e = undone turned_of_answer answer_of back a b e
