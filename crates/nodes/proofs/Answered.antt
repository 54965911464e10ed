-- What an answer of the code says tells which answer it is. Assumes nothing.
use Rattle.std.proofs.Common.{◌≡◌, ℕ, refl, ap}
use Rattle.std.specs.Prelude.{Result, Ok, Err}
use Rattle.terms.specs.declared.refusal.Fault.{Fault as Refused}
use Rattle.terms.proofs.Refusals.{fault_of, fault_back, undone}
use Rattle.nodes.specs.declared.Node.{Node as NodeRead}
use Rattle.nodes.specs.declared.Node.TheVariants.{Leaf as LeafRead, One as OneRead, Two as TwoRead}
use Rattle.nodes.specs.Reading.{Node, Leaf, One, Two, Stop, Passed, Good, Fault, node_of_answer, passed_of_answer}

abbrev node_answer : Node → Result (NodeRead × ℕ) Refused
node_answer (Leaf r next) = Ok (LeafRead r, next)
node_answer (One next) = Ok (OneRead, next)
node_answer (Two op next) = Ok (TwoRead op, next)
node_answer (Stop n at) = Err (fault_of n at)

node_back : (a : Result (NodeRead × ℕ) Refused) → node_answer (node_of_answer a) ≡ a
node_back (Ok (LeafRead r, next)) = refl
node_back (Ok (OneRead, next)) = refl
node_back (Ok (TwoRead op, next)) = refl
node_back (Err f) = ap Err (fault_back f)

pub one_node : (a b : Result (NodeRead × ℕ) Refused) → node_of_answer a ≡ node_of_answer b → a ≡ b
one_node a b e = undone node_of_answer node_answer node_back a b e

abbrev passed_answer : Passed → Result (ℕ × ℕ) Refused
passed_answer (Good next left) = Ok (left, next)
passed_answer (Fault n at) = Err (fault_of n at)

passed_back : (a : Result (ℕ × ℕ) Refused) → passed_answer (passed_of_answer a) ≡ a
passed_back (Ok (left, next)) = refl
passed_back (Err f) = ap Err (fault_back f)

pub one_pass : (a b : Result (ℕ × ℕ) Refused) → passed_of_answer a ≡ passed_of_answer b → a ≡ b
one_pass a b e = undone passed_of_answer passed_answer passed_back a b e
