-- Document 01, "Program bytes": what the bytes of an expression mean.
use Rattle.std.specs.Prelude.{List, ℕ, zero, suc, ◌-◌, leb, eqb, Result, Ok, Err}
use Rattle.terms.specs.Choice.{pick}
use Rattle.terms.specs.Refusals.{outside, number_of}
use Rattle.terms.specs.declared.refusal.Fault.{Fault as Refused}
use Rattle.wire.specs.Reading.{Read, got, fault, and_then}
use Rattle.numbers.specs.Blocks.{Expr, ref, inv, gate, nodes}
use Rattle.numbers.specs.Types.{node_number, bit_ref}
use Rattle.numbers.specs.Reading.{Marks, typed_at}
use Rattle.nodes.specs.declared.Node.{Node as NodeRead}
use Rattle.nodes.specs.declared.Node.TheVariants.{Leaf as LeafRead, One as OneRead, Two as TwoRead}

-- "no node is deeper than 16"; "At most 63 nodes"
abbrev pub most_deep : ℕ
most_deep = 16

abbrev pub most_nodes : ℕ
most_nodes = 63

-- a node of an expression and the place after it: a bit reference, an operator of one part or of two; or a refusal and its place
pub data Node : Type 0 where
  Leaf : ℕ → ℕ → Node
  One : ℕ → Node
  Two : ℕ → ℕ → Node
  Stop : ℕ → ℕ → Node

-- "the root has depth 1 .. The fault is at the first node too many or too deep.": what a node's number says, where `depth` levels and `left`
-- nodes are left
abbrev pub node_of : ℕ → ℕ → ℕ → Read ℕ → Node
node_of depth left at (fault n p) = Stop n p
node_of depth left at (got v next) =
    pick (eqb depth 0) (Stop outside at)
    (pick (eqb left 0) (Stop outside at)
    (pick (leb 6 v) (Leaf (v - 6) next)
    (pick (eqb v 0) (One next) (Two v next))))

unfoldable pub head_at : Marks → ℕ → ℕ → List ℕ → ℕ → Node
head_at m depth left s at = node_of depth left at (typed_at m node_number 0 s at)

-- the expression of a node, where `part` reads a part from the nodes left and the place
abbrev pub grow : (ℕ → ℕ → Read Expr) → ℕ → Node → Read Expr
grow part left (Leaf r next) = got (ref (bit_ref r)) next
grow part left (One next) = and_then (part (left - 1) next) (λ t n. got (inv t) n)
grow part left (Two op next) =
    and_then (part (left - 1) next) (λ a n. and_then (part (left - 1 - nodes a) n) (λ b m. got (gate op a b) m))
grow part left (Stop n at) = fault n at

-- "An expression is written operator first": with no level left its first node stops, and there are no parts
unfoldable pub expr_at : Marks → ℕ → ℕ → List ℕ → ℕ → Read Expr
expr_at m zero left s at = grow (λ l n. fault outside n) left (head_at m 0 left s at)
expr_at m (suc depth) left s at = grow (λ l n. expr_at m depth l s n) left (head_at m (suc depth) left s at)

-- an expression passed over: the place after it and the nodes left; or a refusal and its place
pub data Passed : Type 0 where
  Good : ℕ → ℕ → Passed
  Fault : ℕ → ℕ → Passed

-- an expression passed over, of `left` nodes left
abbrev pub passed : ℕ → Read Expr → Passed
passed left (got t next) = Good next (left - nodes t)
passed left (fault n at) = Fault n at

-- what the answers of the code say
abbrev pub node_of_answer : Result (NodeRead × ℕ) Refused → Node
node_of_answer (Ok (LeafRead r, next)) = Leaf r next
node_of_answer (Ok (OneRead, next)) = One next
node_of_answer (Ok (TwoRead op, next)) = Two op next
node_of_answer (Err f) = Stop (number_of f.refusal) f.at

abbrev pub passed_of_answer : Result (ℕ × ℕ) Refused → Passed
passed_of_answer (Ok (left, next)) = Good next left
passed_of_answer (Err f) = Fault (number_of f.refusal) f.at
