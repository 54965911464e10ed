-- Request L1, "Formulas typed as text": what is promised of what is answered. That "every text has one reading or none" is `Readings` of the grammar.
use Rattle.std.specs.Prelude.{ℕ, ◌+◌, ◌≡◌, ◌↔◌, true, List, length, take}
use Rattle.terms.specs.Choice.{every}
use Rattle.terms.specs.Refusals.{bad_text, outside}
use Rattle.wire.specs.Facts.{Stands}
use Rattle.wire.specs.Reading.{got}
use Rattle.numbers.specs.Blocks.{Expr, leaves, nodes}
use Rattle.numbers.specs.Reading.{Marks, bit_marked}
use Rattle.nodes.specs.Reading.{most_deep, most_nodes, expr_at}
use Rattle.writing.specs.Expressions.{operator_first, bytes_of}
use Rattle.grammar.specs.Grammar.{Formula}
use Rattle.grammar.specs.Readings.{BadAt}
use Rattle.formula.specs.declared.Expression.{Expression}
use Rattle.formula.specs.Answers.{Small, Large, Answers}

-- a good text within the bounds, and one over a bound
pub data Fits (s : List ℕ) : Type 0 where
  fits : (t : Expr) → Formula s t → Small t → Fits s

pub data Over (s : List ℕ) : Type 0 where
  over : (t : Expr) → Formula s t → Large t → Over s

-- the node numbers that are answered
abbrev pub nodes_in : Expression → List ℕ
nodes_in r = take r.count r.nodes

pub record Typed : Type 0 where
  -- every text is answered, and in one way
  pub answered : (s : List ℕ) → (r : Expression) × Answers s r
  pub one_answer : (s : List ℕ) (q r : Expression) → Answers s q → Answers s r → q ≡ r
  -- 7 exactly for bad text, at that place; 2 at 0 exactly for a good one over a bound; nothing else is refused
  pub seven : (s : List ℕ) (r : Expression) (k : ℕ) → Answers s r → ((r.refusal ≡ bad_text) × (r.place ≡ k)) ↔ BadAt s k
  pub two : (s : List ℕ) (r : Expression) → Answers s r → ((r.refusal ≡ outside) × (r.place ≡ 0)) ↔ Over s
  pub none : (s : List ℕ) (r : Expression) → Answers s r → ((r.refusal ≡ 0) × (r.place ≡ 0)) ↔ Fits s
  -- a good text's answer is its tree's node numbers, operator first
  pub numbers :
      (s : List ℕ) (r : Expression) (t : Expr) → Answers s r → r.refusal ≡ 0 → Formula s t → (r.count ≡ nodes t) × (nodes_in r ≡ operator_first t)
  -- and where these stand in a program as its bytes, and all that they refer to is marked, that tree is read
  pub back :
      (s : List ℕ) (r : Expression) (t : Expr) (m : Marks) (p : List ℕ) (at : ℕ) → Answers s r → r.refusal ≡ 0 → Formula s t →
      every (bit_marked m) (leaves t) ≡ true → Stands (bytes_of (nodes_in r)) p at →
      expr_at m most_deep most_nodes p at ≡ got t (at + length (bytes_of (nodes_in r)))
