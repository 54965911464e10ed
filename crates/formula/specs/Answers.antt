-- Request L1, "Formulas typed as text": what is answered of a text.
use Rattle.std.specs.Prelude.{ℕ, ◌<◌, ◌≤◌, List}
use Rattle.terms.specs.Refusals.{bad_text, outside}
use Rattle.numbers.specs.Blocks.{Expr, nodes}
use Rattle.nodes.specs.Reading.{most_deep, most_nodes}
use Rattle.writing.specs.Expressions.{depth}
use Rattle.grammar.specs.Grammar.{Formula}
use Rattle.grammar.specs.Readings.{BadAt}
use Rattle.parsing.specs.Listing.{no_nodes, nodes_of}
use Rattle.formula.specs.declared.Expression.{Expression}

-- "the 63 and 16 bounds"
pub record Small (t : Expr) : Type 0 where
  pub few : nodes t ≤ most_nodes
  pub shallow : depth t ≤ most_deep

pub data Large (t : Expr) : Type 0 where
  many : most_nodes < nodes t → Large t
  deep : most_deep < depth t → Large t

-- "The result is the node numbers of 01"; refused, there are none
abbrev pub expression : Expr → Expression
expression t = record { refusal = 0; place = 0; count = nodes t; nodes = nodes_of t }

abbrev pub refused : ℕ → ℕ → Expression
refused n at = record { refusal = n; place = at; count = 0; nodes = no_nodes }

-- "Refusals: 7 bad text, with the offset of the first byte that no good text with the same beginning could have there ..; then 2 at 0 for the two
-- bounds."
pub data Answers (s : List ℕ) : Expression → Type 0 where
  good : (t : Expr) → Formula s t → Small t → Answers s (expression t)
  bad : (k : ℕ) → BadAt s k → Answers s (refused bad_text k)
  large : (t : Expr) → Formula s t → Large t → Answers s (refused outside 0)
