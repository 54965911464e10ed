-- Request L1, "Formulas typed as text": the node numbers of a text, whatever the size of its tree (ours; L1 answers them within its bounds).
use Rattle.std.specs.Prelude.{ℕ, List, replicate, Result, Ok, Err}
use Rattle.std.proofs.lemmas.List.Edits.{sets}
use Rattle.numbers.specs.Blocks.{Expr, nodes}
use Rattle.writing.specs.Expressions.{operator_first, depth}
use Rattle.grammar.specs.Grammar.{Formula}
use Rattle.grammar.specs.Readings.{BadAt}
use Rattle.parsing.specs.declared.Tree.{Tree}

-- one place more than an expression may have nodes: so the first too many has one (ours)
abbrev pub places : ℕ
places = 64

-- no nodes; and "the node numbers of 01" in their places, as far as there are places, zeros behind them
abbrev pub no_nodes : List ℕ
no_nodes = replicate places 0

unfoldable pub nodes_of : Expr → List ℕ
nodes_of t = sets no_nodes 0 (operator_first t)

-- what is answered of a tree, whatever its size; and of a text that is bad at a place
abbrev pub listed_tree : Expr → Tree
listed_tree t = record { count = nodes t; deep = depth t; nodes = nodes_of t }

pub data Lists (s : List ℕ) : Result Tree ℕ → Type 0 where
  lists : (t : Expr) → Formula s t → Lists s (Ok (listed_tree t))
  lists_none : (k : ℕ) → BadAt s k → Lists s (Err k)
