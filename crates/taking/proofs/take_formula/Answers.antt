-- `taking::take_formula` meets its contract: no space, no formula, or the nodes of its tree.
use Prim.Native.Nat.{◌+◌}
use mathlib.Core.Path.{sym, ◌∙◌}
use native.Mathlib.Omega.{arith}
use borrow.Author.Rules.{part_to_end}
use lib.Seq.{length-take-le}
use Rattle.grammar.specs.Grammar.{space}
use Rattle.grammar.proofs.From.{there}
use Rattle.taking.proofs.Trees.{listed_places, treed_ok, no_space_taken, no_tree_taken, tree_taken}
use Rattle.taking.proofs.take_formula.Goals as goal

pub returns-then-byte_at-ne32 : goal.returns-then-byte_at-ne32
returns-then-byte_at-ne32 c =
    no_space_taken _ _ (λ e. c.if-byte_at-ne32.true (c.byte_at.ensures ∙ e))

-- a byte that is a space is within
pub slice_bounds-list_nodes-start : goal.slice_bounds-list_nodes-start
slice_bounds-list_nodes-start c =
    let a = c.args in let h = there a.line.now a.at space (omega arith) (sym c.byte_at.ensures ∙ c.if-byte_at-ne32.false) in
    omega arith

pub overflow_add-start : goal.overflow_add-start
overflow_add-start c =
    record { fits = omega (arith, slice_bounds-list_nodes-start c) }

-- as many nodes as fit have places
pub slice_bounds-put_tree-end : goal.slice_bounds-put_tree-end
slice_bounds-put_tree-end c =
    sym (length-take-le _ _ (omega (arith, listed_places (treed_ok (rw (part_to_end c.args.line.now (c.args.at + 1)) at c.list_nodes.ensures) c.in_ok-tree.ensures.value), c.min-n.ensures)))

pub put_tree-next-requires : goal.put_tree-next-requires
put_tree-next-requires c =
    omega (arith, c.requires, c.min-n.ensures, slice_bounds-put_tree-end c)

pub returns-in_err-tree : goal.returns-in_err-tree
returns-in_err-tree c =
    rw c.from_residual.ensures (no_tree_taken c.args.line.now c.args.at (rw (part_to_end c.args.line.now (c.args.at + 1)) at c.list_nodes.ensures) c.in_err-tree.ensures.value)

pub returns : goal.returns
returns c =
    tree_taken c.args.line.now c.args.at (sym c.byte_at.ensures ∙ c.if-byte_at-ne32.false) (treed_ok (rw (part_to_end c.args.line.now (c.args.at + 1)) at c.list_nodes.ensures) c.in_ok-tree.ensures.value) c.min-n.ensures c.put_tree-next.ensures c.is_small.ensures

pub slice_bounds-nodes-end : goal.slice_bounds-nodes-end
slice_bounds-nodes-end c =
    omega (arith, listed_places (treed_ok (rw (part_to_end c.args.line.now (c.args.at + 1)) at c.list_nodes.ensures) c.in_ok-tree.ensures.value), c.min-n.ensures)
