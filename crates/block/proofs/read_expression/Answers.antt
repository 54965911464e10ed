-- `block::read_expression` meets its contract: the expression that is passed over.
use Rattle.block.proofs.Rows.{tree_full, tree_stopped}
use Rattle.nodes.proofs.Expressions.{expr_whole, expr_fault}
use Rattle.terms.proofs.Refusals.{handed_on}
use mathlib.Core.Path.{sym}
use Rattle.block.proofs.read_expression.Goals as goal

pub returns-in_err-left : goal.returns-in_err-left
returns-in_err-left c =
    rw (handed_on _ c.from_residual.ensures.1) (tree_stopped _ _ _ (expr_fault _ _ _ _ _ (sym c.in_err-left.ensures)))

pub overflow_sub-result : goal.overflow_sub-result
overflow_sub-result c =
    (tree_full _ _ _ (expr_whole _ _ _ _ _ (sym c.in_ok-left.ensures))).0

pub returns : goal.returns
returns c =
    (tree_full _ _ _ (expr_whole _ _ _ _ _ (sym c.in_ok-left.ensures))).1
