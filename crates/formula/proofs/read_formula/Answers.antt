-- `formula::read_formula` meets its contract.
use Rattle.formula.proofs.Bounds.{treed, bad_text_lem, too_many, too_deep_lem, small}
use Rattle.formula.proofs.read_formula.Goals as goal
use Rattle.formula.proofs.read_formula.Goals.{then-tree-via-then-tree, then-tree-via-else-tree+then-tree-2}

pub returns-then-tree : goal.returns-then-tree
returns-then-tree c =
    let s = c.args.text.now in
    let x = treed s c.in-Ok.ensures in
    elim c.then-tree.branch [
      | then-tree-via-then-tree w ↦ too_many s x w.if-tree.true c.refuse-then-tree.ensures
      | then-tree-via-else-tree+then-tree-2 w ↦ too_deep_lem s x w.if-tree-2.true c.refuse-then-tree.ensures
    ]

pub returns-in-Err : goal.returns-in-Err
returns-in-Err c = bad_text_lem c.args.text.now c.in-Err.ensures c.refuse.ensures

pub returns-else-tree-2 : goal.returns-else-tree-2
returns-else-tree-2 c =
    let s = c.args.text.now in
    small s (treed s c.in-Ok.ensures) c.if-tree.false c.if-tree-2.false
