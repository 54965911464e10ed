-- `kinds::figure_of` meets its contract, by its test.
use Rattle.kinds.specs.Kinds.{figure_for}
use borrow.Author.Tests.{eq-eqb, ne_eqb}
use Rattle.kinds.proofs.figure_of.Goals as goal

pub returns-then-nodes-eq0 : goal.returns-then-nodes-eq0
unfolding figure_for
returns-then-nodes-eq0 c =
    rw (eq-eqb _ _ c.if-nodes-eq0.true)

pub returns-else-nodes-eq0 : goal.returns-else-nodes-eq0
unfolding figure_for
returns-else-nodes-eq0 c =
    rw (ne_eqb _ _ c.if-nodes-eq0.false)
