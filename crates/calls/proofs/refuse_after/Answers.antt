-- `calls::refuse_after` meets its contract: by what acceptance says.
use borrow.Author.Tests.{eq-eqb, ne_eqb}
use Rattle.calls.proofs.refuse_after.Goals as goal

pub returns-then-a-ne0 : goal.returns-then-a-ne0
returns-then-a-ne0 c =
    rw (c.refuse.ensures, ← c.accept-a.ensures, ne_eqb _ _ c.if-a-ne0.true)

pub returns : goal.returns
returns c =
    rw (c.refuse-2.ensures, ← c.accept-a.ensures, eq-eqb _ _ c.if-a-ne0.false)
