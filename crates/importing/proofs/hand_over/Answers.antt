-- `importing::hand_over` meets its contract: refused, too long for the buffer, or handed over.
use Rattle.importing.proofs.Importing.{hands_refusal, hands_short, hands_all}
use Rattle.importing.proofs.hand_over.Goals as goal

pub returns-then-a-ne0 : goal.returns-then-a-ne0
returns-then-a-ne0 c =
    hands_refusal c.accept-a.ensures c.if-a-ne0.true c.refuse.ensures

pub returns-then-out-program : goal.returns-then-out-program
returns-then-out-program c =
    hands_short c.accept-a.ensures c.if-a-ne0.false c.if-out-program.true c.refuse-then-out-program.ensures

pub returns : goal.returns
returns c =
    hands_all c.accept-a.ensures c.if-a-ne0.false c.if-out-program.false c.finish.ensures
    c.put.ensures.bytes
