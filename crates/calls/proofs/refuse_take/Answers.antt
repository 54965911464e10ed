-- `calls::refuse_take` meets its contract.
use Rattle.calls.proofs.refuse_take.Goals as goal

pub returns : goal.returns
returns c =
    rw c.zero.ensures
