-- `promises::closure` meets its contract.
use Rattle.promises.proofs.Closed.{closed}
use Rattle.promises.proofs.closure.Goals as goal

pub returns : goal.returns
returns c =
    closed
