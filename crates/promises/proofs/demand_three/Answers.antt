-- `promises::demand_three` meets its contract: the journal keeps what the ledger says, by closure.
use Rattle.promises.proofs.Closed.{closed}
use Rattle.promises.proofs.Histories.{demand_three}
use Rattle.promises.proofs.demand_three.Goals as goal

pub returns : goal.returns
returns c =
    demand_three closed
