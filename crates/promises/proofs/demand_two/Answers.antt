-- `promises::demand_two` meets its contract: the controller and the rules go in step, by closure.
use Rattle.promises.proofs.Closed.{closed}
use Rattle.promises.proofs.Histories.{demand_two}
use Rattle.promises.proofs.demand_two.Goals as goal

pub returns : goal.returns
returns c =
    demand_two closed
