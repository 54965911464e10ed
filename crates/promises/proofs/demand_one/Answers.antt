-- `promises::demand_one` meets its contract: each call by its table.
use Rattle.order.proofs.Orders.{in_order}
use Rattle.promises.proofs.Refusals.{scan_exactly, take_exactly}
use Rattle.promises.proofs.demand_one.Goals as goal

pub returns : goal.returns
returns c =
    record { accepting = in_order; scanning = scan_exactly; taking = take_exactly }
