-- `order::in_order` meets its contract: the law.
use Rattle.order.proofs.Orders.{in_order}
use Rattle.order.proofs.in_order.Goals as goal

pub returns : goal.returns
returns c =
    in_order
