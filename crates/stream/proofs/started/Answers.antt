-- `stream::started` meets its contract.
use Rattle.stream.proofs.started.Goals as goal

pub returns : goal.returns
returns c = rw c.fresh.ensures
