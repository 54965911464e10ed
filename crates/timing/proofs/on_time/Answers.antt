-- `timing::on_time` meets its contract: the law.
use Rattle.timing.proofs.Counting.{on_time}
use Rattle.timing.proofs.on_time.Goals as goal

pub returns : goal.returns
returns c =
    on_time
