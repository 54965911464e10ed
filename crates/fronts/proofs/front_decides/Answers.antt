-- `fronts::front_decides` meets its contract: the laws.
use Rattle.fronts.proofs.Bytes.{small_whole, kept_short, alarms_short}
use Rattle.fronts.proofs.Fronts.{front_decides, front_accepted}
use Rattle.fronts.proofs.front_decides.Goals as goal

pub returns : goal.returns
returns c =
    record { decides = front_decides; good_whole = front_accepted; kept_short = kept_short; small_whole = small_whole; alarms_short = alarms_short }
