-- `grammar::one_reading` meets its contract: the machine of `Builds` builds the only reading, the acceptor of `Places` finds the only place.
use Rattle.grammar.proofs.Builds.{one_reading}
use Rattle.grammar.proofs.Places.{judged, one_place}
use Rattle.grammar.proofs.one_reading.Goals as goal

pub returns : goal.returns
returns c =
    record { judged = judged; one_reading = one_reading; one_place = one_place }
