-- `round_trip::round_trip` meets its contract: the laws.
use Rattle.layout.proofs.Outcomes.{one_program, one_place}
use Rattle.round_trip.proofs.Trip.{listed_in_form, there_and_back, left_out}
use Rattle.round_trip.proofs.round_trip.Goals as goal

pub returns : goal.returns
returns c =
    record { in_form = listed_in_form; back = there_and_back; left_out = left_out; one_program = one_program; one_place = one_place }
